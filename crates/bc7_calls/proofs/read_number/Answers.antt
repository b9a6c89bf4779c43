use mathlib.Core.Path.{sym, ◌∙◌}
use native.Mathlib.Omega.{arith}
use Rattle.bc7_block.proofs.Known.{known-mode}
use Rattle.bc7_calls.proofs.Laws.{faulty, done}
use Rattle.bc7_calls.proofs.read_number.Goals as goal

pub returns-then-m-eq8 : goal.returns-then-m-eq8
returns-then-m-eq8 c = c.told.ensures ∙ faulty _ (sym c.mode_at-m.ensures.0 ∙ c.if-m-eq8.true)

pub read_fields-f-requires : goal.read_fields-f-requires
read_fields-f-requires c = let k = known-mode _ (λ q. c.if-m-eq8.false (c.mode_at-m.ensures.0 ∙ q)) in (c.mode_at-m.ensures.0, omega (arith, c.mode_at-m.ensures.0, k.1))

pub returns : goal.returns
returns c = done _ _ _ _ c.mode_at-m.ensures.0 c.if-m-eq8.false c.read_fields-f.ensures (rw c.sheet_of-block.ensures)
