use mathlib.Core.Path.{◌≡◌, refl, sym, ap, ◌∙◌}
use native.Mathlib.Omega.{arith}
use Prim.Native.Nat.{ℕ, ◌+◌, ◌-◌, ◌*◌, ◌^◌, ◌≤◌, ◌<◌}
use native.Mathlib.Nat.{lt_of_lt_of_le, min-eq_left}
use lib.Pow.{pow_mono}
use Rattle.bits.specs.Field.{field, stream}
use Rattle.bits.proofs.Fields.{field_lt}
use Rattle.bits.specs.Block.{block_number}
use borrow.Author.Rules.{rules}
use Rattle.bc7_layout.proofs.small_field.Goals as goal

pub overflow_cast-result : goal.overflow_cast-result
overflow_cast-result c = let w : c.args.w ≤ 64 = omega arith in let e : c.field_at.result ≡ field (block_number c.args.b) c.args.p c.args.w = c.field_at.ensures ∙ rw (min-eq_left w) in record { fits = rw e (lt_of_lt_of_le (field_lt _ _ c.args.w) (pow_mono {j = 8} c.requires)) }

pub returns : goal.returns
returns c = let w : c.args.w ≤ 64 = omega arith in c.field_at.ensures ∙ rw (min-eq_left w)
