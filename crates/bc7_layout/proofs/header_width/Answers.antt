use mathlib.Core.Path.{◌≡◌, refl, sym, ap, ◌∙◌}
use native.Mathlib.Omega.{arith}
use Prim.Native.Nat.{ℕ, ◌+◌, ◌*◌, ◌<◌, ◌≤◌}
use borrow.Author.Tests.{lt-ltb, le-ltb, eq-eqb, ne_eqb}
use Rattle.bc7_layout.specs.Modes.{partition_bits, rotation_bits, selection_bits}
use Rattle.bc7_layout.specs.Layout.{field_width}
use borrow.Author.Rules.{rules}
use Rattle.bc7_layout.proofs.header_width.Goals as goal

pub returns-then-k-eq0 : goal.returns-then-k-eq0
unfolding field_width
returns-then-k-eq0 c = (rw (c.if-k-eq0.true, c.wide.ensures.0), omega (arith, c.wide.ensures.1))

pub returns-then-k-eq1 : goal.returns-then-k-eq1
unfolding field_width partition_bits
returns-then-k-eq1 c = (rw (c.if-k-eq1.true, c.wide-then-k-eq1.ensures.0, c.mode_row-w.ensures), omega (arith, c.wide-then-k-eq1.ensures.1))

pub returns-then-k-eq2 : goal.returns-then-k-eq2
unfolding field_width rotation_bits
returns-then-k-eq2 c = (rw (c.if-k-eq2.true, c.wide-then-k-eq2.ensures.0, c.mode_row-w.ensures), omega (arith, c.wide-then-k-eq2.ensures.1))

pub returns : goal.returns
unfolding field_width selection_bits
returns c = let k = c.args.k in let q : k ≡ 3 = omega arith in (rw (q, c.wide-2.ensures.0, c.mode_row-w.ensures), omega (arith, c.wide-2.ensures.1))
