use mathlib.Core.Path.{◌≡◌, refl}
use mathlib.Core.Bool.{Bool, true, false, ◌||◌}
use Prim.Native.Nat.{ℕ}
use native.Mathlib.Omega.{arith}
use borrow.Author.Tests.{lt-ltb, le-ltb}
use Rattle.laws.specs.Choice.{pick}
use Rattle.block_header.specs.Reasons.{grid_too_large, too_many_weights, weight_bits_outside}
use Rattle.block_header.specs.inner.Stages.{grid_fault}
use Rattle.block_header.proofs.grid_stage.Goals as goal

-- none of three holds
none : (a b c : Bool) → a || (b || c) ≡ false → ◌≡◌ {A = ℕ} 0 (pick a 14 (pick b 15 (pick c 16 0)))
none false false false e = refl
none false false true e = absurd (let z : ◌≡◌ {A = ℕ} 0 1 = cc in omega arith)
none false true c e = absurd (let z : ◌≡◌ {A = ℕ} 0 1 = cc in omega arith)
none true b c e = absurd (let z : ◌≡◌ {A = ℕ} 0 1 = cc in omega arith)

pub returns-then-not-large-many : goal.returns-then-not-large-many
unfolding grid_fault grid_too_large too_many_weights weight_bits_outside
returns-then-not-large-many c =
    rw (← c.width.ensures, ← c.height.ensures, ← c.depth.ensures, ← c.weight_count-many.ensures.0, ← c.requires) (none _ _ _ c.if-not-large-many.true)

pub returns-then-large : goal.returns-then-large
unfolding grid_fault grid_too_large too_many_weights weight_bits_outside
returns-then-large c = rw (← c.width.ensures, ← c.height.ensures, ← c.depth.ensures, c.if-large.true)

pub returns-then-many : goal.returns-then-many
unfolding grid_fault grid_too_large too_many_weights weight_bits_outside
returns-then-many c =
    rw (← c.width.ensures, ← c.height.ensures, ← c.depth.ensures, c.if-large.false, ← c.weight_count-many.ensures.0, lt-ltb _ _ c.if-many.true)

pub returns-else-many : goal.returns-else-many
unfolding grid_fault grid_too_large too_many_weights weight_bits_outside
returns-else-many c =
    rw (← c.width.ensures, ← c.height.ensures, ← c.depth.ensures, c.if-large.false, ← c.weight_count-many.ensures.0, le-ltb _ _ c.if-many.false, ← c.requires, rw (c.if-large.false, le-ltb _ _ c.if-many.false) at c.if-not-large-many.false)
