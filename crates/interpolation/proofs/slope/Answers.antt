-- `interpolation::slope` meets its contract.
use Rattle.std.proofs.Common.{◌≡◌, ℕ, ◌+◌, ◌%◌, ◌^◌, ◌<◌, ◌≤◌, arith, rules}
use Rattle.interpolation.specs.inner.Line.{minus}
use Rattle.interpolation.proofs.slope.Goals as goal

-- what b added to gives a is their difference
back : (a b r : ℕ) → r < 2 ^ 16 → b ≤ 255 → (r + b) % 2 ^ 16 ≡ a → r ≡ minus a b
unfolding minus
back a b r hr hb e = omega arith

pub returns : goal.returns
returns c = back _ _ _ c.wrapping_sub_u16.type_inv (omega arith) c.wrapping_sub_u16.ensures.value
