use mathlib.Core.Path.{◌≡◌, refl, ◌∙◌}
use Prim.Native.Nat.{ℕ, ◌*◌, ◌/◌, ◌%◌, ◌^◌, min}
use native.Mathlib.Omega.{arith}
use lib.Dec.{ltb}
use Rattle.laws.specs.Choice.{pick}
use Rattle.laws.specs.Table.{tab}
use Rattle.quantization.specs.Ranges.{bits_at}
use Rattle.quantization.proofs.Ranges.{same_below, bits_capped}
use borrow.Author.Rules.{rules}
use Rattle.quantization.proofs.bits_at.Goals as goal

-- four bits of the first word, and past it of the second
abbrev told : ℕ → ℕ → ℕ → ℕ
told x y k = pick (ltb k 16) (x / 2 ^ (4 * (k % 16)) % 16) (y / 2 ^ (4 * (k % 16)) % 16)

packed : (x y : ℕ) → tab (told x y) 22 ≡ tab bits_at 22 → (k : ℕ) → told x y (min k 21) ≡ bits_at k
packed x y e k = same_below (told x y) bits_at 22 0 e (min k 21) (omega arith) ∙ bits_capped k

pub returns : goal.returns
unfolding tab bits_at
returns c = rw (c.chosen.ensures, c.place_of-place.ensures) (packed _ _ refl c.args.range)
