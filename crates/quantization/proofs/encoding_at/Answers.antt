use mathlib.Core.Path.{◌≡◌, refl, ◌∙◌}
use Prim.Native.Nat.{ℕ, ◌*◌, ◌/◌, ◌%◌, ◌^◌, min}
use native.Mathlib.Omega.{arith}
use lib.Dec.{eqb}
use Rattle.laws.specs.Choice.{pick}
use Rattle.laws.specs.Table.{tab}
use Rattle.encoding.specs.declared.Encoding.{Encoding}
use Rattle.encoding.specs.declared.Encoding.TheVariants.{Bits, Trits, Quints}
use Rattle.quantization.specs.Ranges.{encoding_at}
use Rattle.quantization.proofs.Ranges.{same_below, encoding_capped}
use borrow.Author.Rules.{rules}
use Rattle.quantization.proofs.encoding_at.Goals as goal

-- the encoding that two bits of w tell
abbrev told : ℕ → ℕ → Encoding
told w k = pick (eqb (w / 2 ^ (2 * k) % 4) 0) Bits (pick (eqb (w / 2 ^ (2 * k) % 4) 1) Trits Quints)

packed : (w : ℕ) → tab (told w) 22 ≡ tab encoding_at 22 → (k : ℕ) → told w (min k 21) ≡ encoding_at k
packed w e k = same_below (told w) encoding_at 22 Bits e (min k 21) (omega arith) ∙ encoding_capped k

pub returns : goal.returns
unfolding tab encoding_at
returns c = rw (c.encoding_told.ensures, c.place_of.ensures) (packed _ refl c.args.range)
