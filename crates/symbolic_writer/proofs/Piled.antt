-- Cells piled one on top of the other are the cells laid, where none overlap.
-- Assumes nothing.
use mathlib.Core.Path.{◌≡◌, sym, ap, ◌∙◌}
use mathlib.Core.List.{List, [], ◌∷◌}
use Prim.Native.Nat.{ℕ, ◌+◌, ◌*◌, ◌%◌, ◌^◌, ◌≤◌, ◌<◌}
use native.Mathlib.Nat.{mod-eq_of_lt, mul_assoc, add-mul, add_comm, div-one, lt_of_lt_of_le}
use native.Mathlib.Omega.{arith}
use lib.Arith.{digits_lt}
use lib.Pow.{pow_pos, pow-add, pow_mono}
use Rattle.bits.specs.Field.{field}
use Rattle.bits.proofs.Fields.{field_lt}
use Rattle.integer_sequence.proofs.Search.{append_next}
use Rattle.bits.specs.Cells.{Cell, laid}
use Rattle.bits.proofs.Laid.{Apart, cell_above}
use Rattle.symbolic_writer.specs.inner.Piled.{with_value, piled}

apart_le : (from to : ℕ) (cs : List Cell) → Apart from to cs → from ≤ to
apart_le from to [] h = h
apart_le from to (c ∷ cs) h = let r : c.place + c.width ≤ to = apart_le (c.place + c.width) to cs h.2 in omega (arith, h.0)

-- what lies below bit p is kept
pub below_kept : (B p : ℕ) → B < 2 ^ p → field B 0 p ≡ B
unfolding field
below_kept B p h = rw (div-one B) (mod-eq_of_lt h)

-- a cell above B
module _ (c : Cell) (from B : ℕ) (h : from ≤ c.place) (v : c.value < 2 ^ c.width) (l : B < 2 ^ from) where
  above_is : c.place + c.width ≤ 128 → with_value B c.place c.value ≡ c.value * 2 ^ c.place + B
  unfolding with_value
  above_is m =
      rw (below_kept B c.place (lt_of_lt_of_le l (pow_mono h)), add_comm B (c.value * 2 ^ c.place))
      (mod-eq_of_lt (lt_of_lt_of_le (cell_above c from B h v l) (pow_mono m)))

above : (from : ℕ) (cs : List Cell) → Apart from 128 cs → (B : ℕ) → B < 2 ^ from → piled B cs ≡ laid cs + B
unfolding piled laid
above from [] h B l = omega arith
above from (c ∷ cs) h B l =
    let e : c.value * 2 ^ c.place + laid cs + B ≡ laid cs + (c.value * 2 ^ c.place + B) = omega arith in
    rw (above_is c from B h.0 h.1 l (apart_le (c.place + c.width) 128 cs h.2))
    (above (c.place + c.width) cs h.2 (c.value * 2 ^ c.place + B) (cell_above c from B h.0 h.1 l) ∙ sym e)

-- from an empty block
pub piled_laid : (cs : List Cell) → Apart 0 128 cs → piled 0 cs ≡ laid cs
piled_laid cs h = above 0 cs h 0 (pow_pos 0) ∙ omega arith

-- one value more, of equal parts
pub placed : {B p v b q w r : ℕ} → r ≡ with_value b q w → q ≡ p → b ≡ B → w ≡ v → r ≡ with_value B p v
placed e f g h = e ∙ λ i. with_value (g i) (f i) (h i)

-- one append more
pub appended : {B p v b q w r : ℕ} → r ≡ (field b 0 q + w * 2 ^ q) % 2 ^ 128 → q ≡ p → b ≡ B → w ≡ v → r ≡ with_value B p v
unfolding with_value
appended {B} {p} {v} e f g h = e ∙ λ i. (field (g i) 0 (f i) + h i * 2 ^ f i) % 2 ^ 128

-- a number of 128 bits on top, one half after the other
module _ (B p lo hi : ℕ) (h : lo < 2 ^ 64) where
  top : 2 ^ (p + 64) ≡ 2 ^ 64 * 2 ^ p
  top = ap (λ (x : ℕ). 2 ^ x) (add_comm p 64) ∙ pow-add 2 64 p

  half_lt : field B 0 p + lo * 2 ^ p < 2 ^ (p + 64)
  half_lt = rw (top, add_comm (field B 0 p) (lo * 2 ^ p)) (digits_lt h (field_lt B 0 p))

  both_halves : hi * 2 ^ (p + 64) + (field B 0 p + lo * 2 ^ p) ≡ field B 0 p + (hi * 2 ^ 64 + lo) * 2 ^ p
  both_halves =
      let d : hi * 2 ^ (p + 64) ≡ hi * 2 ^ 64 * 2 ^ p = ap (λ (x : ℕ). hi * x) top ∙ sym (mul_assoc hi (2 ^ 64) (2 ^ p)) in
      omega (arith, d, add-mul (hi * 2 ^ 64) lo (2 ^ p))

  pub in_halves : {b r : ℕ} → b ≡ (field B 0 p + lo * 2 ^ p) % 2 ^ 128 → r ≡ (field b 0 (p + 64) + hi * 2 ^ (p + 64)) % 2 ^ 128
      → r ≡ with_value B p (hi * 2 ^ 64 + lo)
  unfolding with_value
  in_halves e f =
      f ∙ ap (λ (x : ℕ). (field x 0 (p + 64) + hi * 2 ^ (p + 64)) % 2 ^ 128) e ∙ append_next (field B 0 p + lo * 2 ^ p) hi (p + 64) half_lt
      ∙ ap (λ (x : ℕ). x % 2 ^ 128) both_halves
