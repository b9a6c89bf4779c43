-- What is told and put, test by test.
-- Assumes nothing.
use mathlib.Core.Path.{◌≡◌, refl, ◌∙◌}
use mathlib.Core.List.{List, [], ◌∷◌}
use Prim.Native.Nat.{ℕ}
use native.Mathlib.Omega.{arith}
use lib.ListN.{length}
use borrow.Author.Tests.{eq-eqb, ne_eqb}
use Rattle.laws.specs.inner.Filled.{put_four}
use Rattle.image_texel.specs.Asking.{Asked}
use Rattle.texel_numbers.specs.Calls.{texel_told, texel_out}

module _ (a : Asked) (n : ℕ) where
  pub told_refused_lem : (a.refusal ≡ 0 → ⊥) → a.refusal ≡ texel_told a n
  unfolding texel_told
  told_refused_lem e = rw (ne_eqb a.refusal 0 e)

  pub told_short : a.refusal ≡ 0 → (n ≡ 4 → ⊥) → 5 ≡ texel_told a n
  unfolding texel_told
  told_short e k = rw (eq-eqb a.refusal 0 e, ne_eqb n 4 k)

  pub told_fault : a.refusal ≡ 0 → n ≡ 4 → a.fault ≡ texel_told a n
  unfolding texel_told
  told_fault e k = rw (eq-eqb a.refusal 0 e, eq-eqb n 4 k)

four_put : (l : List ℕ) (r g b a : ℕ) → length l ≡ 4 → put_four l 0 r g b a ≡ r ∷ g ∷ b ∷ a ∷ []
four_put [] r g b a e = absurd (omega (arith, e))
four_put (x ∷ []) r g b a e = absurd (omega (arith, e))
four_put (x ∷ y ∷ []) r g b a e = absurd (omega (arith, e))
four_put (x ∷ y ∷ z ∷ []) r g b a e = absurd (omega (arith, e))
four_put (x ∷ y ∷ z ∷ w ∷ []) r g b a e = refl
four_put (x ∷ y ∷ z ∷ w ∷ v ∷ l) r g b a e = absurd (omega (arith, e))

pub put_four_lem : (a : Asked) (l : List ℕ) → length l ≡ 4 → put_four l 0 a.texel.r a.texel.g a.texel.b a.texel.a ≡ texel_out a l
unfolding texel_out
put_four_lem a l e = four_put l _ _ _ _ e ∙ rw (eq-eqb (length l) 4 e)

pub put_none : (a : Asked) (l : List ℕ) → (length l ≡ 4 → ⊥) → l ≡ texel_out a l
unfolding texel_out
put_none a l e = rw (ne_eqb (length l) 4 e)
