-- The image call: its refusals leave the buffer, and an image that is not refused fills it.
-- Assumes nothing.
use mathlib.Core.Path.{◌≡◌, refl, sym, ap, ap₂, subst, ◌∙◌}
use mathlib.Core.Bool.{Bool, true, false, not}
use mathlib.Core.List.{List}
use Prim.Native.Nat.{ℕ, ◌*◌, ◌/◌, ◌%◌, ◌^◌}
use native.Mathlib.Omega.{arith}
use lib.Dec.{T}
use lib.ListN.{length}
use borrow.Author.Tests.{eq-eqb, ne_eqb, eqb-true}
use Rattle.laws.specs.Table.{tab}
use Rattle.laws.proofs.Reasons.{None, first_none, either_none}
use Rattle.reason.specs.declared.Refusal.{Refusal}
use Rattle.reason.specs.Numbers.{refusal_number}
use Rattle.reason.proofs.Told.{refusal_some}
use Rattle.pvrtc_texel.specs.Image.{side_bits, bad_pvrtc_side, words_in, image_refusals, image_refusal, image_texel, image_bytes, image_out}
use Rattle.pvrtc_texel.proofs.Sides.{bits_most, side_is}
use Rattle.pvrtc_rows.specs.inner.Rows.{WordsSized}
use Rattle.pvrtc_image.specs.inner.Lines.{number_at}

pub refused : (w h : ℕ) (s old : List ℕ) → (image_refusal w h (length s) (length old) ≡ 0 → ⊥) → old ≡ image_out w h s old
unfolding image_out
refused w h s old d = rw (ne_eqb (image_refusal w h (length s) (length old)) 0 d)

-- by the refusal that is told
pub refused_by : (w h : ℕ) (s old : List ℕ) (r : Refusal) → refusal_number r ≡ image_refusal w h (length s) (length old) → old ≡ image_out w h s old
refused_by w h s old r e = refused w h s old (λ z. omega (arith, refusal_some r, e, z))

not-false : (t : Bool) → not t ≡ false → t ≡ true
not-false true e = refl
not-false false e = absurd (subst T e tt)

module _ (w h : ℕ) (s old : List ℕ) (e : image_refusal w h (length s) (length old) ≡ 0) where
  none : None (image_refusals w h (length s) (length old))
  unfolding image_refusal image_refusals
  none = first_none (image_refusals w h (length s) (length old)) tt e

  good : (bad_pvrtc_side w ≡ false) × (bad_pvrtc_side h ≡ false)
  unfolding image_refusals
  good = either_none (bad_pvrtc_side w) (bad_pvrtc_side h) none.0

  bytes : length s ≡ 8 * words_in w h
  unfolding image_refusals
  bytes = eqb-true (length s) (8 * words_in w h) (not-false _ none.1.0)

  places : length old ≡ 4 * (w * h)
  unfolding image_refusals
  places = eqb-true (length old) (4 * (w * h)) (not-false _ none.1.1.0)

  wide : w ≡ 4 * 2 ^ side_bits w
  wide = side_is w good.0

  high : h ≡ 4 * 2 ^ side_bits h
  high = side_is h good.1

  pub sized : WordsSized (side_bits w) (side_bits h) s
  unfolding words_in
  sized = record {
    wide = bits_most w good.0;
    high = bits_most h good.1;
    bytes =
        let a : w / 4 ≡ 2 ^ side_bits w = omega (arith, wide) in
        let b : h / 4 ≡ 2 ^ side_bits h = omega (arith, high) in
        bytes ∙ ap (λ (n : ℕ). 8 * n) (ap₂ ◌*◌ a b);
  }

  pub room : length old ≡ 4 * (4 * 2 ^ side_bits w * (4 * 2 ^ side_bits h))
  room = places ∙ ap (λ (n : ℕ). 4 * n) (ap₂ ◌*◌ wide high)

  pub shown : (new : List ℕ) → new ≡ tab (number_at (side_bits w) (side_bits h) s) (4 * (4 * 2 ^ side_bits w * (4 * 2 ^ side_bits h))) → new ≡ image_out w h s old
  unfolding image_out image_bytes number_at
  shown new f =
      rw (eq-eqb (image_refusal w h (length s) (length old)) 0 e)
      (f ∙ ap₂ (λ (a b : ℕ). tab (λ k. image_texel (side_bits w) (side_bits h) s (k / 4 % a) (k / 4 / a) (k % 4)) (4 * (a * b))) (sym wide) (sym high))
