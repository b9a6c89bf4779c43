-- The search for the footprint with given sides: its steps, and what it finds.
-- Assumes nothing.
use Prim.Native.Nat.{ℕ, zero, suc, ◌+◌, ◌-◌, ◌≤◌, ◌<◌}
use native.Mathlib.Omega.{arith}
use native.Mathlib.Numerals.{add-one}
use mathlib.Core.Path.{◌≡◌, refl, sym, ◌∙◌}
use mathlib.Core.Bool.{Bool, true, false}
use lib.Dec.{T, eqb, eqb→eq}
use borrow.Author.Tests.{eqb-true, eq-eqb, ne_eqb}
use Rattle.laws.specs.Choice.{pick, both, all}
use Rattle.laws.proofs.Computed.{both_true, each}
use Rattle.footprint.specs.Footprint.{footprints, width_of, height_of}
use Rattle.astc_header.specs.Header.{footprint_from, footprint_for}

-- this footprint has these sides
abbrev pub here : ℕ → ℕ → ℕ → Bool
here w h fp = both (eqb (width_of fp) w) (eqb (height_of fp) h)

module _ (w h fp : ℕ) (l : fp < 14) where
  found_here : here w h fp ≡ true → footprint_from w h fp (14 - fp) ≡ fp
  unfolding footprint_from
  found_here e = let n : 14 - fp ≡ suc (13 - fp) = omega arith in rw (n, e)

  not_here : here w h fp ≡ false → footprint_from w h fp (14 - fp) ≡ footprint_from w h (fp + 1) (14 - (fp + 1))
  unfolding footprint_from
  not_here e =
      let n : 14 - fp ≡ suc (13 - fp) = omega arith in
      let m : 14 - (fp + 1) ≡ 13 - fp = omega arith in
      rw (m, n, e, add-one fp)

  module _ {a b : ℕ} (ea : a ≡ width_of fp) (eb : b ≡ height_of fp) where
    pub found_at : a ≡ w → b ≡ h → footprint_from w h fp (14 - fp) ≡ fp
    found_at u v = found_here (rw (eq-eqb (width_of fp) w (sym ea ∙ u), eq-eqb (height_of fp) h (sym eb ∙ v)))

    pub not_high : a ≡ w → (b ≡ h → ⊥) → footprint_from w h fp (14 - fp) ≡ footprint_from w h (fp + 1) (14 - (fp + 1))
    not_high u v = not_here (rw (eq-eqb (width_of fp) w (sym ea ∙ u), ne_eqb (height_of fp) h (λ e. v (eb ∙ e))))

  pub not_wide : {a : ℕ} → a ≡ width_of fp → (a ≡ w → ⊥) → footprint_from w h fp (14 - fp) ≡ footprint_from w h (fp + 1) (14 - (fp + 1))
  not_wide ea u = not_here (rw (ne_eqb (width_of fp) w (λ e. u (ea ∙ e))))

pub nowhere : (w h fp : ℕ) → 14 ≤ fp → footprint_from w h fp (14 - fp) ≡ 14
unfolding footprint_from
nowhere w h fp l = let n : 14 - fp ≡ 0 = omega arith in rw n

-- ---- each footprint is found by its own sides

own : ℕ → Bool
own fp = eqb (footprint_for (width_of fp) (height_of fp)) fp

own_all : T (all own 14)
unfolding own footprint_for footprint_from width_of height_of footprints
own_all = tt

pub footprint_back : (fp : ℕ) → fp ≤ 13 → footprint_for (width_of fp) (height_of fp) ≡ fp
unfolding own
footprint_back fp h = eqb→eq (footprint_for (width_of fp) (height_of fp)) fp (each own 14 own_all fp (omega arith))

-- ---- a footprint that is found has the sides that were looked for

abbrev Has : ℕ → ℕ → ℕ → Type 0
Has w h fp = (width_of fp ≡ w) × (height_of fp ≡ h)

found_step : (w h fp n : ℕ) (t : Bool) → here w h fp ≡ t → (footprint_from w h (suc fp) n < 14 → Has w h (footprint_from w h (suc fp) n))
    → pick t fp (footprint_from w h (suc fp) n) < 14 → Has w h (pick t fp (footprint_from w h (suc fp) n))
found_step w h fp n true e ih l = let p = both_true (eqb (width_of fp) w) (eqb (height_of fp) h) e in (eqb-true (width_of fp) w p.0, eqb-true (height_of fp) h p.1)
found_step w h fp n false e ih l = ih l

found_from : (w h fp n : ℕ) → footprint_from w h fp n < 14 → Has w h (footprint_from w h fp n)
unfolding footprint_from
found_from w h fp zero l = absurd (omega (arith, l))
found_from w h fp (suc n) l = found_step w h fp n (here w h fp) refl (found_from w h (suc fp) n) l

pub found : (w h : ℕ) → footprint_for w h < 14 → Has w h (footprint_for w h)
unfolding footprint_for
found w h l = found_from w h 0 14 l
