-- Extents of both layouts: their bounds, and when they are bad.
-- Assumes nothing.
use mathlib.Core.Path.{◌≡◌, refl, sym, ap, ◌∙◌}
use mathlib.Core.Bool.{Bool, true, false, not}
use mathlib.Core.List.{[], ◌∷◌}
use Prim.Native.Nat.{ℕ, zero, suc, ◌+◌, ◌*◌, ◌^◌, ◌≤◌, ◌<◌}
use native.Mathlib.Nat.{lt_of_lt_of_le}
use native.Mathlib.Decide.{dec_lt}
use lib.Pow.{pow_mono}
use native.Mathlib.Omega.{arith}
use lib.Dec.{eqb, ltb}
use lib.ListN.{get_or}
use borrow.Author.Tests.{lt-ltb, le-ltb}
use Rattle.laws.specs.Choice.{pick, both, either, all}
use Rattle.bits.specs.Field.{field}
use Rattle.bits.proofs.Fields.{field_lt}
use Rattle.void_extent.specs.Layout.{axes_of, extent_place, extent_width, extent_most, extent_at, bad_extents}

-- the tests of both layouts, written out
abbrev ones : ℕ → (ℕ → ℕ) → ℕ → Bool
ones most e i = eqb (e i) most

abbrev rises : (ℕ → ℕ) → ℕ → Bool
rises e a = ltb (e (2 * a)) (e (2 * a + 1))

pub shape : (volume : Bool) (e : ℕ → ℕ)
    → bad_extents volume e ≡ not (either (pick volume (all (ones (extent_most volume) e) 6) (all (ones (extent_most volume) e) 4)) (pick volume (all (rises e) 3) (all (rises e) 2)))
unfolding bad_extents axes_of
shape true e = refl
shape false e = refl

-- only the six extents count
pub same_extents : (volume : Bool) (d e : ℕ → ℕ) → ((i : ℕ) → i < 6 → d i ≡ e i) → bad_extents volume d ≡ bad_extents volume e
same_extents volume d e h =
    shape volume d
    ∙ rw (h 0 (omega arith), h 1 (omega arith), h 2 (omega arith), h 3 (omega arith), h 4 (omega arith), h 5 (omega arith))
    (sym (shape volume e))

-- six numbers by themselves
pub six_extents : (volume : Bool) (e : ℕ → ℕ) {x0 x1 x2 x3 x4 x5 : ℕ} → x0 ≡ e 0 → x1 ≡ e 1 → x2 ≡ e 2 → x3 ≡ e 3 → x4 ≡ e 4 → x5 ≡ e 5
    → bad_extents volume (λ i. get_or (x0 ∷ x1 ∷ x2 ∷ x3 ∷ x4 ∷ x5 ∷ []) i 0) ≡ bad_extents volume e
six_extents volume e {x0} {x1} {x2} {x3} {x4} {x5} e0 e1 e2 e3 e4 e5 = same_extents volume (λ i. get_or (x0 ∷ x1 ∷ x2 ∷ x3 ∷ x4 ∷ x5 ∷ []) i 0) e each where
  each : (i : ℕ) → i < 6 → get_or (x0 ∷ x1 ∷ x2 ∷ x3 ∷ x4 ∷ x5 ∷ []) i 0 ≡ e i
  each zero h = e0
  each (suc zero) h = e1
  each (suc (suc zero)) h = e2
  each (suc (suc (suc zero))) h = e3
  each (suc (suc (suc (suc zero)))) h = e4
  each (suc (suc (suc (suc (suc zero))))) h = e5
  each (suc (suc (suc (suc (suc (suc i)))))) h = absurd (omega arith)

turned : (a b : Bool) → both b (both a true) ≡ both a b
turned true true = refl
turned true false = refl
turned false true = refl
turned false false = refl

-- in a flat block they are 01's
pub flat_extents : (e : ℕ → ℕ) → bad_extents false e ≡ not (either (all (λ i. eqb (e i) 8191) 4) (both (ltb (e 0) (e 1)) (ltb (e 2) (e 3))))
unfolding extent_most
flat_extents e = shape false e ∙ ap (λ (t : Bool). not (either (all (λ i. eqb (e i) 8191) 4) t)) (turned (ltb (e 0) (e 1)) (ltb (e 2) (e 3)))

-- an extent fits its bits; the third pair of a flat block is 0
pub extent_lt : (volume : Bool) (B i : ℕ) → extent_at volume B i < 2 ^ extent_width volume i
unfolding extent_at
extent_lt volume B i = field_lt B (extent_place volume i) (extent_width volume i)

-- it has 13 bits at most
width_le : (volume : Bool) (i : ℕ) → extent_width volume i ≤ 13
unfolding extent_width
width_le true i = omega arith
width_le false i = go (ltb i 4) where
  go : (b : Bool) → pick b 13 0 ≤ 13
  go true = omega arith
  go false = omega arith

pub extent_small : (volume : Bool) (B i : ℕ) → extent_at volume B i < 2 ^ 13
extent_small volume B i = lt_of_lt_of_le (extent_lt volume B i) (pow_mono (width_le volume i))

pub extent_le : (volume : Bool) (B i : ℕ) → i < 2 * axes_of volume → extent_at volume B i ≤ extent_most volume
unfolding extent_width extent_most axes_of
extent_le true B i h = omega (arith, extent_lt true B i)
extent_le false B i h = let l : extent_at false B i < 2 ^ 13 = rw (lt-ltb i 4 (omega arith)) at (extent_lt false B i) in omega (arith, l)

pub extent_none : (volume : Bool) (B i : ℕ) → 2 * axes_of volume ≤ i → i < 6 → extent_at volume B i ≡ 0
unfolding extent_width axes_of
extent_none true B i h l = absurd (omega arith)
extent_none false B i h l = let n : extent_at false B i < 2 ^ 0 = rw (le-ltb i 4 (omega arith)) at (extent_lt false B i) in omega (arith, n)
