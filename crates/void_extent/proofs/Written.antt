-- A void extent that is written reads back, in both layouts, and has no bad extents where those that were written are good.
-- Assumes nothing.
use mathlib.Core.Path.{◌≡◌, refl, ap, ◌∙◌}
use mathlib.Core.Bool.{Bool, true, false, not}
use Prim.Native.Nat.{ℕ, zero, suc, ◌+◌, ◌^◌, ◌≤◌, ◌<◌}
use native.Mathlib.Omega.{arith}
use lib.Dec.{eqb}
use mathlib.Core.List.{List}
use lib.ListN.{length, get_or}
use Rattle.laws.specs.Choice.{either}
use Rattle.bits.specs.Field.{field}
use Rattle.bits.specs.Cells.{Cell, cell, laid}
use Rattle.bits.proofs.Laid.{Apart, ◌below◌, laid_at, laid_lt}
use Rattle.void_extent.specs.Layout.{extent_place, extent_width, extent_at, colour_at, bad_extents, bad_fixed, bad_void_extent}
use Rattle.void_extent.specs.Writing.{fixed_width, fixed_bits, void_cells}
use Rattle.void_extent.proofs.Extents.{same_extents}

module _ (volume : Bool) (hdr : ℕ) (extent colour : ℕ → ℕ) (hh : hdr ≤ 1) (he : (i : ℕ) → i < 6 → extent i < 2 ^ extent_width volume i) (hc : (i : ℕ) → i < 4 → colour i < 2 ^ 16) where
  abbrev cells : List Cell
  cells = void_cells volume hdr extent colour

  abbrev b : ℕ
  b = laid cells

  -- the extents lie between the fixed bits and the colours, one after the other
  places : (v : Bool)
      → (10 + fixed_width v ≤ extent_place v 0) × (extent_place v 0 + extent_width v 0 ≤ extent_place v 1) × (extent_place v 1 + extent_width v 1 ≤ extent_place v 2)
      × (extent_place v 2 + extent_width v 2 ≤ extent_place v 3) × (extent_place v 3 + extent_width v 3 ≤ extent_place v 4)
      × (extent_place v 4 + extent_width v 4 ≤ extent_place v 5) × (extent_place v 5 + extent_width v 5 ≤ 64)
  unfolding fixed_width extent_place extent_width
  places true = (omega arith, omega arith, omega arith, omega arith, omega arith, omega arith, omega arith)
  places false = (omega arith, omega arith, omega arith, omega arith, omega arith, omega arith, omega arith)

  fixed_lt : (v : Bool) → fixed_bits v < 2 ^ fixed_width v
  unfolding fixed_width fixed_bits
  fixed_lt true = omega arith
  fixed_lt false = omega arith

  pub apart : Apart 0 128 cells
  unfolding void_cells
  apart =
      let p = places volume in
      (omega arith, omega arith)
      below (omega arith, omega (arith, hh))
      below (omega arith, fixed_lt volume)
      below (p.0, he 0 (omega arith))
      below (p.1, he 1 (omega arith))
      below (p.2, he 2 (omega arith))
      below (p.3, he 3 (omega arith))
      below (p.4, he 4 (omega arith))
      below (p.5, he 5 (omega arith))
      below (p.6, hc 0 (omega arith))
      below (omega arith, hc 1 (omega arith))
      below (omega arith, hc 2 (omega arith))
      below (omega arith, hc 3 (omega arith))
      below omega arith

  pub block_lt : b < 2 ^ 128
  block_lt = laid_lt 128 cells apart

  at : (i : ℕ) → i < length cells → field b (get_or cells i (cell 0 0 0)).place (get_or cells i (cell 0 0 0)).width ≡ (get_or cells i (cell 0 0 0)).value
  at = laid_at 128 cells apart

  -- it is a void extent with that HDR mark
  pub nine_are : field b 0 9 ≡ 0b111111100
  unfolding void_cells
  nine_are = at 0 (omega arith)

  pub hdr_is : field b 9 1 ≡ hdr
  unfolding void_cells
  hdr_is = at 1 (omega arith)

  -- each extent and colour reads back
  pub extents_are : (i : ℕ) → i < 6 → extent_at volume b i ≡ extent i
  unfolding extent_at void_cells
  extents_are zero h = at 3 (omega arith)
  extents_are (suc zero) h = at 4 (omega arith)
  extents_are (suc (suc zero)) h = at 5 (omega arith)
  extents_are (suc (suc (suc zero))) h = at 6 (omega arith)
  extents_are (suc (suc (suc (suc zero)))) h = at 7 (omega arith)
  extents_are (suc (suc (suc (suc (suc zero))))) h = at 8 (omega arith)
  extents_are (suc (suc (suc (suc (suc (suc i)))))) h = omega arith

  pub colours_are : (i : ℕ) → i < 4 → colour_at b i ≡ colour i
  unfolding colour_at void_cells
  colours_are zero h = at 9 (omega arith)
  colours_are (suc zero) h = at 10 (omega arith)
  colours_are (suc (suc zero)) h = at 11 (omega arith)
  colours_are (suc (suc (suc zero))) h = at 12 (omega arith)
  colours_are (suc (suc (suc (suc i)))) h = omega arith

  -- bits 11..10 of a flat block are both 1
  fixed : (v : Bool) → field b 10 (fixed_width v) ≡ fixed_bits v → bad_fixed v b ≡ false
  unfolding fixed_width fixed_bits bad_fixed
  fixed true e = refl
  fixed false e = ap (λ (x : ℕ). not (eqb x 3)) e

  neither : (a c : Bool) → a ≡ false → c ≡ false → either a c ≡ false
  neither a c p q = rw (p, q)

  pub void_good : bad_extents volume extent ≡ false → bad_void_extent volume b ≡ false
  unfolding bad_void_extent void_cells
  void_good g =
      neither (bad_fixed volume b) (bad_extents volume (extent_at volume b)) (fixed volume (at 2 (omega arith)))
      (same_extents volume (extent_at volume b) extent extents_are ∙ g)
