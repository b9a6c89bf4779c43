-- A void extent (01: solid block) without fault is what the writer makes from its own sheet: all its bits are fields, in a flat block and in a volume.
-- Assumes nothing.
use mathlib.Core.Path.{◌≡◌, refl, sym, ap, ◌∙◌, subst}
use mathlib.Core.Bool.{Bool, true, false, not}
use Prim.Native.Nat.{ℕ, ◌+◌, ◌-◌, ◌*◌, ◌/◌, ◌%◌, ◌^◌, ◌≤◌, ◌<◌}
use native.Mathlib.Nat.{mod-eq_of_lt, div-one}
use native.Mathlib.Omega.{arith}
use lib.Dec.{T, eqb, eqb→eq}
use borrow.Author.Tests.{eqb-true}
use Rattle.laws.specs.Choice.{pick, all}
use Rattle.laws.specs.Table.{tab_from, tab}
use Rattle.laws.proofs.Reasons.{either_none}
use Rattle.laws.proofs.Computed.{each}
use Rattle.bits.specs.Field.{field}
use Rattle.bits.specs.Cells.{laid}
use Rattle.bits.proofs.Fields.{field_lt, field_low, field_cut, field_none}
use Rattle.footprint.specs.Footprint.{is_volume}
use Rattle.block_mode.specs.Mode2D.{block_mode}
use Rattle.volume_mode.specs.Mode3D.{volume_mode}
use Rattle.volume_mode.specs.Either.{block_mode_in}
use Rattle.void_extent.specs.Layout.{extent_place, extent_width, extent_at, colour_at, bad_extents, bad_fixed, bad_void_extent}
use Rattle.void_extent.specs.Writing.{fixed_width, fixed_bits, void_cells}
use Rattle.block_fault.specs.Bits.{mode_at, is_void}
use Rattle.block_fault.specs.Faults.{fault_of}
use Rattle.symbolic_block.specs.Writing.{block_of}
use Rattle.symbolic_block.specs.Reading.{void_block, read_block}
use Rattle.symbolic_block.proofs.Opened.{no_void_fault, read_void}
use Rattle.block_reading.specs.Faults.{canonical_of}

-- ---- the nine low bits of a void extent

abbrev nine_told : Bool → ℕ → Bool
nine_told volume m = pick (is_void (block_mode_in volume m)) (eqb (m % 512) 508) true

-- over all modes
test_nine : (volume : Bool) → T (all (nine_told volume) 2048)
unfolding block_mode_in block_mode volume_mode
test_nine true = tt
test_nine false = tt

nine : (volume : Bool) (m : ℕ) → m < 2048 → is_void (block_mode_in volume m) ≡ true → m % 512 ≡ 508
nine volume m h v =
    eqb→eq (m % 512) 508 (subst (λ (b : Bool). T (pick b (eqb (m % 512) 508) true)) v (each (nine_told volume) 2048 (test_nine volume) m h))

-- ---- the block from its fields

module _ (B : ℕ) (small : B < 2 ^ 128) (low_bits : field B 0 9 ≡ 508) where
  whole : field B 0 128 ≡ B
  unfolding field
  whole = rw (div-one B) (mod-eq_of_lt small)

  halves : B ≡ field B 64 64 * 2 ^ 64 + field B 0 64
  halves = sym whole ∙ field_cut B 0 64 64

  high : field B 64 64 ≡ field B 64 16 + field B 80 16 * 2 ^ 16 + field B 96 16 * 2 ^ 32 + field B 112 16 * 2 ^ 48
  high = omega (arith, field_cut B 64 48 16, field_cut B 80 32 16, field_cut B 96 16 16)

  fixed_bits_lem : bad_fixed false B ≡ false → field B 10 2 ≡ 3
  unfolding bad_fixed
  fixed_bits_lem = go (eqb (field B 10 2) 3) refl where
    go : (b : Bool) → eqb (field B 10 2) 3 ≡ b → not b ≡ false → field B 10 2 ≡ 3
    go true q h = eqb-true _ _ q
    go false q h = let k : ◌≡◌ {A = ℕ} 1 0 = ap (λ (b : Bool). pick b 1 0) h in absurd (omega (arith, k))

  flat_low : field B 10 2 ≡ 3
      → field B 0 64 ≡ 508 + field B 9 1 * 2 ^ 9 + 3 * 2 ^ 10 + field B 12 13 * 2 ^ 12 + field B 25 13 * 2 ^ 25 + field B 38 13 * 2 ^ 38 + field B 51 13 * 2 ^ 51
  flat_low fixed =
      omega (
        arith,
        low_bits,
        fixed,
        field_cut B 0 55 9,
        field_cut B 9 54 1,
        field_cut B 10 52 2,
        field_cut B 12 39 13,
        field_cut B 25 26 13,
        field_cut B 38 13 13,
      )

  volume_low : field B 0 64
      ≡ 508 + field B 9 1 * 2 ^ 9 + field B 10 9 * 2 ^ 10 + field B 19 9 * 2 ^ 19 + field B 28 9 * 2 ^ 28 + field B 37 9 * 2 ^ 37 + field B 46 9 * 2 ^ 46 + field B 55 9 * 2 ^ 55
  volume_low =
      omega (
        arith,
        low_bits,
        field_cut B 0 55 9,
        field_cut B 9 54 1,
        field_cut B 10 45 9,
        field_cut B 19 36 9,
        field_cut B 28 27 9,
        field_cut B 37 18 9,
        field_cut B 46 9 9,
      )

  rebuilt : (volume : Bool) → bad_fixed volume B ≡ false → laid (void_cells volume (field B 9 1) (extent_at volume B) (colour_at B)) ≡ B
  unfolding laid void_cells fixed_width fixed_bits extent_place extent_width extent_at colour_at
  rebuilt true e = sum (field B 0 64) (field B 64 64) volume_low high halves where
    sum : (l h : ℕ)
        → l ≡ 508 + field B 9 1 * 2 ^ 9 + field B 10 9 * 2 ^ 10 + field B 19 9 * 2 ^ 19 + field B 28 9 * 2 ^ 28 + field B 37 9 * 2 ^ 37 + field B 46 9 * 2 ^ 46 + field B 55 9 * 2 ^ 55
        → h ≡ field B 64 16 + field B 80 16 * 2 ^ 16 + field B 96 16 * 2 ^ 32 + field B 112 16 * 2 ^ 48
        → B ≡ h * 2 ^ 64 + l
        → laid (void_cells true (field B 9 1) (extent_at true B) (colour_at B)) ≡ B
    sum l h el eh eb = omega arith
  rebuilt false e = sum (field B 0 64) (field B 64 64) (flat_low (fixed_bits_lem e)) high halves (field_none B 64) where
    sum : (l h : ℕ)
        → l ≡ 508 + field B 9 1 * 2 ^ 9 + 3 * 2 ^ 10 + field B 12 13 * 2 ^ 12 + field B 25 13 * 2 ^ 25 + field B 38 13 * 2 ^ 38 + field B 51 13 * 2 ^ 51
        → h ≡ field B 64 16 + field B 80 16 * 2 ^ 16 + field B 96 16 * 2 ^ 32 + field B 112 16 * 2 ^ 48
        → B ≡ h * 2 ^ 64 + l
        → field B 64 0 ≡ 0
        → laid (void_cells false (field B 9 1) (extent_at false B) (colour_at B)) ≡ B
    sum l h el eh eb z = omega arith

module _ (fp B : ℕ) (small : B < 2 ^ 128) (v : is_void (mode_at fp B) ≡ true) (e : fault_of true fp B ≡ 0) where
  low_nine : field B 0 9 ≡ 508
  unfolding mode_at
  low_nine = sym (field_low B 0 2 9) ∙ nine (is_volume fp) (field B 0 11) (field_lt B 0 11) v

  fixed : bad_fixed (is_volume fp) B ≡ false
  unfolding bad_void_extent
  fixed = (either_none (bad_fixed (is_volume fp) B) (bad_extents (is_volume fp) (extent_at (is_volume fp) B)) (no_void_fault fp B v e)).0

  pub solid : canonical_of fp B ≡ B
  unfolding canonical_of block_of void_cells laid void_block tab tab_from
  solid = ap (block_of fp) (read_void fp B v) ∙ rebuilt B small low_nine (is_volume fp) fixed
