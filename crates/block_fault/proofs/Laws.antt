-- The faults of a void extent one by one, and the stages of a coded block.
-- Assumes nothing.
use mathlib.Core.Path.{◌≡◌, ap, ◌∙◌}
use mathlib.Core.Bool.{Bool, true, false, not}
use mathlib.Core.List.{List, [], ◌∷◌}
use Prim.Native.Nat.{ℕ, ◌+◌, ◌-◌, ◌*◌, ◌/◌, ◌%◌, ◌^◌, ◌≤◌, ◌<◌, min}
use native.Mathlib.Nat.{lt_of_lt_of_le}
use lib.Pow.{pow_mono}
use native.Mathlib.Omega.{arith}
use lib.Dec.{eqb, ltb}
use borrow.Author.Tests.{eq-eqb, ne_eqb, lt-ltb, le-ltb}
use Rattle.laws.specs.Choice.{pick, both}
use Rattle.laws.specs.Table.{padded}
use Rattle.bits.specs.Field.{field}
use Rattle.bits.proofs.Fields.{field_lt}
use Rattle.block_header.specs.Counts.{extra_bits, component_bits, partition_index_bits, selector_bits, weight_bits}
use Rattle.block_header.specs.declared.BlockHeader.{BlockHeader}
use Rattle.block_mode.specs.declared.WeightGrid.{WeightGrid}
use Rattle.laws.specs.Reasons.{first_of}
use Rattle.footprint.specs.Footprint.{is_volume}
use Rattle.void_extent.specs.Layout.{bad_void_extent, hdr_void_extent}
use Rattle.block_fault.specs.Bits.{mode_of, index_at, base_at, extra_at, component_at, header_with}
use Rattle.block_fault.specs.Faults.{void_reasons}

module _ (hdr : Bool) (fp B : ℕ) where
  pub void_extents : bad_void_extent (is_volume fp) B ≡ true → 12 ≡ first_of (void_reasons hdr fp B)
  unfolding void_reasons
  void_extents h = rw h

  module _ (f : bad_void_extent (is_volume fp) B ≡ false) where
    pub void_hdr : both (not hdr) (hdr_void_extent B) ≡ true → 13 ≡ first_of (void_reasons hdr fp B)
    unfolding void_reasons
    void_hdr h = rw (f, h)

    pub void_sound : both (not hdr) (hdr_void_extent B) ≡ false → 0 ≡ first_of (void_reasons hdr fp B)
    unfolding void_reasons
    void_sound h = rw (f, h)

-- ---- the mode of a partition

module _ (partitions selector code i : ℕ) where
  pub mode_none : partitions ≤ i → 0 ≡ pick (ltb i partitions) (mode_of partitions selector code i) 0
  mode_none h = rw (le-ltb i partitions h)

  module _ (l : i < partitions) where
    pub mode_same : selector ≡ 0 → code ≡ pick (ltb i partitions) (mode_of partitions selector code i) 0
    unfolding mode_of
    mode_same e = rw (lt-ltb i partitions l, eq-eqb selector 0 e)

    pub mode_own : (selector ≡ 0 → ⊥)
        → 4 * (selector - 1 + code / 2 ^ i % 2) + code / 2 ^ (partitions + 2 * i) % 4 ≡ pick (ltb i partitions) (mode_of partitions selector code i) 0
    unfolding mode_of field
    mode_own e = rw (lt-ltb i partitions l, ne_eqb selector 0 e)

pub four_modes : (partitions selector code : ℕ) {m0 m1 m2 m3 : ℕ}
    → m0 ≡ pick (ltb 0 partitions) (mode_of partitions selector code 0) 0 → m1 ≡ pick (ltb 1 partitions) (mode_of partitions selector code 1) 0
    → m2 ≡ pick (ltb 2 partitions) (mode_of partitions selector code 2) 0 → m3 ≡ pick (ltb 3 partitions) (mode_of partitions selector code 3) 0
    → ◌≡◌ {A = List ℕ} (m0 ∷ m1 ∷ m2 ∷ m3 ∷ []) (padded 4 partitions (mode_of partitions selector code) 0)
unfolding padded
four_modes partitions selector code e0 e1 e2 e3 = rw (e0, e1, e2, e3)

-- ---- a field of at most m bits, as a call gives it

pub record Narrow (B p w m r : ℕ) : Type 0 where
  pub is : r ≡ field B p w
  pub below : r < 2 ^ m

pub narrow : (B p w m : ℕ) {r : ℕ} → w ≤ m → m ≤ 64 → r ≡ field B p (min w 64) → Narrow B p w m r
narrow B p w m h l e =
    let q : min w 64 ≡ w = omega arith in
    let f = e ∙ ap (field B p) q in
    record { is = f; below = rw f (lt_of_lt_of_le (field_lt B p w) (pow_mono {i = w} {j = m} h)) }

-- ---- widths

pub extra_le : (partitions selector : ℕ) → partitions ≤ 4 → extra_bits partitions selector ≤ 8
unfolding extra_bits
extra_le partitions selector h = go (eqb selector 0) where
  go : (t : Bool) → pick t 0 (3 * partitions - 4) ≤ 8
  go true = omega arith
  go false = omega arith

pub extra_none : (partitions selector : ℕ) → selector ≡ 0 → extra_bits partitions selector ≡ 0
unfolding extra_bits
extra_none partitions selector e = rw (eq-eqb selector 0 e)

pub component_le : (planes : ℕ) → planes ≤ 2 → component_bits planes ≤ 2
unfolding component_bits
component_le planes h = omega arith

-- ---- the header, field by field

pub made : (B : ℕ) (g : WeightGrid) (partitions selector : ℕ) {xw cw iw sw ww extra base component index : ℕ} {modes : List ℕ}
    → xw ≡ extra_bits partitions selector → cw ≡ component_bits g.planes → iw ≡ partition_index_bits partitions → sw ≡ selector_bits partitions → ww ≡ weight_bits g
    → extra ≡ field B (128 - ww - xw) xw → base ≡ field B (13 + iw + sw) 4 → component ≡ field B (128 - ww - xw - cw) cw → index ≡ field B 13 iw
    → modes ≡ padded 4 partitions (mode_of partitions selector (extra * 16 + base)) 0
    → ◌≡◌ {A = BlockHeader} (record { grid = g; component = component; partitions = partitions; index = index; selector = selector; modes = modes }) (header_with B g partitions selector)
unfolding header_with index_at base_at extra_at component_at
made B g partitions selector ex ec ei es ew e1 e2 e3 e4 e5 = rw (e5, e1, e2, e3, e4, ew, ex, ec, ei, es)

pub made_grid : (B : ℕ) (g : WeightGrid) (partitions selector : ℕ) {h : BlockHeader} → h ≡ header_with B g partitions selector → h.grid ≡ g
unfolding header_with
made_grid B g partitions selector e = ap (λ (h : BlockHeader). h.grid) e
