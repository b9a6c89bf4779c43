-- The definitions by cases on void extents and on all others, one case at a time.
-- Assumes nothing.
use mathlib.Core.Path.{◌≡◌, refl, sym, ◌∙◌}
use mathlib.Core.Bool.{Bool, true, false}
use mathlib.Core.List.{List, []}
use Prim.Native.Nat.{ℕ}
use native.Mathlib.Omega.{arith}
use lib.Dec.{ltb}
use borrow.Author.Tests.{eq-eqb, ne_eqb}
use Rattle.laws.specs.Choice.{pick}
use Rattle.bits.specs.Field.{field, reverse}
use Rattle.quantization.specs.Ranges.{encoding_at, bits_at, range_bits}
use Rattle.integer_sequence.specs.Reading.{number}
use Rattle.block_mode.specs.declared.BlockMode.{BlockMode}
use Rattle.block_mode.specs.declared.BlockMode.TheVariants.{VoidExtent, Reserved, Grid}
use Rattle.block_header.specs.declared.BlockHeader.{BlockHeader}
use Rattle.block_header.specs.Counts.{weight_count, weight_bits, endpoint_count, endpoint_range_of}
use Rattle.block_header.specs.Reasons.{grid_reasons, endpoint_reasons}
use Rattle.laws.specs.Reasons.{Reason, first_of}
use Rattle.block_fault.specs.Bits.{mode_at, is_void, is_reserved, grid_in, partitions_at, selector_at, header_with, header_at, endpoints_from, endpoint_at, weight_at}
use Rattle.footprint.specs.Footprint.{is_volume}
use Rattle.void_extent.specs.Layout.{extent_at, colour_at, bad_void_extent, hdr_void_extent}
use Rattle.void_extent.specs.Writing.{void_cells}
use Rattle.block_fault.specs.Faults.{void_reasons, mode_reasons, fault_of}
use Rattle.interpolation.specs.declared.Kind.{Kind}
use Rattle.interpolation.specs.declared.Kind.TheVariants.{Unorm16, Srgb8, Float16}
use Rattle.interpolation.specs.Expansion.{takes_hdr}
use Rattle.block_fault.proofs.ByKind.{fault_hdr}
use Rattle.texel.specs.Meaning.{texel_from, solid_texel}
use Rattle.texel.specs.BlockTexel.{block_texel}
use Rattle.symbolic_block.specs.declared.SymbolicBlock.{SymbolicBlock}
use Rattle.symbolic_block.specs.Fields.{colour_in, extent_in}
use Rattle.symbolic_block.specs.Refusals.{mode_refusals, void_refusals, refusals, refusal_of}
use Rattle.symbolic_block.specs.Picture.{solid_picture, mixed_picture, picture_of}
use Rattle.bits.specs.Cells.{laid}
use Rattle.symbolic_block.specs.Writing.{mode_cells, block_of}
use Rattle.symbolic_block.specs.Reading.{mode_block, void_block, read_block}
use Rattle.laws.proofs.Reasons.{None, none_first, first_none}

-- ---- a symbolic block

module _ (s : SymbolicBlock) (m : s.mark ≡ 1) where
  pub refusals_void : (fp : ℕ) → refusals fp s ≡ void_refusals fp s
  unfolding refusals
  refusals_void fp = rw (eq-eqb s.mark 1 m)

  pub block_void : (fp : ℕ) → block_of fp s ≡ laid (void_cells (is_volume fp) s.hdr (extent_in s) (colour_in s))
  unfolding block_of
  block_void fp = rw (eq-eqb s.mark 1 m)

  pub picture_void : (fp : ℕ) (kind : Kind) (x y z : ℕ) → picture_of fp kind s x y z ≡ solid_picture kind s
  unfolding picture_of
  picture_void fp kind x y z = rw (eq-eqb s.mark 1 m)

module _ (s : SymbolicBlock) (m : s.mark ≡ 1 → ⊥) where
  pub refusals_mode : (fp : ℕ) → refusals fp s ≡ mode_refusals fp s
  unfolding refusals
  refusals_mode fp = rw (ne_eqb s.mark 1 m)

  pub block_mode_lem : (fp : ℕ) → block_of fp s ≡ laid (mode_cells s)
  unfolding block_of
  block_mode_lem fp = rw (ne_eqb s.mark 1 m)

  pub picture_mode : (fp : ℕ) (kind : Kind) (x y z : ℕ) → picture_of fp kind s x y z ≡ mixed_picture s fp kind x y z
  unfolding picture_of
  picture_mode fp kind x y z = rw (ne_eqb s.mark 1 m)

pub refusal_is : (fp : ℕ) (s : SymbolicBlock) → refusal_of fp s ≡ first_of (refusals fp s)
unfolding refusal_of
refusal_is fp s = refl

-- ---- a block

-- a block without fault in some kind has none where HDR is taken
pub some_kind : (fp B : ℕ) (kind : Kind) → fault_of (takes_hdr kind) fp B ≡ 0 → fault_of true fp B ≡ 0
some_kind fp B Unorm16 e = fault_hdr fp B e
some_kind fp B Srgb8 e = fault_hdr fp B e
some_kind fp B Float16 e = e

module _ (fp B : ℕ) (v : is_void (mode_at fp B) ≡ true) where
  pub fault_void : fault_of true fp B ≡ first_of (void_reasons true fp B)
  unfolding fault_of
  fault_void = rw v

  pub read_void : read_block fp B ≡ void_block (field B 9 1) (colour_at B) (extent_at (is_volume fp) B)
  unfolding read_block
  read_void = rw v

  pub texel_void : (kind : Kind) (x y z : ℕ) → fault_of (takes_hdr kind) fp B ≡ 0
      → block_texel fp kind B x y z ≡ solid_texel kind (hdr_void_extent B) (colour_at B)
  unfolding block_texel
  texel_void kind x y z e = rw (e, v)

module _ (fp B : ℕ) (v : is_void (mode_at fp B) ≡ false) where
  pub fault_mode : fault_of true fp B ≡ first_of (mode_reasons true fp B)
  unfolding fault_of
  fault_mode = rw v

  pub read_mode : read_block fp B ≡ mode_block (header_at fp B) (endpoint_at B (header_at fp B)) (weight_at B (header_at fp B))
  unfolding read_block
  read_mode = rw v

  pub texel_mode : (kind : Kind) (x y z : ℕ) → fault_of (takes_hdr kind) fp B ≡ 0
      → block_texel fp kind B x y z ≡ texel_from fp kind (header_at fp B) (endpoint_at B (header_at fp B)) (weight_at B (header_at fp B)) x y z
  unfolding block_texel
  texel_mode kind x y z e = rw (e, v)

-- the faults of a block, none of which holds
pub no_void_fault : (fp B : ℕ) → is_void (mode_at fp B) ≡ true → fault_of true fp B ≡ 0 → bad_void_extent (is_volume fp) B ≡ false
unfolding void_reasons
no_void_fault fp B v e = let n : None (void_reasons true fp B) = first_none (void_reasons true fp B) tt (sym (fault_void fp B v) ∙ e) in n.0

pub void_no_fault : (fp B : ℕ) → is_void (mode_at fp B) ≡ true → bad_void_extent (is_volume fp) B ≡ false → fault_of true fp B ≡ 0
unfolding void_reasons
void_no_fault fp B v a = fault_void fp B v ∙ none_first (void_reasons true fp B) (a, (refl, tt))

abbrev pub mode_faults : ℕ → BlockHeader → List Reason
mode_faults fp h = grid_reasons fp h (endpoint_reasons true h [])

pub no_mode_fault : (fp B : ℕ) → is_void (mode_at fp B) ≡ false → fault_of true fp B ≡ 0 → (is_reserved (mode_at fp B) ≡ false) × None (mode_faults fp (header_at fp B))
unfolding mode_reasons
no_mode_fault fp B v e = let n : None (mode_reasons true fp B) = first_none (mode_reasons true fp B) tt (sym (fault_mode fp B v) ∙ e) in n

pub mode_no_fault : (fp B : ℕ) → is_void (mode_at fp B) ≡ false → is_reserved (mode_at fp B) ≡ false → None (mode_faults fp (header_at fp B)) → fault_of true fp B ≡ 0
unfolding mode_reasons
mode_no_fault fp B v r n = fault_mode fp B v ∙ none_first (mode_reasons true fp B) (r, n)

-- ---- its settings and numbers

pub header_is : (fp B : ℕ) → header_at fp B ≡ header_with B (grid_in (mode_at fp B)) (partitions_at B) (selector_at B (partitions_at B))
unfolding header_at
header_is fp B = refl

pub endpoint_is : (B : ℕ) (h : BlockHeader) (i : ℕ) → endpoint_at B h i
    ≡ pick (ltb i (endpoint_count h)) (number (encoding_at (endpoint_range_of h)) (bits_at (endpoint_range_of h))
    (field B (endpoints_from h.partitions) (range_bits (endpoint_range_of h) (endpoint_count h))) i) 0
unfolding endpoint_at range_bits
endpoint_is B h i = refl

pub weight_is : (B : ℕ) (h : BlockHeader) (i : ℕ) → weight_at B h i
    ≡ pick (ltb i (weight_count h.grid)) (number (encoding_at h.grid.range) (bits_at h.grid.range)
    (field (reverse 128 B) 0 (weight_bits h.grid)) i) 0
unfolding weight_at weight_bits range_bits
weight_is B h i = refl
