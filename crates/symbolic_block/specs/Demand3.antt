-- DEMAND 3, over the definitions: for all twenty-four footprints, symbolic blocks (01: sheets) and blocks. Theorem: proofs/Demand.antt, `demand_3`.
-- 01, "Words of demand 3". 02, i: demand 3 "takes a block without fault by kind 2's list", `fault_of true`, "and speaks of the texels of every
-- kind in which the block has no fault", `fault_of (takes_hdr kind)`.
-- Assumes nothing.
use Rattle.std.specs.Prelude.{◌≡◌, ◌↔◌, true, false, ℕ, ◌+◌, ◌-◌, ◌^◌, ◌≤◌, ◌<◌}
use Rattle.laws.specs.Reasons.{reason_at}
use Rattle.bits.specs.Field.{field, reverse}
use Rattle.quantization.specs.Ranges.{encoding_at, bits_at}
use Rattle.integer_sequence.specs.Reading.{sequence_at}
use Rattle.integer_sequence.specs.Writing.{Smallest}
use Rattle.interpolation.specs.declared.Kind.{Kind}
use Rattle.interpolation.specs.declared.Kind.TheVariants.{Float16}
use Rattle.interpolation.specs.Expansion.{takes_hdr}
use Rattle.footprint.specs.Footprint.{is_volume}
use Rattle.block_mode.specs.declared.BlockMode.TheVariants.{Grid}
use Rattle.volume_mode.specs.Either.{block_mode_in}
use Rattle.block_header.specs.Counts.{weight_count, weight_bits, component_bits, extra_bits, endpoint_count, endpoint_range_of}
use Rattle.block_header.specs.Reasons.{some_hdr}
use Rattle.block_fault.specs.Bits.{mode_at, is_void, header_at, endpoints_from}
use Rattle.block_fault.specs.Faults.{fault_of}
use Rattle.texel.specs.BlockTexel.{block_texel, block_number_at}
use Rattle.symbolic_block.specs.declared.SymbolicBlock.{SymbolicBlock}
use Rattle.symbolic_block.specs.Fields.{sheet_grid, header_of, endpoint_in, weight_in, Sized, Typed}
use Rattle.symbolic_block.specs.Refusals.{refusals, refusal_of, Acceptable}
use Rattle.symbolic_block.specs.Picture.{picture_of, picture_number}
use Rattle.symbolic_block.specs.Writing.{endpoints_end, component_from, block_of}
use Rattle.symbolic_block.specs.Reading.{read_block, ReadsAs}

pub record Demand3 : Type 0 where
  -- "A sheet is acceptable at a footprint when none of its refusals holds there": it is refused exactly when a listed reason holds,
  pub refused_exactly : (fp : ℕ) (s : SymbolicBlock) → Acceptable fp s ↔ ((i : ℕ) → (reason_at (refusals fp s) i).holds ≡ false)
  -- and the first is told
  pub first_is_told : (fp : ℕ) (s : SymbolicBlock) (i : ℕ) → (reason_at (refusals fp s) i).holds ≡ true
      → ((j : ℕ) → j < i → (reason_at (refusals fp s) j).holds ≡ false) → refusal_of fp s ≡ (reason_at (refusals fp s) i).told
  -- 02, i: the HDR mark of an acceptable mode sheet "is set exactly when some partition's mode is HDR"
  pub marked_exactly : (fp : ℕ) (s : SymbolicBlock) → Acceptable fp s → s.mark ≡ 0 → (s.hdr ≡ 1) ↔ (some_hdr (header_of s) ≡ true)
  -- what is written for an acceptable one is a block without fault
  pub written_fits : (fp : ℕ) (s : SymbolicBlock) → Sized s → Acceptable fp s → block_of fp s < 2 ^ 128
  pub written_no_fault : (fp : ℕ) (s : SymbolicBlock) → Sized s → Acceptable fp s → fault_of true fp (block_of fp s) ≡ 0
  -- that reads back as the same: all fields are equal
  pub written_reads_back : (fp : ℕ) (s : SymbolicBlock) → Sized s → Acceptable fp s → read_block fp (block_of fp s) ≡ s
  -- and shows its picture, in every kind in which it has no fault and at every place
  pub written_shows : (fp : ℕ) (s : SymbolicBlock) → Sized s → Acceptable fp s → (kind : Kind) → fault_of (takes_hdr kind) fp (block_of fp s) ≡ 0
      → (x y z : ℕ) → block_texel fp kind (block_of fp s) x y z ≡ picture_of fp kind s x y z
  -- so in the numbers that the one-block calls write
  pub written_shows_numbers : (fp : ℕ) (s : SymbolicBlock) → Sized s → Acceptable fp s → (kind : Kind) → fault_of (takes_hdr kind) fp (block_of fp s) ≡ 0
      → (x y z c : ℕ) → block_number_at fp kind (block_of fp s) x y z c ≡ picture_number fp kind s x y z c
  -- these kinds are all three where the HDR mark is clear,
  pub written_kinds_ldr : (fp : ℕ) (s : SymbolicBlock) → Sized s → Acceptable fp s → s.hdr ≡ 0
      → (kind : Kind) → fault_of (takes_hdr kind) fp (block_of fp s) ≡ 0
  -- kind 2 alone where it is set
  pub written_kinds_hdr : (fp : ℕ) (s : SymbolicBlock) → Sized s → Acceptable fp s → s.hdr ≡ 1
      → (kind : Kind) → (fault_of (takes_hdr kind) fp (block_of fp s) ≡ 0) ↔ (kind ≡ Float16)
  -- a block without fault reads as one that is acceptable,
  pub read_sized : (fp B : ℕ) → fault_of true fp B ≡ 0 → Sized (read_block fp B)
  pub read_typed : (fp B : ℕ) → fp ≤ 23 → fault_of true fp B ≡ 0 → Typed (read_block fp B)
  pub read_acceptable : (fp B : ℕ) → fp ≤ 23 → fault_of true fp B ≡ 0 → Acceptable fp (read_block fp B)
  pub reads_as : (fp B : ℕ) → fault_of true fp B ≡ 0 → ReadsAs fp B (read_block fp B)
  -- and as no other
  pub reads_as_one : (fp B : ℕ) (s : SymbolicBlock) → fault_of true fp B ≡ 0 → Sized s → ReadsAs fp B s → s ≡ read_block fp B
  -- no two parts of such a block share a bit: not the extra mode bits and the low ones either
  pub parts_apart : (fp B : ℕ) → is_void (mode_at fp B) ≡ false → fault_of true fp B ≡ 0 → endpoints_end (header_at fp B)
      + (weight_bits (header_at fp B).grid + component_bits (header_at fp B).grid.planes + extra_bits (header_at fp B).partitions (header_at fp B).selector) ≤ 128
  -- the kinds in which it has no fault are, by its HDR mark, as above
  pub read_kinds_ldr : (fp B : ℕ) → fault_of true fp B ≡ 0 → (read_block fp B).hdr ≡ 0 → (kind : Kind) → fault_of (takes_hdr kind) fp B ≡ 0
  pub read_kinds_hdr : (fp B : ℕ) → fault_of true fp B ≡ 0 → (read_block fp B).hdr ≡ 1
      → (kind : Kind) → (fault_of (takes_hdr kind) fp B ≡ 0) ↔ (kind ≡ Float16)
  -- what is written for it has the same fault or none in every kind,
  pub rewritten_kinds : (fp B : ℕ) → fp ≤ 23 → fault_of true fp B ≡ 0
      → (kind : Kind) → fault_of (takes_hdr kind) fp (block_of fp (read_block fp B)) ≡ fault_of (takes_hdr kind) fp B
  -- and shows the same where there is none
  pub rewritten_shows : (fp B : ℕ) → fp ≤ 23 → (kind : Kind) → fault_of (takes_hdr kind) fp B ≡ 0
      → (x y z : ℕ) → block_texel fp kind (block_of fp (read_block fp B)) x y z ≡ block_texel fp kind B x y z
  pub rewritten_shows_numbers : (fp B : ℕ) → fp ≤ 23 → (kind : Kind) → fault_of (takes_hdr kind) fp B ≡ 0
      → (x y z c : ℕ) → block_number_at fp kind (block_of fp (read_block fp B)) x y z c ≡ block_number_at fp kind B x y z c
  -- "The writer takes the smallest code whose present digits are the wanted ones, and leaves spare bits 0."
  pub smallest_endpoint_codes : (fp : ℕ) (s : SymbolicBlock) → Sized s → Acceptable fp s → s.mark ≡ 0
      → Smallest (encoding_at (endpoint_range_of (header_of s))) (bits_at (endpoint_range_of (header_of s))) (endpoint_count (header_of s)) (endpoint_in s)
      (sequence_at (encoding_at (endpoint_range_of (header_of s))) (bits_at (endpoint_range_of (header_of s))) (block_of fp s) (endpoints_from s.partitions) (endpoint_count (header_of s)))
  pub smallest_weight_codes : (fp : ℕ) (s : SymbolicBlock) → Sized s → Acceptable fp s → s.mark ≡ 0
      → Smallest (encoding_at s.range) (bits_at s.range) (weight_count (sheet_grid s)) (weight_in s)
      (sequence_at (encoding_at s.range) (bits_at s.range) (reverse 128 (block_of fp s)) 0 (weight_count (sheet_grid s)))
  pub spare_bits_lem : (fp : ℕ) (s : SymbolicBlock) → Sized s → Acceptable fp s → s.mark ≡ 0
      → field (block_of fp s) (endpoints_end (header_of s)) (component_from (header_of s) - endpoints_end (header_of s)) ≡ 0
  -- 02, h: of two block modes "the writer the smaller mode number"; a flat grid has one at most
  pub smallest_mode : (fp : ℕ) (s : SymbolicBlock) → Sized s → Acceptable fp s → s.mark ≡ 0
      → (m : ℕ) → m < 2048 → block_mode_in (is_volume fp) m ≡ Grid (sheet_grid s) → field (block_of fp s) 0 11 ≤ m
