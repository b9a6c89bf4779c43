-- 01, "Words of demand 3", of what the calls return: the writer, the reader of symbolic blocks (01: sheets) and the one-block call.
-- 02, i: a block without fault is one by kind 2's list, and what is shown is said of a kind in which the block has no fault.
-- Assumes nothing.
use Rattle.std.specs.Prelude.{◌≡◌, ◌↔◌, Bool, true, false, List, ℕ, ◌*◌, ◌/◌, ◌%◌, ◌≤◌, ◌<◌, length}
use Rattle.laws.specs.Choice.{pick}
use Rattle.laws.specs.Table.{tab}
use Rattle.bits.specs.Block.{number_of}
use Rattle.footprint.specs.Footprint.{width_of, texels_of}
use Rattle.interpolation.specs.declared.Kind.{Kind}
use Rattle.interpolation.specs.declared.Kind.TheVariants.{Unorm16, Float16}
use Rattle.interpolation.specs.Expansion.{takes_hdr}
use Rattle.block_fault.specs.Faults.{fault_of}
use Rattle.texel.specs.BlockTexel.{in_row}
use Rattle.block_answer.specs.declared.Answer.TheVariants.{Refused, Done}
use Rattle.one_block.specs.Calls.{block_answer}
use Rattle.symbolic_block.specs.declared.SymbolicBlock.{SymbolicBlock}
use Rattle.symbolic_block.specs.Fields.{Sized}
use Rattle.symbolic_block.specs.Refusals.{refusals, Acceptable}
use Rattle.symbolic_block.specs.Picture.{picture_number}
use Rattle.symbolic_block.specs.Reading.{ReadsAs}
use Rattle.laws.specs.Reasons.{reason_at}
use Rattle.symbolic_reader.specs.declared.SymbolicReading.{SymbolicReading}
use Rattle.symbolic_reader.specs.Answers.{reading_of}
use Rattle.symbolic_calls.specs.Writing.{writing_of}
use Rattle.round_trip.specs.declared.RoundTrip.{RoundTrip}
use Rattle.round_trip.specs.declared.Rewriting.{Rewriting}

-- kinds 0 and 2, which show numbers of 16 bits: whether half floats
abbrev pub word_kind : Bool → Kind
word_kind half = pick half Float16 Unorm16

-- the block has no fault in a kind
abbrev pub FineIn : Kind → ℕ → List ℕ → Type 0
FineIn kind fp block = fault_of (takes_hdr kind) fp (number_of block) ≡ 0

-- the three answers
unfoldable pub round_trip_of : Kind → ℕ → SymbolicBlock → ℕ → RoundTrip
round_trip_of kind fp s numbers = record {
  writing = writing_of fp s;
  reading = reading_of fp (writing_of fp s).bytes;
  shown = block_answer kind fp (writing_of fp s).bytes numbers;
}

-- the picture's numbers in the order of a result buffer: "Channels are R, G, B, A, rows first"
unfoldable pub picture_numbers : ℕ → Kind → SymbolicBlock → List ℕ
unfolding tab picture_number
picture_numbers fp kind s = tab (λ k. in_row fp (picture_number fp kind s) (k / 4 % width_of fp) (k / 4 / width_of fp) (k % 4)) (4 * texels_of fp)

-- of an acceptable symbolic block
pub record Kept (kind : Kind) (fp : ℕ) (s : SymbolicBlock) (old : List ℕ) (r : RoundTrip) (out : List ℕ) : Type 0 where
  pub written : r.writing.answer ≡ Done
  -- a block without fault
  pub sixteen : length r.writing.bytes ≡ 16
  pub no_fault : fault_of true fp (number_of r.writing.bytes) ≡ 0
  -- that reads back as the same
  pub read : r.reading.answer ≡ Done
  pub same : r.reading.block ≡ s
  -- with no spare bit set (02, g)
  pub spare_clear : r.reading.spare.set ≡ false
  -- and shows its picture, at every texel, where it has no fault in the kind
  pub shown : FineIn kind fp r.writing.bytes → length old ≡ 4 * texels_of fp → r.shown ≡ Done
  pub picture : FineIn kind fp r.writing.bytes → length old ≡ 4 * texels_of fp → out ≡ picture_numbers fp kind s
  -- so in every kind where the HDR mark is clear, in kind 2 alone where it is set
  pub kinds_ldr : s.hdr ≡ 0 → FineIn kind fp r.writing.bytes
  pub kinds_hdr : s.hdr ≡ 1 → FineIn kind fp r.writing.bytes ↔ (kind ≡ Float16)

-- of any
pub record Demanded (kind : Kind) (fp : ℕ) (s : SymbolicBlock) (old : List ℕ) (r : RoundTrip) (out : List ℕ) : Type 0 where
  -- it is refused exactly when a listed reason holds, and the first is told
  pub refused_exactly : (r.writing.answer ≡ Done) ↔ ((i : ℕ) → (reason_at (refusals fp s) i).holds ≡ false)
  pub first_is_told : (i : ℕ) → (reason_at (refusals fp s) i).holds ≡ true → ((j : ℕ) → j < i → (reason_at (refusals fp s) j).holds ≡ false)
      → r.writing.answer ≡ Refused (reason_at (refusals fp s) i).told
  -- "all 0 on a refusal"
  pub nothing_written : (i : ℕ) → (reason_at (refusals fp s) i).holds ≡ true → r.writing.bytes ≡ tab (λ k. 0) 16
  pub kept : Acceptable fp s → Kept kind fp s old r out

-- ---- a block read and written anew

-- with what was read of it
abbrev pub rewriting : Kind → ℕ → List ℕ → ℕ → ℕ → SymbolicReading → Rewriting
rewriting kind fp block numbers numbers2 r = record {
  reading = r;
  writing = writing_of fp r.block;
  shown = block_answer kind fp block numbers;
  again = block_answer kind fp (writing_of fp r.block).bytes numbers2;
}

unfoldable pub rewriting_of : Kind → ℕ → List ℕ → ℕ → ℕ → Rewriting
rewriting_of kind fp block numbers numbers2 = rewriting kind fp block numbers numbers2 (reading_of fp block)

-- sixteen bytes that are a block without fault
pub record Sound (fp : ℕ) (block : List ℕ) : Type 0 where
  pub known : fp ≤ 23
  pub sixteen : length block ≡ 16
  pub no_fault : fault_of true fp (number_of block) ≡ 0

-- of a block without fault
pub record Rewritten (kind : Kind) (fp : ℕ) (block old old2 : List ℕ) (r : Rewriting) (out again : List ℕ) : Type 0 where
  -- it reads as the symbolic block that the reader tells, and as no other
  pub read : r.reading.answer ≡ Done
  pub reads_as : ReadsAs fp (number_of block) r.reading.block
  pub reads_as_one : (s : SymbolicBlock) → Sized s → ReadsAs fp (number_of block) s → s ≡ r.reading.block
  -- this is acceptable, and written
  pub acceptable : Acceptable fp r.reading.block
  pub written : r.writing.answer ≡ Done
  -- and what is written shows the same, where the block has no fault in the kind
  pub shown : FineIn kind fp block → length old ≡ 4 * texels_of fp → r.shown ≡ Done
  pub shown_again : FineIn kind fp block → length old2 ≡ 4 * texels_of fp → r.again ≡ Done
  pub same_shown : FineIn kind fp block → length old ≡ 4 * texels_of fp → length old2 ≡ 4 * texels_of fp → again ≡ out
  -- so in every kind where the HDR mark is clear, in kind 2 alone where it is set
  pub kinds_ldr : r.reading.block.hdr ≡ 0 → FineIn kind fp block
  pub kinds_hdr : r.reading.block.hdr ≡ 1 → FineIn kind fp block ↔ (kind ≡ Float16)
