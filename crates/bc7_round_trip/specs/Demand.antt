-- 02, l: "under the same statement as demand 3 without footprint and kind": of what the writer, the reader of sheets and the one-block call return.
-- Assumes nothing.
use Rattle.std.specs.Prelude.{◌≡◌, ◌↔◌, true, false, List, ℕ, ◌<◌, length, get_or}
use Rattle.laws.specs.Reasons.{reason_at}
use Rattle.laws.specs.Table.{tab}
use Rattle.bits.specs.Block.{number_of}
use Rattle.block_answer.specs.declared.Answer.TheVariants.{Refused, Done}
use Rattle.bc7_block.specs.declared.Bc7Block.{Bc7Block}
use Rattle.bc7_block.specs.Fields.{Sized}
use Rattle.bc7_block.specs.Refusals.{refusals, Acceptable}
use Rattle.bc7_block.specs.Reading.{fault_of, ReadsAs}
use Rattle.bc7_block.specs.Picture.{picture_of}
use Rattle.bc7_core.specs.Bytes.{texel_bytes}
use Rattle.bc7_calls.specs.Calls.{decode_answer, reading_of, writing_of}
use Rattle.bc7_round_trip.specs.declared.RoundTrip.{RoundTrip}
use Rattle.bc7_round_trip.specs.declared.Rewriting.{Rewriting}

-- the three answers, with a result buffer of so many places
unfoldable pub round_trip_of : Bc7Block → ℕ → RoundTrip
round_trip_of s places = record {
  writing = writing_of s;
  reading = reading_of (writing_of s).bytes;
  shown = decode_answer (writing_of s).bytes places;
}

-- the sixty-four bytes of a sheet's picture
unfoldable pub picture_bytes : Bc7Block → List ℕ
unfolding texel_bytes
picture_bytes s = texel_bytes (picture_of s)

-- of an acceptable sheet
pub record Kept (s : Bc7Block) (old : List ℕ) (r : RoundTrip) (out : List ℕ) : Type 0 where
  pub written : r.writing.answer ≡ Done
  -- a block without fault
  pub sixteen : length r.writing.bytes ≡ 16
  pub no_fault : fault_of (number_of r.writing.bytes) ≡ 0
  -- that reads back as the same
  pub read : r.reading.answer ≡ Done
  pub same : r.reading.block ≡ s
  -- and shows its picture, at every texel
  pub shown : length old ≡ 64 → r.shown ≡ Done
  pub picture : length old ≡ 64 → out ≡ picture_bytes s

-- of any
pub record Demanded (s : Bc7Block) (old : List ℕ) (r : RoundTrip) (out : List ℕ) : Type 0 where
  -- it is refused exactly when a listed reason holds, and the first is told
  pub refused_exactly : (r.writing.answer ≡ Done) ↔ ((i : ℕ) → (reason_at (refusals s) i).holds ≡ false)
  pub first_is_told : (i : ℕ) → (reason_at (refusals s) i).holds ≡ true → ((j : ℕ) → j < i → (reason_at (refusals s) j).holds ≡ false)
      → r.writing.answer ≡ Refused (reason_at (refusals s) i).told
  -- "with sixteen zeros"
  pub nothing_written : (i : ℕ) → (reason_at (refusals s) i).holds ≡ true → r.writing.bytes ≡ tab (λ k. 0) 16
  pub kept : Acceptable s → Kept s old r out

-- ---- a block read and written anew

unfoldable pub rewriting_of : List ℕ → Rewriting
rewriting_of block = record { reading = reading_of block; writing = writing_of (reading_of block).block }

-- sixteen bytes that are a block without fault
pub record Sound (block : List ℕ) : Type 0 where
  pub bytes : (k : ℕ) → get_or block k 0 < 256
  pub sixteen : length block ≡ 16
  pub no_fault : fault_of (number_of block) ≡ 0

-- of a block without fault
pub record Rewritten (block : List ℕ) (r : Rewriting) : Type 0 where
  -- it reads as the sheet that the reader tells, and as no other
  pub read : r.reading.answer ≡ Done
  pub reads_as : ReadsAs (number_of block) r.reading.block
  pub reads_as_one : (s : Bc7Block) → Sized s → ReadsAs (number_of block) s → s ≡ r.reading.block
  -- this is acceptable, and written
  pub acceptable : Acceptable r.reading.block
  pub written : r.writing.answer ≡ Done
  -- as the very same bytes: all 128 bits are fields, so reading and writing are inverse; the same bytes show the same
  pub same_bytes : r.writing.bytes ≡ block
