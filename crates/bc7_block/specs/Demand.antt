-- 02, l: demand 3 for BC7, over the definitions: "under the same statement as demand 3 without footprint and kind", for all sheets and all blocks.
-- Theorem: proofs/Demand.antt, `demand_3`.
-- Assumes nothing.
use Rattle.std.specs.Prelude.{◌≡◌, ◌↔◌, true, false, ℕ, ◌^◌, ◌<◌}
use Rattle.laws.specs.Reasons.{reason_at}
use Rattle.bc7_block.specs.declared.Bc7Block.{Bc7Block}
use Rattle.bc7_block.specs.Fields.{Sized}
use Rattle.bc7_block.specs.Refusals.{refusals, refusal_of, Acceptable}
use Rattle.bc7_block.specs.Reading.{fault_of, read_block, ReadsAs}
use Rattle.bc7_block.specs.Writing.{block_of}
use Rattle.bc7_block.specs.Picture.{picture_of, block_texel}

pub record Demand3 : Type 0 where
  -- a sheet is refused exactly when a listed reason holds, and the first is told
  pub refused_exactly : (s : Bc7Block) → Acceptable s ↔ ((i : ℕ) → (reason_at (refusals s) i).holds ≡ false)
  pub first_is_told : (s : Bc7Block) (i : ℕ) → (reason_at (refusals s) i).holds ≡ true
      → ((j : ℕ) → j < i → (reason_at (refusals s) j).holds ≡ false) → refusal_of s ≡ (reason_at (refusals s) i).told
  -- what is written for an acceptable one is a block without fault
  pub written_fits : (s : Bc7Block) → Sized s → Acceptable s → block_of s < 2 ^ 128
  pub written_no_fault : (s : Bc7Block) → Sized s → Acceptable s → fault_of (block_of s) ≡ 0
  -- that reads back as the same: all fields are equal
  pub written_reads_back : (s : Bc7Block) → Sized s → Acceptable s → read_block (block_of s) ≡ s
  -- and shows its picture, at every texel and in every channel
  pub written_shows : (s : Bc7Block) → Sized s → Acceptable s → (i c : ℕ) → block_texel (block_of s) i c ≡ picture_of s i c
  -- a block without fault reads as one that is acceptable,
  pub read_sized : (B : ℕ) → fault_of B ≡ 0 → Sized (read_block B)
  pub read_acceptable : (B : ℕ) → fault_of B ≡ 0 → Acceptable (read_block B)
  pub reads_as : (B : ℕ) → fault_of B ≡ 0 → ReadsAs B (read_block B)
  -- and as no other
  pub reads_as_one : (B : ℕ) (s : Bc7Block) → fault_of B ≡ 0 → Sized s → ReadsAs B s → s ≡ read_block B
  -- what is written for it is the same block, which has no spare bits; so it shows the same
  pub rewritten_same : (B : ℕ) → B < 2 ^ 128 → fault_of B ≡ 0 → block_of (read_block B) ≡ B
  -- and its texels are those of the sheet
  pub read_shows : (B : ℕ) → B < 2 ^ 128 → fault_of B ≡ 0 → (i c : ℕ) → block_texel B i c ≡ picture_of (read_block B) i c
