-- 02, b: "Prove over reader and writer as they stand: of all blocks that read as a given acceptable sheet, exactly one passes the strict reading."
-- 02, i: "The sheet reader, ordinary or strict, uses kind 2's list, request b's proof is over that strict reading": `fault_of true`.
-- Over the definitions; theorem: proofs/Strict.antt, `strict_reading`. Of the calls: crate strict_reader.
-- Assumes nothing.
use Rattle.std.specs.Prelude.{◌≡◌, ◌↔◌, Bool, true, ℕ, ◌^◌, ◌<◌}
use Rattle.interpolation.specs.declared.Kind.{Kind}
use Rattle.interpolation.specs.Expansion.{takes_hdr}
use Rattle.block_fault.specs.Bits.{mode_at, is_void}
use Rattle.block_fault.specs.Faults.{fault_of}
use Rattle.texel.specs.Meaning.{error_texel}
use Rattle.texel.specs.BlockTexel.{sound_texel}
use Rattle.symbolic_block.specs.declared.SymbolicBlock.{SymbolicBlock}
use Rattle.symbolic_block.specs.Fields.{Sized}
use Rattle.symbolic_block.specs.Refusals.{Acceptable}
use Rattle.symbolic_block.specs.Writing.{block_of}
use Rattle.symbolic_block.specs.Reading.{read_block, ReadsAs}
use Rattle.block_reading.specs.declared.Reading.{Reading}
use Rattle.block_reading.specs.declared.Reading.TheVariants.{Ordinary, Strict}
use Rattle.block_reading.specs.Faults.{fault_in}
use Rattle.block_reading.specs.Shown.{texel_in}

-- a block without ordinary fault that reads as s
pub record Reads (fp : ℕ) (s : SymbolicBlock) (B : ℕ) : Type 0 where
  pub no_fault : fault_of true fp B ≡ 0
  pub reads : ReadsAs fp B s

-- of the blocks that read as s
pub record OnePasses (fp : ℕ) (s : SymbolicBlock) : Type 0 where
  -- the writer's is one of them, and passes
  pub fits : block_of fp s < 2 ^ 128
  pub written_reads : Reads fp s (block_of fp s)
  pub written_passes : fault_in Strict true fp (block_of fp s) ≡ 0
  -- no other passes: it is told 21
  pub only_written : (B : ℕ) → Reads fp s B → fault_in Strict true fp B ≡ 0 → B ≡ block_of fp s
  pub others_told : (B : ℕ) → Reads fp s B → (B ≡ block_of fp s → ⊥) → fault_in Strict true fp B ≡ 21

pub record StrictReading : Type 0 where
  -- "The ordinary reading keeps 01's faults as they stand"
  pub ordinary : (hdr : Bool) (fp B : ℕ) → fault_in Ordinary hdr fp B ≡ fault_of hdr fp B
  -- "new fault 21", which no ordinary fault is, "last in order", every other fault is told as it was,
  pub new_number : (hdr : Bool) (fp B : ℕ) → fault_of hdr fp B < 21
  pub last_in_order : (hdr : Bool) (fp B : ℕ) → (fault_of hdr fp B ≡ 0 → ⊥) → fault_in Strict hdr fp B ≡ fault_of hdr fp B
  -- "exactly when the block has no other fault and is not what the writer makes from its own sheet"
  pub exactly : (hdr : Bool) (fp B : ℕ) → (fault_in Strict hdr fp B ≡ 21) ↔ ((fault_of hdr fp B ≡ 0) × (B ≡ block_of fp (read_block fp B) → ⊥))
  -- "21 shows magenta .. like any fault": in each reading a block with a fault shows the kind's error colour, one without its own texel
  pub error_shown : (reading : Reading) (kind : Kind) (fp B : ℕ) → (fault_in reading (takes_hdr kind) fp B ≡ 0 → ⊥)
      → (x y z : ℕ) → texel_in reading fp kind B x y z ≡ error_texel kind
  pub own_shown : (reading : Reading) (kind : Kind) (fp B : ℕ) → fault_in reading (takes_hdr kind) fp B ≡ 0
      → (x y z : ℕ) → texel_in reading fp kind B x y z ≡ sound_texel fp kind B x y z
  -- a solid block never is 21
  pub solid_never : (hdr : Bool) (fp B : ℕ) → B < 2 ^ 128 → is_void (mode_at fp B) ≡ true → fault_in Strict hdr fp B ≡ fault_of hdr fp B
  pub one_passes : (fp : ℕ) (s : SymbolicBlock) → Sized s → Acceptable fp s → OnePasses fp s
