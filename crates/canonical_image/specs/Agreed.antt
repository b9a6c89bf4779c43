-- What a rewritten image is: every block passes the strict reading where it had no fault, all shows as before, and blocks with a fault by
-- kind 2's list are untouched. Theorem: proofs/Frames.antt, `agreed`.
-- Assumes nothing.
use Rattle.std.specs.Prelude.{◌≡◌, true, List, ℕ, ◌<◌, length}
use Rattle.laws.specs.Table.{Bytes}
use Rattle.image_size.specs.Sides.{blocks_of}
use Rattle.interpolation.specs.declared.Kind.{Kind}
use Rattle.block_fault.specs.Faults.{fault_of}
use Rattle.block_reading.specs.declared.Reading.TheVariants.{Strict}
use Rattle.image_layout.specs.Numbers.{block_bytes, block_at, fault_at, fault_at_in, image_number_at, image_number_at_in}
use Rattle.canonical_image.specs.Frames.{canonical_bytes, canonical_refusal}

-- of blocks s that a call takes
pub record Agreed (fp w h : ℕ) (s : List ℕ) : Type 0 where
  -- the strict reading of each block has the fault that the ordinary one had, in every kind: 21 never
  pub passes : (kind : Kind) (b : ℕ) → b < blocks_of fp w h → fault_at_in Strict fp kind (canonical_bytes fp s) b ≡ fault_at fp kind s b
  -- so the strict picture of the rewritten blocks is the ordinary picture of the old ones, at every place in every kind
  pub same_shown : (kind : Kind) (x y c : ℕ) → x < w → y < h → image_number_at_in Strict fp kind w (canonical_bytes fp s) x y c ≡ image_number_at fp kind w s x y c
  -- a block with a fault by kind 2's list keeps its bytes
  pub faulty_kept : (b : ℕ) → b < blocks_of fp w h → (fault_of true fp (block_at s b) ≡ 0 → ⊥) → block_bytes (canonical_bytes fp s) b ≡ block_bytes s b
  -- once rewritten, rewriting changes nothing
  pub settled : canonical_bytes fp (canonical_bytes fp s) ≡ canonical_bytes fp s

-- of every call that is not refused; a lent byte is below 256
abbrev pub AgreedFrames : Type 0
AgreedFrames = (fp w h : ℕ) (s old : List ℕ) → Bytes s → canonical_refusal fp w h (length s) (length old) ≡ 0 → Agreed fp w h s
