-- 02, b: "Add a strict reading of block, picture and sheet beside the ordinary one." A block's fault by its reading. B is the number of its 128 bits.
-- Assumes nothing.
use Rattle.std.specs.Prelude.{Bool, ℕ, eqb}
use Rattle.laws.specs.Choice.{pick}
use Rattle.block_fault.specs.Faults.{fault_of}
use Rattle.symbolic_block.specs.Writing.{block_of}
use Rattle.symbolic_block.specs.Reading.{read_block}
use Rattle.block_reading.specs.declared.Reading.{Reading}
use Rattle.block_reading.specs.declared.Reading.TheVariants.{Ordinary, Strict}

-- "what the writer makes from its own sheet"
unfoldable pub canonical_of : ℕ → ℕ → ℕ
unfolding read_block block_of
canonical_of fp B = block_of fp (read_block fp B)

unfoldable pub is_canonical : ℕ → ℕ → Bool
unfolding canonical_of
is_canonical fp B = eqb B (canonical_of fp B)

-- "new fault 21, last in order, exactly when the block has no other fault and is not what the writer makes from its own sheet"
unfoldable pub strict_fault : Bool → ℕ → ℕ → ℕ
unfolding is_canonical
strict_fault hdr fp B = pick (eqb (fault_of hdr fp B) 0) (pick (is_canonical fp B) 0 21) (fault_of hdr fp B)

-- the fault of the block B at a footprint, HDR taken or not, 0 for none: "The ordinary reading keeps 01's faults as they stand"
abbrev pub fault_in : Reading → Bool → ℕ → ℕ → ℕ
fault_in Ordinary hdr fp B = fault_of hdr fp B
fault_in Strict hdr fp B = strict_fault hdr fp B
