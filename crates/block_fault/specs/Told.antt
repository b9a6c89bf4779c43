-- 01, "Faults of a block, first that holds", and "A block is without fault at a footprint when no row of the fault table holds": what the fault
-- that is told says of the list, and what HDR taken or not changes in it (02, i). Theorem: proofs/Told.antt, `told`.
-- Assumes nothing.
use Rattle.std.specs.Prelude.{◌≡◌, ◌↔◌, Bool, true, false, List, ℕ, ◌<◌, eqb}
use Rattle.laws.specs.Choice.{pick}
use Rattle.laws.specs.Reasons.{Reason, reason_at}
use Rattle.block_header.specs.Reasons.{some_hdr}
use Rattle.void_extent.specs.Layout.{hdr_void_extent}
use Rattle.block_fault.specs.Bits.{mode_at, is_void, header_at}
use Rattle.block_fault.specs.Faults.{void_reasons, mode_reasons, fault_of}

-- the rows of the table that speak of the block: "12 and 13 for solid blocks, 14 to 20 for the others"
unfoldable pub fault_reasons : Bool → ℕ → ℕ → List Reason
fault_reasons hdr fp B = pick (is_void (mode_at fp B)) (void_reasons hdr fp B) (mode_reasons hdr fp B)

-- what makes a block HDR: bit 9 of a void extent, or a mode
unfoldable pub hdr_block : ℕ → ℕ → Bool
hdr_block fp B = pick (is_void (mode_at fp B)) (hdr_void_extent B) (some_hdr (header_at fp B))

pub record FaultsTold : Type 0 where
  -- no fault exactly when no row holds,
  pub none_told : (hdr : Bool) (fp B : ℕ) → (fault_of hdr fp B ≡ 0) ↔ ((i : ℕ) → (reason_at (fault_reasons hdr fp B) i).holds ≡ false)
  -- else that of the first that holds
  pub first_told : (hdr : Bool) (fp B i : ℕ) → (reason_at (fault_reasons hdr fp B) i).holds ≡ true
      → ((j : ℕ) → j < i → (reason_at (fault_reasons hdr fp B) j).holds ≡ false) → fault_of hdr fp B ≡ (reason_at (fault_reasons hdr fp B) i).told
  -- 02, i: "In kind 2 faults 13 and 20 don't exist";
  pub never_13 : (fp B : ℕ) → fault_of true fp B ≡ 13 → ⊥
  pub never_20 : (fp B : ℕ) → fault_of true fp B ≡ 20 → ⊥
  -- the other kinds tell of a block the fault it has there, or where it has none 13 or 20, exactly when it is HDR
  pub other_kinds : (fp B : ℕ)
      → fault_of false fp B ≡ pick (eqb (fault_of true fp B) 0) (pick (hdr_block fp B) (pick (is_void (mode_at fp B)) 13 20) 0) (fault_of true fp B)
