-- Demand 2: a fault is told exactly when its condition is the first that holds. 01: "A block is without fault at a footprint when no row of the fault
-- table holds." 02, b: "demand 2 speaks of each reading with its own list". Theorem: proofs/Told.antt, `fault_told`.
-- Assumes nothing.
use Rattle.std.specs.Prelude.{◌≡◌, ◌↔◌, Bool, true, false, not, List, [], ◌∷◌, ◌++◌, ℕ, ◌<◌}
use Rattle.laws.specs.Reasons.{Reason, when, reason_at}
use Rattle.block_fault.specs.Told.{fault_reasons}
use Rattle.block_reading.specs.declared.Reading.{Reading}
use Rattle.block_reading.specs.declared.Reading.TheVariants.{Ordinary, Strict}
use Rattle.block_reading.specs.Faults.{is_canonical, fault_in}

-- a reading's list: the strict one has 21 behind 01's
abbrev pub reasons_in : Reading → Bool → ℕ → ℕ → List Reason
reasons_in Ordinary hdr fp B = fault_reasons hdr fp B
reasons_in Strict hdr fp B = fault_reasons hdr fp B ++ (when (not (is_canonical fp B)) 21 ∷ [])

pub record FaultTold : Type 0 where
  -- there is none exactly when no row holds
  pub none_exactly : (reading : Reading) (hdr : Bool) (fp B : ℕ)
      → (fault_in reading hdr fp B ≡ 0) ↔ ((i : ℕ) → (reason_at (reasons_in reading hdr fp B) i).holds ≡ false)
  -- the first that holds is told
  pub first_is_told : (reading : Reading) (hdr : Bool) (fp B i : ℕ) → (reason_at (reasons_in reading hdr fp B) i).holds ≡ true
      → ((j : ℕ) → j < i → (reason_at (reasons_in reading hdr fp B) j).holds ≡ false) → fault_in reading hdr fp B ≡ (reason_at (reasons_in reading hdr fp B) i).told
