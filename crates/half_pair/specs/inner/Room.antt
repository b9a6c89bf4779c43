-- The bounds of an end that the code makes wider.
-- Assumes nothing.
use Rattle.std.specs.Prelude.{◌≡◌, ℕ, ◌≤◌, Bool, false, List, get_or}

-- the channels of an end have 12 bits, and an alpha that is LDR has 8
pub record Room (alpha : Bool) (e : List ℕ) : Type 0 where
  pub twelve : (c : ℕ) → get_or e c 0 ≤ 4095
  pub last : alpha ≡ false → get_or e 3 0 ≤ 255
