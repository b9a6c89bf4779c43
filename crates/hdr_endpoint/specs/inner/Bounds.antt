-- The bounds of a pair that the code makes.
-- Assumes nothing.
use Rattle.std.specs.Prelude.{ℕ, ◌≤◌, get_or}
use Rattle.hdr_endpoint.specs.declared.HdrPair.{HdrPair}

pub record Twelve (p : HdrPair) : Type 0 where
  pub first : (c : ℕ) → get_or p.e0 c 0 ≤ 4095
  pub second : (c : ℕ) → get_or p.e1 c 0 ≤ 4095
