-- Bounds of the signed numbers, and what the procedures leave. 000, "LDR Endpoint Decoding".
-- Assumes nothing.
use Rattle.std.specs.Prelude.{ℕ, ◌≤◌, ◌<◌, ℤ, pos, negsuc}
use Rattle.endpoint_arithmetic.specs.Signed.{base_of, offset_of, clamped}

abbrev pub Near : ℕ → ℕ → ℤ → Type 0
Near lo hi (pos n) = n ≤ hi
Near lo hi (negsuc n) = n < lo

-- z is from -lo to hi
pub record Within (lo hi : ℕ) (z : ℤ) : Type 0 where
  pub near : Near lo hi z

-- Theorem: proofs/Laws.antt, `left_within`.
pub record LeftWithin : Type 0 where
  -- 01: "Transfers give an offset from -32 to 31"
  pub offset : (a : ℕ) → Within 32 31 (offset_of a)
  -- 000: "and b remains in the range 0..255"
  pub base : (a b : ℕ) → a ≤ 255 → b ≤ 255 → base_of a b ≤ 255
  -- 000: "clamp a color into 8-bit unsigned normalized fixed-point range"
  pub clamp : (z : ℤ) → clamped z ≤ 255
