-- 000, "Weight Application": "converted to FP16 with round-to-zero semantics".
-- Assumes nothing.
use Rattle.std.specs.Prelude.{ℕ, ◌+◌, ◌*◌, ◌≤◌, ◌<◌}
use Rattle.half_float.specs.Half.{worth, unorm_half}

-- the pattern is worth no more than the number, and the next pattern is worth more: 256 units of 2^-24 are 2^-16
pub record Rounded (n c : ℕ) : Type 0 where
  pub reached : worth n ≤ 256 * c
  pub passed : 256 * c < worth (n + 1)

-- what is shown of every LDR channel that is not 1.0. Theorem: proofs/Rounding.antt, `unorm_rounded`.
abbrev pub UnormRounded : Type 0
UnormRounded = (c : ℕ) → c < 65535 → Rounded (unorm_half c) c
