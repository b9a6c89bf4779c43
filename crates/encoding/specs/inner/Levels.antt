-- The levels of both planes in one number: what stands for a pair of unquantised weights in the code.
-- Assumes nothing.
use Rattle.std.specs.Prelude.{ℕ, ◌+◌, ◌*◌, ◌/◌, ◌%◌, ◌≤◌}
use Rattle.encoding.specs.declared.LevelPair.{LevelPair}

-- the first plane's level, and the second's
abbrev pub first_level : LevelPair → ℕ
first_level p = p.0 % 256

abbrev pub second_level : LevelPair → ℕ
second_level p = p.0 / 65536

-- the pair of two levels
abbrev pub level_pair : ℕ → ℕ → LevelPair
level_pair a b = record { 0 = a + 65536 * b }

-- two bytes and nothing else, as unquantising makes it
pub record BytePair (p : LevelPair) : Type 0 where
  pub first : p.0 % 65536 ≤ 255
  pub second : p.0 / 65536 ≤ 255
