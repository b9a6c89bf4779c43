-- 004, 13.1: what is proved of the tables, at every mode and each of its partitions; a misprint mostly breaks one of these. Theorem:
-- proofs/Tables.antt, `tables_sound`.
-- Assumes nothing.
use Rattle.std.specs.Prelude.{◌≡◌, ℕ, ◌+◌, ◌%◌, ◌^◌, ◌<◌}
use Rattle.bc7_layout.specs.Modes.{subsets, partition_bits}
use Rattle.bc7_layout.specs.Partitions.{subset_of, anchor_of}
use Rattle.bc7_layout.specs.Layout.{place_of, lowest_one}

pub record TablesSound : Type 0 where
  -- "each block contains 128 bits": the sixty fields are all of them
  pub filled : (m p : ℕ) → m < 8 → p < 2 ^ partition_bits m → place_of m p 60 ≡ 128
  -- every texel lies in a subset that is there,
  pub divided : (m p i : ℕ) → m < 8 → p < 2 ^ partition_bits m → i < 16 → subset_of (subsets m) p i < subsets m
  -- and "one special index per subset called the anchor index" is one of that subset
  pub anchored : (m p j : ℕ) → m < 8 → p < 2 ^ partition_bits m → j < subsets m → subset_of (subsets m) p (anchor_of (subsets m) p j) ≡ j
  -- "zero or more zeros followed by a one": a first byte other than 0 begins with the mark of one of the eight modes, and of no other
  pub known : (b : ℕ) → b < 256 → (b ≡ 0 → ⊥) → lowest_one 8 b < 8
  pub marked : (b : ℕ) → b < 256 → (b ≡ 0 → ⊥) → b % 2 ^ (lowest_one 8 b + 1) ≡ 2 ^ lowest_one 8 b
  pub single : (m b : ℕ) → m < 8 → b < 256 → b % 2 ^ (m + 1) ≡ 2 ^ m → lowest_one 8 b ≡ m
