-- What eight numbers in one hold.
-- Assumes nothing.
use Rattle.std.specs.Prelude.{◌≡◌, ℕ, ◌*◌, ◌/◌, ◌%◌, ◌^◌, ◌<◌}
use Rattle.sequence_numbers.specs.declared.StoredEight.{StoredEight}

abbrev pub eight : ℕ → StoredEight
eight x = record { 0 = x }

-- the first n numbers are f's, a byte each
pub record Eight (n : ℕ) (f : ℕ → ℕ) (x : StoredEight) : Type 0 where
  pub at : (j : ℕ) → j < n → x.0 / 2 ^ (8 * j) % 256 ≡ f j
