-- What a store leaves.
-- Assumes nothing.
use Rattle.std.specs.Prelude.{◌≡◌, List, ℕ, ◌+◌, ◌≤◌, ◌<◌, length, get_or}

-- the first n of a list's elements stored from place `at` on; the others stay as they were
pub record Put (at n : ℕ) (bytes old new : List ℕ) : Type 0 where
  pub size : length new ≡ length old
  pub below : (k : ℕ) → k < at → get_or new k 0 ≡ get_or old k 0
  pub here : (k : ℕ) → k < n → get_or new (at + k) 0 ≡ get_or bytes k 0
  pub above : (k : ℕ) → at + n ≤ k → get_or new k 0 ≡ get_or old k 0
