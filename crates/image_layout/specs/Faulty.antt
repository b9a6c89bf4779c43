-- 01: "A picture call answers the count of blocks with a fault, and the raster index and fault of the first one (both 0 where there is none)".
-- The faults are given as a function of the block's index, 0 for none.
-- Assumes nothing.
use Rattle.std.specs.Prelude.{◌≡◌, ℕ, zero, suc, ◌+◌, ◌≤◌, ◌<◌, eqb, ltb}
use Rattle.laws.specs.Choice.{pick}
use Rattle.image_layout.specs.declared.Tally.{Tally}

module _ (fault : ℕ → ℕ) where
  -- how many of the blocks below n have a fault
  unfoldable pub fault_count : ℕ → ℕ
  fault_count zero = 0
  fault_count (suc n) = fault_count n + pick (eqb (fault n) 0) 0 1

  -- the least of the n blocks from i on that has a fault, i + n where none has
  unfoldable pub first_from : ℕ → ℕ → ℕ
  first_from i zero = i
  first_from i (suc n) = pick (eqb (fault i) 0) (first_from (suc i) n) i

  -- the least block below n that has a fault, n where none has
  unfoldable pub first_faulty : ℕ → ℕ
  first_faulty n = first_from 0 n

  -- a number told of the first block with a fault, 0 where there is none
  unfoldable pub of_first : (ℕ → ℕ) → ℕ → ℕ
  of_first told n = pick (ltb (first_faulty n) n) (told (first_faulty n)) 0

  unfoldable pub tally_of : ℕ → Tally
  tally_of n = record { count = fault_count n; first = of_first (λ b. b) n; fault = of_first fault n }

  -- What these come to (theorem: proofs/Tallies.antt, `tallied`).
  -- r is the least number from i on, and below n, at which `fault` is not 0; n where there is none
  pub record Least (i n r : ℕ) : Type 0 where
    pub from : i ≤ r
    pub most : r ≤ n
    pub faulty : r < n → fault r ≡ 0 → ⊥
    pub none_before : (k : ℕ) → i ≤ k → k < r → fault k ≡ 0

  -- what is told where some block has a fault: the least such block, and its fault
  pub record First (n : ℕ) (t : Tally) : Type 0 where
    pub in_image : t.first < n
    pub its_fault : t.fault ≡ fault t.first
    pub faulty : t.fault ≡ 0 → ⊥
    pub least : (k : ℕ) → k < n → (fault k ≡ 0 → ⊥) → t.first ≤ k
    pub counted : t.count ≡ 0 → ⊥

  -- of n blocks
  pub record Tallied (n : ℕ) : Type 0 where
    -- the first is the least, and there is only one least
    pub first_least : Least 0 n (first_faulty n)
    pub least_one : (r : ℕ) → Least 0 n r → r ≡ first_faulty n
    -- "both 0 where there is none", and the count too
    pub none : ((k : ℕ) → k < n → fault k ≡ 0) → tally_of n ≡ record { count = 0; first = 0; fault = 0 }
    -- where there is one, the first is told
    pub some : (k : ℕ) → k < n → (fault k ≡ 0 → ⊥) → First n (tally_of n)
