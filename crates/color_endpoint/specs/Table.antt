-- 01, "The picture of a sheet": partition 0 takes the first 2(class+1) endpoint numbers, each next partition those that follow.
-- Assumes nothing.
use Rattle.std.specs.Prelude.{ℕ, zero, suc, ◌+◌, ◌*◌, ◌/◌, List, [], ◌∷◌, ltb, get_or}
use Rattle.laws.specs.Choice.{pick}
use Rattle.laws.specs.Table.{tab}
use Rattle.encoding.specs.declared.Level.{Level}
use Rattle.endpoint_arithmetic.specs.declared.EndpointPair.{EndpointPair}
use Rattle.endpoint_arithmetic.specs.Pair.{zero_pair}
use Rattle.color_endpoint.specs.Modes.{no_level, pair_of}

-- the numbers that a mode takes: 2(class+1), its class being mode/4 (000's n)
unfoldable pub number_count : ℕ → ℕ
number_count mode = 2 * (mode / 4 + 1)

-- where the numbers of partition p begin
unfoldable pub start_of : List ℕ → ℕ → ℕ
start_of modes zero = 0
start_of modes (suc p) = start_of modes p + number_count (get_or modes p 0)

-- eight numbers from start on, 0 past the last
unfoldable pub numbers_from : List Level → ℕ → List Level
numbers_from levels start = tab (λ k. get_or levels (start + k) no_level) 8

-- what partition p has, by its mode and its numbers; past the count what stands for none
unfoldable pub entry_by : {A : Type 0} → (ℕ → List Level → A) → A → List ℕ → ℕ → List Level → ℕ → A
entry_by make none modes count levels p = pick (ltb p count) (make (get_or modes p 0) (numbers_from levels (start_of modes p))) none

-- four partitions
unfoldable pub table_by : {A : Type 0} → (ℕ → List Level → A) → A → List ℕ → ℕ → List Level → List A
table_by make none modes count levels =
    entry_by make none modes count levels 0 ∷ entry_by make none modes count levels 1 ∷ entry_by make none modes count levels 2
    ∷ entry_by make none modes count levels 3 ∷ []

-- 01: "Four partitions may each hold a pair of four channels."; past the count the pair of zeros
abbrev pub table_of : List ℕ → ℕ → List Level → List EndpointPair
table_of modes count levels = table_by pair_of zero_pair modes count levels
