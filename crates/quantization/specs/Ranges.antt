-- The quantisation ranges, and the choice of the endpoint range.
-- 01, "Bits of a block" (weight ranges) and "Packed numbers" (endpoint ranges).
-- Assumes nothing.
use Rattle.std.specs.Prelude.{ℕ, zero, suc, ◌+◌, ◌-◌, ◌*◌, ◌/◌, ◌^◌, ◌≤◌, ◌<◌, ◌≡◌, List, [], ◌∷◌, leb, get_or}
use Rattle.laws.specs.Choice.{pick}
use Rattle.laws.specs.Table.{tab}
use Rattle.encoding.specs.declared.Encoding.{Encoding}
use Rattle.encoding.specs.declared.Encoding.TheVariants.{Bits, Trits, Quints}
use Rattle.encoding.specs.Encoding.{radix, sequence_bits}

-- One table of twenty-one ranges by their reach: 0 to 11 are the weight ranges (1, 2, 3, 4, 5, 7, 9, 11, 15, 19, 23, 31),
-- 4 to 20 the endpoint ranges (5, 7, 9, 11, 15, 19, 23, 31, 39, 47, 63, 79, 95, 127, 159, 191, 255).

-- what stands above the bits of a number of each range
abbrev pub encodings : List Encoding
encodings =
    Bits ∷ Trits ∷ Bits ∷ Quints ∷ Trits ∷ Bits ∷ Quints ∷ Trits ∷ Bits ∷ Quints ∷ Trits ∷ Bits
    ∷ Quints ∷ Trits ∷ Bits ∷ Quints ∷ Trits ∷ Bits ∷ Quints ∷ Trits ∷ Bits ∷ []

-- how many bits a number of each range has
abbrev pub bit_counts : List ℕ
bit_counts = 1 ∷ 0 ∷ 2 ∷ 0 ∷ 1 ∷ 3 ∷ 1 ∷ 2 ∷ 4 ∷ 2 ∷ 3 ∷ 5 ∷ 3 ∷ 4 ∷ 6 ∷ 4 ∷ 5 ∷ 7 ∷ 5 ∷ 6 ∷ 8 ∷ []

-- past the table: no digit and no bits
unfoldable pub encoding_at : ℕ → Encoding
encoding_at k = get_or encodings k Bits

unfoldable pub bits_at : ℕ → ℕ
bits_at k = get_or bit_counts k 0

-- what the range reaches: its largest number
unfoldable pub most_at : ℕ → ℕ
most_at k = radix (encoding_at k) * 2 ^ bits_at k - 1

-- the twenty-one reach what 01 prints. Theorem: proofs/Ranges.antt, `printed`.
abbrev pub ReachPrinted : Type 0
ReachPrinted =
    tab most_at 21
    ≡ 1 ∷ 2 ∷ 3 ∷ 4 ∷ 5 ∷ 7 ∷ 9 ∷ 11 ∷ 15 ∷ 19 ∷ 23 ∷ 31 ∷ 39 ∷ 47 ∷ 63 ∷ 79 ∷ 95 ∷ 127 ∷ 159 ∷ 191 ∷ 255 ∷ []

-- the bits that n numbers of the range take
unfoldable pub range_bits : ℕ → ℕ → ℕ
range_bits k n = sequence_bits (encoding_at k) (bits_at k) n

-- 01: "The endpoint range is the largest of the seventeen that fits into the bits left over."
-- the largest of the ranges 4 to 4 + i of which n numbers take at most that many bits; 4 where none does
unfoldable pub largest_to : ℕ → ℕ → ℕ → ℕ
largest_to n left zero = 4
largest_to n left (suc i) = pick (leb (range_bits (4 + suc i) n) left) (4 + suc i) (largest_to n left i)

-- the largest of all seventeen
unfoldable pub endpoint_range : ℕ → ℕ → ℕ
unfolding largest_to
endpoint_range n left = largest_to n left 16

-- What this comes to, without the search: r is the largest of the endpoint ranges of which n numbers take at most the bits left. It fits, and no
-- larger one does
pub record Largest (n left r : ℕ) : Type 0 where
  pub within : (4 ≤ r) × (r ≤ 20)
  pub fits : range_bits r n ≤ left
  pub above : (k : ℕ) → r < k → k ≤ 20 → left < range_bits k n

-- it is chosen where 01's fault 19 does not hold, "endpoint bits below ceil(13C/5), C the endpoint numbers". Theorem: proofs/Ranges.antt,
-- `endpoint_range_largest`.
abbrev pub LargestChosen : Type 0
LargestChosen = (n left : ℕ) → (13 * n + 4) / 5 ≤ left → Largest n left (endpoint_range n left)
