-- 004, 13.1: the fields of a block from bit 0 upwards. "The fields in the block are always in the same order for all modes. Starting at the
-- lowest bit after the mode and going up, these fields are: partition number, rotation, index selection, color, alpha, per-endpoint P-bit,
-- shared P-bit, primary indices, and secondary indices."
-- Assumes nothing.
use Rattle.std.specs.Prelude.{ℕ, zero, suc, ◌+◌, ◌-◌, ◌*◌, ◌/◌, ◌%◌, Bool, eqb, ltb}
use Rattle.laws.specs.Choice.{pick}
use Rattle.bits.specs.Field.{field}
use Rattle.bc7_layout.specs.Modes.{subsets, partition_bits, rotation_bits, selection_bits, colour_bits, alpha_bits, index_bits, secondary_bits, p_bits}
use Rattle.bc7_layout.specs.Partitions.{is_anchor}

-- Sixty fields: 0 the mode's mark, 1 partition, 2 rotation, 3 index selection, 4 to 21 endpoints, 22 to 27 P bits, 28 to 43 primary and
-- 44 to 59 secondary indices.

-- endpoint j, "stored first by endpoint, then by subset, then by color"; three colours, then alpha
unfoldable pub endpoint_width : ℕ → ℕ → ℕ
unfolding subsets colour_bits alpha_bits
endpoint_width m j = pick (ltb j (6 * subsets m)) (colour_bits m) (pick (ltb j (8 * subsets m)) (alpha_bits m) 0)

unfoldable pub p_bit_width : ℕ → ℕ → ℕ
unfolding p_bits
p_bit_width m j = pick (ltb j (p_bits m)) 1 0

-- "Each index has the number of bits indicated by the mode except for one special index per subset called the anchor index": one bit less
unfoldable pub primary_width : ℕ → ℕ → ℕ → ℕ
unfolding subsets index_bits is_anchor
primary_width m p i = index_bits m - pick (is_anchor (subsets m) p i) 1 0

-- "If secondary index bits are present, they are read in the same manner." They are where there is one subset.
unfoldable pub secondary_width : ℕ → ℕ → ℕ
unfolding secondary_bits
secondary_width m i = secondary_bits m - pick (eqb i 0) 1 0

-- the bits of field k in mode m and partition p
unfoldable pub field_width : ℕ → ℕ → ℕ → ℕ
unfolding endpoint_width p_bit_width primary_width secondary_width partition_bits rotation_bits selection_bits
field_width m p k =
    pick (eqb k 0) (m + 1)
    (pick (eqb k 1) (partition_bits m)
    (pick (eqb k 2) (rotation_bits m)
    (pick (eqb k 3) (selection_bits m)
    (pick (ltb k 22) (endpoint_width m (k - 4))
    (pick (ltb k 28) (p_bit_width m (k - 22))
    (pick (ltb k 44) (primary_width m p (k - 28))
    (secondary_width m (k - 44))))))))

-- the bit where field k begins
unfoldable pub place_of : ℕ → ℕ → ℕ → ℕ
unfolding field_width
place_of m p zero = 0
place_of m p (suc k) = field_width m p k + place_of m p k

-- ---- what lies there in a block of 128 bits, given as one number

-- "The mode is identified by the lowest bits of the lowest byte. It is encoded as zero or more zeros followed by a one.": the place of the
-- lowest set bit of the n low bits of b, n where none is set
unfoldable pub lowest_one : ℕ → ℕ → ℕ
lowest_one zero b = 0
lowest_one (suc n) b = pick (eqb (b % 2) 1) 0 (suc (lowest_one n (b / 2)))

unfoldable pub first_byte : ℕ → ℕ
first_byte B = field B 0 8

unfoldable pub mode_at : ℕ → ℕ
unfolding lowest_one first_byte
mode_at B = lowest_one 8 (first_byte B)

-- fault 71: "A first byte of 0"
unfoldable pub is_reserved : ℕ → Bool
unfolding first_byte
is_reserved B = eqb (first_byte B) 0

-- the partition lies behind the mode's mark
unfoldable pub partition_field_at : ℕ → ℕ
unfolding mode_at partition_bits
partition_field_at B = field B (mode_at B + 1) (partition_bits (mode_at B))

-- field k of a block
unfoldable pub field_at : ℕ → ℕ → ℕ
unfolding mode_at partition_field_at place_of field_width
field_at B k = field B (place_of (mode_at B) (partition_field_at B) k) (field_width (mode_at B) (partition_field_at B) k)
