-- 000, "Endpoint Unquantization" and "Weight Unquantization": from a stored number to its level. 01 says widen.
-- Assumes nothing.
use Rattle.std.specs.Prelude.{ℕ, zero, suc, ◌+◌, ◌-◌, ◌*◌, ◌/◌, ◌%◌, ◌^◌, ◌≤◌, Bool, List, [], ◌∷◌, leb, ltb, eqb, get_or}
use Rattle.std.specs.Int.Bits.{bit_and, bit_or, bit_xor}
use Rattle.laws.specs.Choice.{pick, both}
use Rattle.encoding.specs.declared.Encoding.{Encoding}
use Rattle.encoding.specs.declared.Encoding.TheVariants.{Bits, Trits, Quints}
use Rattle.quantization.specs.Ranges.{encoding_at, bits_at, most_at}

-- The letters of the printed bit layouts, as bits of the stored number: a is its lowest bit. A printed 0 is o.
abbrev o : ℕ → ℕ
o v = 0

abbrev a : ℕ → ℕ
a v = v % 2

abbrev b : ℕ → ℕ
b v = v / 2 % 2

abbrev c : ℕ → ℕ
c v = v / 4 % 2

abbrev d : ℕ → ℕ
d v = v / 8 % 2

abbrev e : ℕ → ℕ
e v = v / 16 % 2

abbrev f : ℕ → ℕ
f v = v / 32 % 2

-- the number whose bits are printed so, after bits that make n
abbrev spell : List (ℕ → ℕ) → ℕ → ℕ → ℕ
spell [] v n = n
spell (x ∷ xs) v n = spell xs v (2 * n + x v)

-- the number whose bits are printed so, the most significant first
abbrev printed : List (ℕ → ℕ) → ℕ → ℕ
printed xs v = spell xs v 0

-- a row of a table of parameters
record Row : Type 0 where
  pub B : List (ℕ → ℕ)
  pub C : ℕ

abbrev row : List (ℕ → ℕ) → ℕ → Row
row xs n = record { B = xs; C = n }

abbrev no_row : Row
no_row = row [] 0

-- "ASTC color unquantization parameters"
abbrev endpoint_rows : List Row
endpoint_rows =
    row (o ∷ o ∷ o ∷ o ∷ o ∷ o ∷ o ∷ o ∷ o ∷ []) 204  -- 0..5
    ∷ row (o ∷ o ∷ o ∷ o ∷ o ∷ o ∷ o ∷ o ∷ o ∷ []) 113  -- 0..9
    ∷ row (b ∷ o ∷ o ∷ o ∷ b ∷ o ∷ b ∷ b ∷ o ∷ []) 93  -- 0..11
    ∷ row (b ∷ o ∷ o ∷ o ∷ o ∷ b ∷ b ∷ o ∷ o ∷ []) 54  -- 0..19
    ∷ row (c ∷ b ∷ o ∷ o ∷ o ∷ c ∷ b ∷ c ∷ b ∷ []) 44  -- 0..23
    ∷ row (c ∷ b ∷ o ∷ o ∷ o ∷ o ∷ c ∷ b ∷ c ∷ []) 26  -- 0..39
    ∷ row (d ∷ c ∷ b ∷ o ∷ o ∷ o ∷ d ∷ c ∷ b ∷ []) 22  -- 0..47
    ∷ row (d ∷ c ∷ b ∷ o ∷ o ∷ o ∷ o ∷ d ∷ c ∷ []) 13  -- 0..79
    ∷ row (e ∷ d ∷ c ∷ b ∷ o ∷ o ∷ o ∷ e ∷ d ∷ []) 11  -- 0..95
    ∷ row (e ∷ d ∷ c ∷ b ∷ o ∷ o ∷ o ∷ o ∷ e ∷ []) 6  -- 0..159
    ∷ row (f ∷ e ∷ d ∷ c ∷ b ∷ o ∷ o ∷ o ∷ f ∷ []) 5  -- 0..191
    ∷ []

-- "ASTC weight unquantization parameters"
abbrev weight_rows : List Row
weight_rows =
    row (o ∷ o ∷ o ∷ o ∷ o ∷ o ∷ o ∷ []) 50  -- 0..5
    ∷ row (o ∷ o ∷ o ∷ o ∷ o ∷ o ∷ o ∷ []) 28  -- 0..9
    ∷ row (b ∷ o ∷ o ∷ o ∷ b ∷ o ∷ b ∷ []) 23  -- 0..11
    ∷ row (b ∷ o ∷ o ∷ o ∷ o ∷ b ∷ o ∷ []) 13  -- 0..19
    ∷ row (c ∷ b ∷ o ∷ o ∷ o ∷ c ∷ b ∷ []) 11  -- 0..23
    ∷ []

-- both tables have a row with a trit and then one with a quint for each number of bits from 1 on
abbrev trit_row : List Row → ℕ → Row
trit_row rows n = get_or rows (2 * (n - 1)) no_row

abbrev quint_row : List Row → ℕ → Row
quint_row rows n = get_or rows (2 * (n - 1) + 1) no_row

-- "unq = D * C + B; unq = unq ^ A;", then of an endpoint "unq = (A & 0x80) | (unq >> 2);", of a weight "unq = (A & 0x20) | (unq >> 2);": top is
-- 0x80 or 0x20
unfoldable processed : ℕ → ℕ → ℕ → ℕ → ℕ → ℕ
processed top A B C D = bit_or (bit_and A top) (bit_xor (D * C + B) A / 4)

-- a number v of n bits with a digit above them: A is printed a..a, D is the digit
unfoldable scrambled : ℕ → List (ℕ → ℕ) → Row → ℕ → ℕ → ℕ
unfolding processed
scrambled top A r n v = processed top (printed A v) (printed r.B v) r.C (v / 2 ^ n)

-- "simple bit replication from the most significant bit of the value": w bits of the n bits of v, again and again from the top.
-- Bit i from the top is bit n - 1 - i % n of v.
abbrev repeated : ℕ → ℕ → ℕ → ℕ → ℕ
repeated n v i zero = 0
repeated n v i (suc w) = 2 ^ w * (v / 2 ^ (n - 1 - i % n) % 2) + repeated n v (suc i) w

unfoldable replicated_to : ℕ → ℕ → ℕ → ℕ
replicated_to w n v = repeated n v 0 w

-- "returning them to a standard range of 0..255"
unfoldable pub endpoint_level : Encoding → ℕ → ℕ → ℕ
unfolding replicated_to scrambled
endpoint_level Bits n v = replicated_to 8 n v
endpoint_level Trits n v = scrambled 0x80 (a ∷ a ∷ a ∷ a ∷ a ∷ a ∷ a ∷ a ∷ a ∷ []) (trit_row endpoint_rows n) n v
endpoint_level Quints n v = scrambled 0x80 (a ∷ a ∷ a ∷ a ∷ a ∷ a ∷ a ∷ a ∷ a ∷ []) (quint_row endpoint_rows n) n v

-- "First, we unquantize the actual stored weight values to the range 0..63." With no bits, "ASTC weight unquantization values".
unfoldable pub weight_level : Encoding → ℕ → ℕ → ℕ
unfolding replicated_to scrambled
weight_level Bits n v = replicated_to 6 n v
weight_level Trits n v = pick (eqb n 0) (get_or (0 ∷ 32 ∷ 63 ∷ []) v 0) (scrambled 0x20 (a ∷ a ∷ a ∷ a ∷ a ∷ a ∷ a ∷ []) (trit_row weight_rows n) n v)
weight_level Quints n v = pick (eqb n 0) (get_or (0 ∷ 16 ∷ 32 ∷ 47 ∷ 63 ∷ []) v 0) (scrambled 0x20 (a ∷ a ∷ a ∷ a ∷ a ∷ a ∷ a ∷ []) (quint_row weight_rows n) n v)

-- "if (unq > 32) { unq += 1; }"
abbrev pub expanded : ℕ → ℕ
expanded unq = pick (ltb 32 unq) (unq + 1) unq

-- v is a number of the endpoint range k
abbrev pub is_endpoint : ℕ → ℕ → Bool
is_endpoint k v = both (both (leb 4 k) (leb k 20)) (leb v (most_at k))

-- its level, in 0..255; 0 where it is none
unfoldable pub unquant_endpoint : ℕ → ℕ → ℕ
unfolding endpoint_level most_at encoding_at bits_at
unquant_endpoint k v = pick (is_endpoint k v) (endpoint_level (encoding_at k) (bits_at k) v) 0

-- v is a number of the weight range k
abbrev pub is_weight : ℕ → ℕ → Bool
is_weight k v = both (leb k 11) (leb v (most_at k))

-- its level, in 0..64; 0 where it is none
unfoldable pub unquant_weight : ℕ → ℕ → ℕ
unfolding weight_level most_at encoding_at bits_at
unquant_weight k v = pick (is_weight k v) (expanded (weight_level (encoding_at k) (bits_at k) v)) 0

-- 01: "Each stored endpoint widens into 0..255, each weight into 0..64". Theorem: proofs/Levels.antt, `levels_within`.
pub record LevelsWithin : Type 0 where
  pub endpoints : (k v : ℕ) → unquant_endpoint k v ≤ 255
  pub weights : (k v : ℕ) → unquant_weight k v ≤ 64
