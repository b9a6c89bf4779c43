-- 01, "Packed numbers": "The writer takes the smallest code whose present digits are the wanted ones, and leaves spare bits 0."
-- Assumes nothing.
use Rattle.std.specs.Prelude.{◌≡◌, ℕ, zero, suc, ◌+◌, ◌*◌, ◌/◌, ◌%◌, ◌^◌, ◌≤◌, ◌<◌, Bool, true, false, List, [], ◌∷◌, map, eqb, length, take, drop, get_or}
use Rattle.laws.specs.Choice.{both}
use Rattle.bits.specs.Field.{field, stream}
use Rattle.encoding.specs.Encoding.{group_size, radix, code_bits, sequence_bits}
use Rattle.encoding.specs.declared.Encoding.{Encoding}
use Rattle.encoding.specs.declared.Stored.{Stored}
use Rattle.integer_sequence.specs.Codes.{digit}
use Rattle.integer_sequence.specs.Reading.{share_bits, code_at}

-- the digits of the code t from digit k on begin with ds
abbrev pub begins : Encoding → ℕ → ℕ → List ℕ → Bool
unfolding digit
begins e t k [] = true
begins e t k (d ∷ ds) = both (eqb (digit e t k) d) (begins e t (suc k) ds)

-- the first of f numbers from t on that passes, or the number past them
abbrev pub first : (ℕ → Bool) → ℕ → ℕ → ℕ
first p zero t = t
first p (suc f) t = elim (p t) [ true ↦ t | false ↦ first p f (suc t) ]

-- the smallest code whose digits begin with ds; 256 where there is none
unfoldable pub code_of : Encoding → List ℕ → ℕ
unfolding begins
code_of e ds = first (λ t. begins e t 0 ds) 256 0

-- the digits of group g of the numbers xs: fewer where the group is cut
unfoldable pub digits_of : Encoding → ℕ → List ℕ → ℕ → List ℕ
digits_of e b xs g = map (λ x. x / 2 ^ b) (take (group_size e) (drop (g * group_size e) xs))

-- the code of group g of the numbers xs
unfoldable pub group_code : Encoding → ℕ → List ℕ → ℕ → ℕ
unfolding code_of digits_of
group_code e b xs g = code_of e (digits_of e b xs g)

-- what stands for number i: its b bits, and its share of the group's code above
unfoldable pub item : Encoding → ℕ → List ℕ → ℕ → ℕ
unfolding field group_code
item e b xs i = field (group_code e b xs (i / group_size e)) (code_bits e (i % group_size e)) (share_bits e i) * 2 ^ b + get_or xs i 0 % 2 ^ b

-- the sequence of the numbers xs
unfoldable pub packed : Encoding → ℕ → List ℕ → ℕ
unfolding stream item sequence_bits
packed e b xs = stream (sequence_bits e b) (item e b xs) (length xs)

-- each number is in its range
abbrev pub InRange : Encoding → ℕ → List ℕ → Type 0
InRange e b xs = (i : ℕ) → i < length xs → get_or xs i 0 < radix e * 2 ^ b

-- the numbers that a list of stored ones holds
abbrev pub values : List Stored → List ℕ
values xs = map (λ (s : Stored). s.0) xs

-- "the smallest code whose present digits are the wanted ones", without the search: of the codes of the sequence v of n numbers x with b
-- bits each every present digit is the wanted one, and so it is with no smaller code
pub record Smallest (e : Encoding) (b n : ℕ) (x : ℕ → ℕ) (v : ℕ) : Type 0 where
  pub wanted : (i : ℕ) → i < n → digit e (code_at e b v (i / group_size e)) (i % group_size e) ≡ x i / 2 ^ b
  pub least : (g t : ℕ) → ((k : ℕ) → k < group_size e → g * group_size e + k < n → digit e t k ≡ x (g * group_size e + k) / 2 ^ b)
      → code_at e b v g ≤ t
