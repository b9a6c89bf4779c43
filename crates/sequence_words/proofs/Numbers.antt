-- The numbers of a group, as they stand in a list; the word of numbers without digits.
-- Assumes nothing.
use mathlib.Core.Path.{◌≡◌, sym, ◌∙◌}
use mathlib.Core.List.{List, [], ◌∷◌}
use Prim.Native.Nat.{ℕ, zero, suc, ◌+◌, ◌-◌, ◌*◌, ◌%◌, ◌^◌, ◌≤◌, ◌<◌, min}
use native.Mathlib.Nat.{not-suc-le-zero, le_of_suc-le-suc, add-zero, mul-le-mul_left, suc-mul, lt_of_lt_of_le}
use native.Mathlib.Decide.{dec_le}
use native.Mathlib.Omega.{arith}
use lib.ListN.{length, get_or, take, drop, length-take, length-drop, length-map, get_or-eq_default}
use lib.Pow.{pow_mono, shl_exact}
use lib.Seq.{ext_get_or, get_or-take, get_or-drop}
use Rattle.bits.specs.Field.{stream}
use Rattle.bits.proofs.Fields.{stream_lt}
use Rattle.encoding.specs.declared.Encoding.TheVariants.{Bits}
use Rattle.encoding.specs.declared.Stored.{Stored}
use Rattle.encoding.specs.Encoding.{sequence_bits}
use Rattle.integer_sequence.specs.Reading.{stored}
use Rattle.integer_sequence.specs.Writing.{values}
use Rattle.integer_sequence.proofs.Search.{value_at}
use Rattle.sequence_words.specs.inner.Words.{Absent}

pub values_length : (xs : List Stored) → length xs ≡ 64 → length (values xs) ≡ 64
values_length xs e = length-map xs (λ (s : Stored). s.0) ∙ e

pub written_length : (xs : List Stored) (n : ℕ) → length xs ≡ 64 → n ≤ 64 → length (take n (values xs)) ≡ n
written_length xs n e h = let l : length (values xs) ≡ 64 = length-map xs (λ (s : Stored). s.0) ∙ e in simp length-take (omega arith)

pub value_here : (xs : List Stored) (n j : ℕ) {x : ℕ} → j < n → x ≡ (get_or xs j (stored 0)).0 → x ≡ get_or (take n (values xs)) j 0
value_here xs n j h e = e ∙ sym (value_at xs j) ∙ sym (get_or-take n (values xs) j 0 h)

-- the group that begins with number i of xs, given its m numbers
pub listed : (xs ds : List ℕ) (i m size : ℕ) → m ≡ min size (length xs - i) → m ≤ length ds → ((k : ℕ) → k < m → get_or ds k 0 ≡ get_or xs (i + k) 0)
    → take m ds ≡ take size (drop i xs)
listed xs ds i m size count there same =
    sym (ext_get_or 0 _ _ (lengths ∙ sym len)
    (λ k l. let h : k < m = omega (arith, lengths) in
    get_or-take size (drop i xs) k 0 (omega (arith, count)) ∙ get_or-drop i xs k 0 ∙ sym (same k h) ∙ sym (get_or-take m ds k 0 h)))
  where
    len : length (take m ds) ≡ m
    len = simp length-take (omega arith)

    lengths : length (take size (drop i xs)) ≡ m
    lengths = simp (length-take, length-drop) (omega (arith, count))

-- numbers that stand one after the other
pub five_same : (xs : List ℕ) (i : ℕ) {x0 x1 x2 x3 x4 : ℕ} → x0 ≡ get_or xs i 0 → x1 ≡ get_or xs (i + 1) 0 → x2 ≡ get_or xs (i + 2) 0 → x3 ≡ get_or xs (i + 3) 0
    → x4 ≡ get_or xs (i + 4) 0 → (k : ℕ) → k < 5 → get_or (x0 ∷ x1 ∷ x2 ∷ x3 ∷ x4 ∷ []) k 0 ≡ get_or xs (i + k) 0
five_same xs i e0 e1 e2 e3 e4 zero h = rw (add-zero i) e0
five_same xs i e0 e1 e2 e3 e4 (suc zero) h = e1
five_same xs i e0 e1 e2 e3 e4 (suc (suc zero)) h = e2
five_same xs i e0 e1 e2 e3 e4 (suc (suc (suc zero))) h = e3
five_same xs i e0 e1 e2 e3 e4 (suc (suc (suc (suc zero)))) h = e4
five_same xs i e0 e1 e2 e3 e4 (suc (suc (suc (suc (suc k))))) h = absurd (not-suc-le-zero (le_of_suc-le-suc (le_of_suc-le-suc (le_of_suc-le-suc (le_of_suc-le-suc (le_of_suc-le-suc h))))))

pub three_same : (xs : List ℕ) (i : ℕ) {x0 x1 x2 : ℕ} → x0 ≡ get_or xs i 0 → x1 ≡ get_or xs (i + 1) 0 → x2 ≡ get_or xs (i + 2) 0 → (k : ℕ) → k < 3
    → get_or (x0 ∷ x1 ∷ x2 ∷ []) k 0 ≡ get_or xs (i + k) 0
three_same xs i e0 e1 e2 zero h = rw (add-zero i) e0
three_same xs i e0 e1 e2 (suc zero) h = e1
three_same xs i e0 e1 e2 (suc (suc zero)) h = e2
three_same xs i e0 e1 e2 (suc (suc (suc k))) h = absurd (not-suc-le-zero (le_of_suc-le-suc (le_of_suc-le-suc (le_of_suc-le-suc h))))

-- past the end of xs they are 0
pub past_absent : (xs ds : List ℕ) (i m n : ℕ) → length xs ≤ i + m → length ds ≤ n → ((k : ℕ) → k < n → get_or ds k 0 ≡ get_or xs (i + k) 0) → Absent m ds
past_absent xs ds i m n h l same k p = elim (dec_le n k) [
  | yes q ↦ get_or-eq_default ds 0 {n = k} (omega arith)
  | no q ↦ same k (omega arith) ∙ get_or-eq_default xs 0 {n = i + k} (omega arith)
]

pub past_end : (xs : List ℕ) (i : ℕ) → length xs ≤ i → 0 ≡ get_or xs i 0
past_end xs i h = sym (get_or-eq_default xs 0 {n = i} h)

-- the word of numbers without digits, one more at a time
module _ (b : ℕ) (u : ℕ → ℕ) (h : b ≤ 8) (small : (k : ℕ) → u k < 2 ^ b) where
  pub bits_next : (i : ℕ) → sequence_bits Bits b (suc i) ≡ b + sequence_bits Bits b i
  unfolding sequence_bits
  bits_next i = rw (suc-mul i b) (omega arith)

  pub bits_le : (k : ℕ) → sequence_bits Bits b k ≤ k * 8
  unfolding sequence_bits
  bits_le k = let m : k * b ≤ k * 8 = mul-le-mul_left k h in omega arith

  pub bits_more : (k : ℕ) → k < 8 → {x p word : ℕ} → x ≡ u k → p ≡ sequence_bits Bits b k → word ≡ stream (sequence_bits Bits b) u k
      → (x * 2 ^ p % 2 ^ 64 + word ≡ stream (sequence_bits Bits b) u (suc k)) × (stream (sequence_bits Bits b) u (suc k) < 2 ^ 64)
  unfolding stream
  bits_more k l ex ep ew =
      let e : u k * 2 ^ sequence_bits Bits b k % 2 ^ 64 ≡ u k * 2 ^ sequence_bits Bits b k = shl_exact {a = u k} b (sequence_bits Bits b k) 64 (small k) (omega (arith, bits_le k, h)) in
      (rw (ex, ep, ew, e), lt_of_lt_of_le (stream_lt (sequence_bits Bits b) (λ i. b) bits_next u small (suc k)) (pow_mono {i = sequence_bits Bits b (suc k)} {j = 64} (omega (arith, bits_le (suc k)))))
