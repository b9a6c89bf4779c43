-- 01: "The writer takes the smallest code whose present digits are the wanted ones".
-- Assumes nothing.
use mathlib.Core.Path.{◌≡◌, sym, ap, ◌∙◌}
use mathlib.Core.List.{List}
use Prim.Native.Nat.{ℕ, ◌+◌, ◌*◌, ◌/◌, ◌%◌, ◌^◌, ◌≤◌, ◌<◌}
use native.Mathlib.Nat.{zero-add}
use native.Mathlib.Decide.{dec_lt}
use native.Mathlib.Omega.{arith}
use lib.Dec.{T}
use lib.ListN.{length, get_or, take}
use Rattle.encoding.specs.declared.Encoding.{Encoding}
use Rattle.encoding.specs.declared.Stored.{Stored}
use Rattle.encoding.specs.Encoding.{group_size}
use Rattle.quantization.specs.Ranges.{encoding_at, bits_at, most_at}
use Rattle.integer_sequence.specs.Codes.{digit}
use Rattle.integer_sequence.specs.Reading.{code_at}
use Rattle.integer_sequence.specs.Writing.{digits_of, group_code, packed, values, InRange, Smallest}
use Rattle.integer_sequence.proofs.Codes.{codes}
use Rattle.integer_sequence.proofs.Places.{code_lt}
use Rattle.integer_sequence.proofs.Search.{begins_all, code_least}
use Rattle.integer_sequence.proofs.RoundTrip.{count, digit_at, code_is, digit_is}
use Rattle.symbolic_block.specs.Fields.{stored_in}
use Rattle.symbolic_block.specs.Refusals.{within}
use Rattle.symbolic_block.proofs.Numbers.{taken, in_range, value}

module _ (e : Encoding) (b : ℕ) (xs : List ℕ) (fit : InRange e b xs) (g t : ℕ) where
  least_of : ((k : ℕ) → k < group_size e → g * group_size e + k < length xs → digit e t k ≡ get_or xs (g * group_size e + k) 0 / 2 ^ b)
      → code_at e b (packed e b xs) g ≤ t
  unfolding group_code
  least_of h = elim (dec_lt t 256) [
    | yes l ↦ rw (code_is e b xs fit g) (code_least e (digits_of e b xs g) t l (begins_all e t 0 (digits_of e b xs g) (λ k m. ap (digit e t) (zero-add k) ∙ here k m)))
    | no l ↦ omega (arith, code_lt e b (packed e b xs) g, codes e)
  ]
    where
      here : (k : ℕ) → k < length (digits_of e b xs g) → digit e t k ≡ get_or (digits_of e b xs g) k 0
      here k m = h k (omega (arith, count e b xs g)) (omega (arith, count e b xs g)) ∙ sym (digit_at e b xs g k m)

-- n used ones of N stored numbers of range k, packed
module _ (N n k : ℕ) (xs : List Stored) (sized : length xs ≡ N) (some : n ≤ N) (t : T (within N n (most_at k) (stored_in xs))) where
  pub smallest : (v : ℕ) → v ≡ packed (encoding_at k) (bits_at k) (take n (values xs)) → Smallest (encoding_at k) (bits_at k) n (stored_in xs) v
  unfolding group_code
  smallest v e = rw e (record { wanted = wanted; least = least }) where
    fit : InRange (encoding_at k) (bits_at k) (take n (values xs))
    fit = in_range N n k xs sized some t

    len : length (take n (values xs)) ≡ n
    len = taken N n k xs sized some

    wanted : (i : ℕ) → i < n → digit (encoding_at k) (code_at (encoding_at k) (bits_at k) (packed (encoding_at k) (bits_at k) (take n (values xs))) (i / group_size (encoding_at k))) (i % group_size (encoding_at k)) ≡ stored_in xs i / 2 ^ bits_at k
    wanted i h =
        ap (λ (c : ℕ). digit (encoding_at k) c (i % group_size (encoding_at k))) (code_is (encoding_at k) (bits_at k) (take n (values xs)) fit (i / group_size (encoding_at k)))
        ∙ digit_is (encoding_at k) (bits_at k) (take n (values xs)) fit i (omega (arith, len))
        ∙ ap (λ (c : ℕ). c / 2 ^ bits_at k) (value N n k xs sized some i h)

    least : (g u : ℕ) → ((j : ℕ) → j < group_size (encoding_at k) → g * group_size (encoding_at k) + j < n → digit (encoding_at k) u j ≡ stored_in xs (g * group_size (encoding_at k) + j) / 2 ^ bits_at k)
        → code_at (encoding_at k) (bits_at k) (packed (encoding_at k) (bits_at k) (take n (values xs))) g ≤ u
    least g u h =
        least_of (encoding_at k) (bits_at k) (take n (values xs)) fit g u
        (λ j l m. let p : g * group_size (encoding_at k) + j < n = omega (arith, len) in
        h j l p ∙ ap (λ (c : ℕ). c / 2 ^ bits_at k) (sym (value N n k xs sized some (g * group_size (encoding_at k) + j) p)))
