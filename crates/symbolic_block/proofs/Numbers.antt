-- Stored numbers, packed and read back; and the reversed top of a block.
-- Assumes nothing.
use mathlib.Core.Path.{◌≡◌, refl, subst, sym, ap, ◌∙◌}
use mathlib.Core.Bool.{Bool, true, false}
use mathlib.Core.List.{List}
use Prim.Native.Nat.{ℕ, ◌+◌, ◌-◌, ◌/◌, ◌%◌, ◌^◌, ◌≤◌, ◌<◌}
use native.Mathlib.Nat.{mod-eq_of_lt, mod-lt}
use native.Mathlib.Omega.{arith}
use lib.Dec.{T, ltb}
use lib.ListN.{length, get_or, take, length-map}
use lib.Pow.{pow_pos, split, shr_lt}
use lib.Seq.{get_or-take, length-take-le}
use borrow.Author.Tests.{ltb-true, ltb-false}
use Rattle.laws.specs.Choice.{pick}
use Rattle.bits.specs.Field.{field, reverse}
use Rattle.bits.proofs.Reverse.{reverse_high}
use Rattle.encoding.specs.declared.Stored.{Stored}
use Rattle.encoding.specs.Encoding.{sequence_bits}
use Rattle.quantization.specs.Ranges.{encoding_at, bits_at, most_at, range_bits}
use Rattle.quantization.proofs.Ranges.{most_lt, lt_most}
use Rattle.integer_sequence.specs.Reading.{number}
use Rattle.integer_sequence.specs.Writing.{packed, values, InRange}
use Rattle.integer_sequence.proofs.RoundTrip.{packed_lt, round_trip}
use Rattle.integer_sequence.proofs.Groups.{number_lt}
use Rattle.integer_sequence.proofs.Search.{value_at}
use Rattle.symbolic_block.specs.Fields.{stored_in}
use Rattle.symbolic_block.specs.Refusals.{within}
use Rattle.symbolic_block.proofs.Lists.{within_used, within_unused}

-- every number that is read is in its range
pub number_most : (k v i : ℕ) → number (encoding_at k) (bits_at k) v i ≤ most_at k
number_most k v i = lt_most k _ (number_lt (encoding_at k) (bits_at k) v i)

-- N stored numbers of which n are used, of range k
module _ (N n k : ℕ) (xs : List Stored) (sized : length xs ≡ N) (some : n ≤ N) where
  pub taken : length (take n (values xs)) ≡ n
  taken = length-take-le n (values xs) (omega (arith, length-map xs (λ (s : Stored). s.0)))

  pub packed_size : packed (encoding_at k) (bits_at k) (take n (values xs)) < 2 ^ range_bits k n
  unfolding range_bits
  packed_size =
      subst (λ (m : ℕ). packed (encoding_at k) (bits_at k) (take n (values xs)) < 2 ^ sequence_bits (encoding_at k) (bits_at k) m) taken
      (packed_lt (encoding_at k) (bits_at k) (take n (values xs)))

  pub value : (i : ℕ) → i < n → get_or (take n (values xs)) i 0 ≡ stored_in xs i
  value i l = get_or-take n (values xs) i 0 l ∙ value_at xs i

  module _ (t : T (within N n (most_at k) (stored_in xs))) where
    pub in_range : InRange (encoding_at k) (bits_at k) (take n (values xs))
    in_range i h =
        let l : i < n = omega (arith, taken) in
        rw (value i l) (most_lt k (stored_in xs i) (within_used N n (most_at k) (stored_in xs) t i (omega arith) l))

    -- what was packed is read back, and 0 past the last
    pub packed_back : (v : ℕ) → v ≡ packed (encoding_at k) (bits_at k) (take n (values xs))
        → (i : ℕ) → i < N → pick (ltb i n) (number (encoding_at k) (bits_at k) v i) 0 ≡ stored_in xs i
    packed_back v e i h = go (ltb i n) refl where
      go : (b : Bool) → ltb i n ≡ b → pick (ltb i n) (number (encoding_at k) (bits_at k) v i) 0 ≡ stored_in xs i
      go true q =
          let l : i < n = ltb-true i n q in
          rw (q, e) (round_trip (encoding_at k) (bits_at k) (take n (values xs)) in_range i (omega (arith, taken)) ∙ value i l)
      go false q = rw q (sym (within_unused N n (most_at k) (stored_in xs) t i h (ltb-false i n q)))

-- the low bits of the reversed block are its high bits, reversed
pub reverse_top : (k w b : ℕ) → w ≤ k → b < 2 ^ k → field (reverse k b) 0 w ≡ reverse w (field b (k - w) w)
unfolding field
reverse_top k w b h l =
    let d : k ≡ w + (k - w) = omega arith in
    let hi< : b / 2 ^ (k - w) < 2 ^ w = shr_lt w (k - w) (subst (λ (x : ℕ). b < 2 ^ x) d l) in
    ap (λ (x : ℕ). field (reverse k x) 0 w) (sym (split b (k - w)))
    ∙ reverse_high k w (b / 2 ^ (k - w)) (b % 2 ^ (k - w)) h hi< (mod-lt b (pow_pos (k - w)))
    ∙ ap (reverse w) (sym (mod-eq_of_lt hi<))
