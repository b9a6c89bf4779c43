-- 02, g: "Reading a packed sequence must also tell the position after its last bit, counted from its first, and whether the cut group's
-- missing digits came out as zero." "Where no group is cut, the missing digits count as zero."
-- Assumes nothing.
use Rattle.std.specs.Prelude.{◌≡◌, ◌↔◌, Bool, true, List, [], ◌∷◌, ℕ, ◌+◌, ◌-◌, ◌/◌, ◌%◌, ◌≤◌, ◌<◌, eqb}
use Rattle.laws.specs.Choice.{pick, both}
use Rattle.laws.specs.Table.{tab}
use Rattle.encoding.specs.declared.Encoding.{Encoding}
use Rattle.encoding.specs.declared.Encoding.TheVariants.{Trits, Quints}
use Rattle.encoding.specs.Encoding.{group_size, sequence_bits}
use Rattle.quantization.specs.Ranges.{encoding_at, bits_at}
use Rattle.integer_sequence.specs.Codes.{digit}
use Rattle.integer_sequence.specs.Reading.{code_at, numbers, sequence_at}
use Rattle.integer_sequence.specs.Writing.{packed}
use Rattle.sequence_end.specs.declared.Sequence.{Sequence}

-- "the position after its last bit, counted from its first", of n numbers with b bits each: nb, plus ceil(8n/5) with trits, ceil(7n/3)
-- with quints
abbrev pub end_of : Encoding → ℕ → ℕ → ℕ
end_of e b n = sequence_bits e b n

-- the missing digits of the group that n numbers cut, in their order: those of its code that no number takes. They are digits, not bits: the
-- code is read with 0 for the bits past the end, and may have other digits than 0 there. None where no group is cut.
unfoldable pub missing : Encoding → ℕ → ℕ → ℕ → List ℕ
unfolding tab digit code_at
missing e b s n =
    let k = n % group_size e in
    pick (eqb k 0) [] (tab (λ i. digit e (code_at e b s (n / group_size e)) (k + i)) (group_size e - k))

abbrev pub all_zero : List ℕ → Bool
all_zero [] = true
all_zero (d ∷ ds) = both (eqb d 0) (all_zero ds)

-- "whether the cut group's missing digits came out as zero"
abbrev pub missing_zero : Encoding → ℕ → ℕ → ℕ → Bool
missing_zero e b s n = all_zero (missing e b s n)

-- what the reader tells of the n numbers of a quantisation range that begin at bit `from` of B; of more than 64 it gives the first 64
unfoldable pub sequence_of : ℕ → ℕ → ℕ → ℕ → Sequence
unfolding missing
sequence_of range B from n =
    let e = encoding_at range in
    let b = bits_at range in
    let s = sequence_at e b B from n in
    record { numbers = numbers e b s n; end = end_of e b n; zero = missing_zero e b s n }

-- What holds of it. Proved: proofs/Ended.antt, `ended`.
pub record Ended : Type 0 where
  -- the numbers are those that `integer_sequence::read_sequence` promises
  pub same_numbers : (range B from n : ℕ)
      → (sequence_of range B from n).numbers ≡ numbers (encoding_at range) (bits_at range) (sequence_at (encoding_at range) (bits_at range) B from n) n
  -- the end is fixed by count and range: any two blocks, any two places
  pub end_fixed : (range B C from to n : ℕ) → (sequence_of range B from n).end ≡ (sequence_of range C to n).end
  -- no bit of the sequence lies past it: the block's other bits change nothing that is told
  pub end_enough : (range B C from to n : ℕ)
      → sequence_at (encoding_at range) (bits_at range) B from n ≡ sequence_at (encoding_at range) (bits_at range) C to n
      → sequence_of range B from n ≡ sequence_of range C to n
  -- "Where no group is cut, the missing digits count as zero."
  pub not_cut : (e : Encoding) (b s n : ℕ) → n % group_size e ≡ 0 → missing_zero e b s n ≡ true
  -- else exactly when each is 0
  pub cut : (e : Encoding) (b s n : ℕ) → 0 < n % group_size e
      → (missing_zero e b s n ≡ true) ↔ ((k : ℕ) → n % group_size e ≤ k → k < group_size e → digit e (code_at e b s (n / group_size e)) k ≡ 0)
  -- one trit, of code 3: 0, 2, 0, 0 are missing; four, with T[4:2] = 111: 2 is missing
  pub one_trit_lem : missing Trits 0 3 1 ≡ 0 ∷ 2 ∷ 0 ∷ 0 ∷ []
  pub four_trits_lem : missing Trits 0 0b11100 4 ≡ 2 ∷ []
  -- the writer's own smallest code of 2, 1, 0, 2 leaves the fifth trit 2: a block of ours need not have missing digits 0
  pub of_the_writer : missing Trits 0 (packed Trits 0 (2 ∷ 1 ∷ 0 ∷ 2 ∷ [])) 4 ≡ 2 ∷ []
  -- one quint, of code 7: 4, 4 are missing
  pub one_quint_lem : missing Quints 0 7 1 ≡ 4 ∷ 4 ∷ []
