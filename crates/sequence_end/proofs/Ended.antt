-- What holds of the end of a sequence and of its missing digits (statement: specs/Ending.antt) is proved.
-- Assumes nothing.
use mathlib.Core.Path.{◌≡◌, refl, sym, ap, ◌∙◌}
use mathlib.Core.Logic.{◌↔◌}
use mathlib.Core.Bool.{true}
use mathlib.Core.List.{[], ◌∷◌}
use Prim.Native.Nat.{ℕ, zero, suc, ◌+◌, ◌-◌, ◌/◌, ◌%◌, ◌≤◌, ◌<◌, suc-le-suc}
use native.Mathlib.Nat.{le_of_suc-le-suc, not-suc-le-zero, add-zero, add-suc, suc-add}
use native.Mathlib.Omega.{arith}
use lib.Dec.{eqb}
use borrow.Author.Tests.{eq-eqb, ne_eqb, eqb-true}
use Rattle.laws.specs.Table.{tab, tab_from}
use Rattle.laws.proofs.Computed.{both_true}
use Rattle.bits.specs.Field.{field, stream}
use Rattle.encoding.specs.declared.Encoding.{Encoding}
use Rattle.encoding.specs.declared.Encoding.TheVariants.{Trits, Quints}
use Rattle.encoding.specs.Encoding.{group_size, sequence_bits}
use Rattle.quantization.specs.Ranges.{encoding_at, bits_at}
use Rattle.integer_sequence.specs.Codes.{digit}
use Rattle.integer_sequence.specs.Reading.{share, code_at, numbers, sequence_at}
use Rattle.integer_sequence.specs.Writing.{item, packed}
use Rattle.sequence_end.specs.declared.Sequence.{Sequence}
use Rattle.sequence_end.specs.Ending.{end_of, missing, all_zero, missing_zero, sequence_of, Ended}
use Rattle.sequence_end.proofs.Missing.{missing_none}

-- ---- lists of zeros

zero_at : (f : ℕ → ℕ) (i m : ℕ) → all_zero (tab_from f i m) ≡ true → (k : ℕ) → k < m → f (i + k) ≡ 0
unfolding tab_from
zero_at f i zero e k h = absurd (not-suc-le-zero h)
zero_at f i (suc m) e zero h = rw add-zero (eqb-true (f i) 0 (both_true (eqb (f i) 0) (all_zero (tab_from f (suc i) m)) e).0)
zero_at f i (suc m) e (suc k) h =
    rw (add-suc, ← suc-add) (zero_at f (suc i) m (both_true (eqb (f i) 0) (all_zero (tab_from f (suc i) m)) e).1 k (le_of_suc-le-suc h))

at_zero : (f : ℕ → ℕ) (i m : ℕ) → ((k : ℕ) → k < m → f (i + k) ≡ 0) → all_zero (tab_from f i m) ≡ true
unfolding tab_from
at_zero f i zero h = refl
at_zero f i (suc m) h =
    let z : f i ≡ 0 = ap f (sym (add-zero i)) ∙ h 0 (omega arith) in
    rw (eq-eqb (f i) 0 z) (at_zero f (suc i) m (λ k l. ap f (suc-add i k ∙ sym (add-suc i k)) ∙ h (suc k) (suc-le-suc l)))

-- ---- a cut group

module _ (e : Encoding) (b s n : ℕ) (c : 0 < n % group_size e) where
  abbrev k₀ : ℕ
  k₀ = n % group_size e

  abbrev at : ℕ → ℕ
  at k = digit e (code_at e b s (n / group_size e)) k

  listed : missing_zero e b s n ≡ all_zero (tab_from (λ i. at (k₀ + i)) 0 (group_size e - k₀))
  unfolding missing tab
  listed = rw (ne_eqb (n % group_size e) 0 (λ q. omega (arith, q)))

  zero_cut : (missing_zero e b s n ≡ true) ↔ ((k : ℕ) → k₀ ≤ k → k < group_size e → at k ≡ 0)
  zero_cut = (
    λ z k l h.
        let q : k ≡ k₀ + (0 + (k - k₀)) = omega arith in
        ap at q ∙ zero_at (λ i. at (k₀ + i)) 0 (group_size e - k₀) (sym listed ∙ z) (k - k₀) (omega arith),
    λ h. listed ∙ at_zero (λ i. at (k₀ + i)) 0 (group_size e - k₀) (λ k l. h (k₀ + (0 + k)) (omega arith) (omega arith)),
  )

-- ---- what is told

abbrev told : ℕ → ℕ → ℕ → Sequence
told range n s =
    let e = encoding_at range in
    let b = bits_at range in
    record { numbers = numbers e b s n; end = end_of e b n; zero = missing_zero e b s n }

told_is : (range B from n : ℕ) → sequence_of range B from n ≡ told range n (sequence_at (encoding_at range) (bits_at range) B from n)
unfolding sequence_of
told_is range B from n = refl

-- ---- samples

one_trit_lem : missing Trits 0 3 1 ≡ 0 ∷ 2 ∷ 0 ∷ 0 ∷ []
unfolding missing code_at stream share field sequence_bits digit tab tab_from
one_trit_lem = refl

four_trits_lem : missing Trits 0 0b11100 4 ≡ 2 ∷ []
unfolding missing code_at stream share field sequence_bits digit tab tab_from
four_trits_lem = refl

of_the_writer : missing Trits 0 (packed Trits 0 (2 ∷ 1 ∷ 0 ∷ 2 ∷ [])) 4 ≡ 2 ∷ []
unfolding missing code_at stream share field sequence_bits digit tab tab_from packed item
of_the_writer = refl

one_quint_lem : missing Quints 0 7 1 ≡ 4 ∷ 4 ∷ []
unfolding missing code_at stream share field sequence_bits digit tab tab_from
one_quint_lem = refl

pub ended : Ended
ended = record {
  same_numbers = λ range B from n. ap (λ (q : Sequence). q.numbers) (told_is range B from n);
  end_fixed = λ range B C from to n. ap (λ (q : Sequence). q.end) (told_is range B from n) ∙ sym (ap (λ (q : Sequence). q.end) (told_is range C to n));
  end_enough = λ range B C from to n e. told_is range B from n ∙ ap (told range n) e ∙ sym (told_is range C to n);
  not_cut = missing_none;
  cut = zero_cut;
  one_trit_lem = one_trit_lem;
  four_trits_lem = four_trits_lem;
  of_the_writer = of_the_writer;
  one_quint_lem = one_quint_lem;
}
