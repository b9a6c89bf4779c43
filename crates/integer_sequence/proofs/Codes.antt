-- Every list of digits has a code that begins with them, in the bits that so many digits take: one test for each encoding.
-- Every digit of a code is below the radix.
-- Assumes nothing.
use mathlib.Core.Path.{◌≡◌, sym, ap, ◌∙◌}
use mathlib.Core.Logic.{⊎_elim}
use mathlib.Core.Bool.{Bool}
use mathlib.Core.List.{List, [], ◌∷◌}
use Prim.Native.Nat.{ℕ, zero, suc, ◌+◌, ◌^◌, ◌≤◌, ◌<◌, suc-le-suc}
use native.Mathlib.Nat.{le_of_suc-le-suc, not-suc-le-zero, suc_inj, suc-ne-zero, eq-or-lt_of_le, zero-add, add-suc, suc-add, add-zero}
use native.Mathlib.Omega.{arith}
use lib.Dec.{T, eqb, eqb→eq, ltb, ltb→lt}
use lib.ListN.{length, get_or}
use Rattle.encoding.specs.declared.Encoding.{Encoding}
use Rattle.encoding.specs.declared.Encoding.TheVariants.{Bits, Trits, Quints}
use Rattle.laws.specs.Choice.{both, all}
use Rattle.laws.proofs.Computed.{both_left, both_right, each}
use Rattle.encoding.specs.Encoding.{group_size, radix, code_bits}
use Rattle.integer_sequence.specs.Codes.{digit, DigitsInRange}
use Rattle.integer_sequence.specs.Writing.{code_of, begins}

-- p holds of all the lists of n digits below r
abbrev lists : ℕ → ℕ → (List ℕ → Bool) → Bool
lists r zero p = p []
lists r (suc n) p = all (λ d. lists r n (λ ds. p (d ∷ ds))) r

-- and of shorter ones
abbrev shorter : ℕ → ℕ → (List ℕ → Bool) → Bool
shorter r zero p = p []
shorter r (suc n) p = both (lists r (suc n) p) (shorter r n p)

right : Encoding → List ℕ → Bool
unfolding code_of digit
right κ ds = let c = code_of κ ds in both (ltb c (2 ^ code_bits κ (length ds))) (begins κ c 0 ds)

test_plain : T (shorter 1 1 (right Bits))
unfolding right
test_plain = tt

test_quint : T (shorter 5 3 (right Quints))
unfolding right
test_quint = tt

test_trit : T (shorter 3 5 (right Trits))
unfolding right
test_trit = tt

-- each digit of ds is below r
abbrev pub Below : ℕ → List ℕ → Type 0
Below r ds = (k : ℕ) → k < length ds → get_or ds k 0 < r

lists_at : (r n : ℕ) (p : List ℕ → Bool) → T (lists r n p) → (ds : List ℕ) → length ds ≡ n → Below r ds → T (p ds)
lists_at r zero p t [] e h = t
lists_at r zero p t (d ∷ ds) e h = absurd (suc-ne-zero _ e)
lists_at r (suc n) p t [] e h = absurd (suc-ne-zero _ (sym e))
lists_at r (suc n) p t (d ∷ ds) e h =
    lists_at r n (λ es. p (d ∷ es)) (each (λ d. lists r n (λ es. p (d ∷ es))) r t d (h 0 (omega arith))) ds (suc_inj e) (λ k l. h (suc k) (suc-le-suc l))

shorter_at : (r n : ℕ) (p : List ℕ → Bool) → T (shorter r n p) → (ds : List ℕ) → length ds ≤ n → Below r ds → T (p ds)
shorter_at r zero p t ds l h = lists_at r zero p t ds (omega arith) h
shorter_at r (suc n) p t ds l h =
    ⊎_elim (λ e. lists_at r (suc n) p (both_left (lists r (suc n) p) (shorter r n p) t) ds e h)
    (λ m. shorter_at r n p (both_right (lists r (suc n) p) (shorter r n p) t) ds (le_of_suc-le-suc m) h)
    (eq-or-lt_of_le l)

code_right : (κ : Encoding) (ds : List ℕ) → length ds ≤ group_size κ → Below (radix κ) ds → T (right κ ds)
code_right Bits ds l h = shorter_at 1 1 (right Bits) test_plain ds l h
code_right Trits ds l h = shorter_at 3 5 (right Trits) test_trit ds l h
code_right Quints ds l h = shorter_at 5 3 (right Quints) test_quint ds l h

begins_at : (κ : Encoding) (t j : ℕ) (ds : List ℕ) → T (begins κ t j ds) → (k : ℕ) → k < length ds → digit κ t (j + k) ≡ get_or ds k 0
unfolding digit
begins_at κ t j [] q k h = absurd (not-suc-le-zero h)
begins_at κ t j (d ∷ ds) q zero h = rw add-zero (eqb→eq _ _ (both_left (eqb (digit κ t j) d) (begins κ t (suc j) ds) q))
begins_at κ t j (d ∷ ds) q (suc k) h =
    rw (add-suc, ← suc-add) (begins_at κ t (suc j) ds (both_right (eqb (digit κ t j) d) (begins κ t (suc j) ds) q) k (le_of_suc-le-suc h))

pub code_lt : (κ : Encoding) (ds : List ℕ) → length ds ≤ group_size κ → Below (radix κ) ds → code_of κ ds < 2 ^ code_bits κ (length ds)
unfolding right
code_lt κ ds l h = ltb→lt _ _ (both_left (ltb (code_of κ ds) (2 ^ code_bits κ (length ds))) (begins κ (code_of κ ds) 0 ds) (code_right κ ds l h))

pub code_digit : (κ : Encoding) (ds : List ℕ) → length ds ≤ group_size κ → Below (radix κ) ds → (k : ℕ) → k < length ds → digit κ (code_of κ ds) k ≡ get_or ds k 0
unfolding right
code_digit κ ds l h k m =
    let t : T (begins κ (code_of κ ds) 0 ds) = both_right (ltb (code_of κ ds) (2 ^ code_bits κ (length ds))) (begins κ (code_of κ ds) 0 ds) (code_right κ ds l h) in
    ap (digit κ (code_of κ ds)) (sym (zero-add k)) ∙ begins_at κ (code_of κ ds) 0 ds t k m

-- ---- every digit of a code is in range

in_range : Encoding → ℕ → Bool
unfolding digit
in_range κ t = all (λ k. ltb (digit κ t k) (radix κ)) (group_size κ)

trits : T (all (in_range Trits) 256)
unfolding in_range
trits = tt

quints : T (all (in_range Quints) 128)
unfolding in_range
quints = tt

pub digit_lt : DigitsInRange
unfolding digit in_range
digit_lt Bits t k h l = omega arith
digit_lt Trits t k h l = ltb→lt (digit Trits t k) 3 (each (λ k. ltb (digit Trits t k) 3) 5 (each (in_range Trits) 256 trits t h) k l)
digit_lt Quints t k h l = ltb→lt (digit Quints t k) 5 (each (λ k. ltb (digit Quints t k) 5) 3 (each (in_range Quints) 128 quints t h) k l)

pub codes : (κ : Encoding) → 2 ^ code_bits κ (group_size κ) ≤ 256
codes Bits = omega arith
codes Trits = omega arith
codes Quints = omega arith
