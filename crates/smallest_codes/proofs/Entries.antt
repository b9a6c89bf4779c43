-- The tables: the entry of digits is their smallest code, and digits that are out of range have none.
-- Assumes nothing.
use mathlib.Core.Path.{◌≡◌, refl, sym, ap, ap₂, ◌∙◌}
use mathlib.Core.Bool.{Bool, true, false}
use mathlib.Core.List.{List, [], ◌∷◌}
use Prim.Native.Nat.{ℕ, zero, suc, ◌+◌, ◌*◌, ◌/◌, ◌%◌, ◌^◌, ◌≤◌, ◌<◌}
use native.Mathlib.Nat.{le_of_suc-le-suc, not-suc-le-zero, add-suc, suc-add, add-zero, zero-add, mod-lt, le_trans}
use native.Mathlib.Decide.{dec_lt}
use native.Mathlib.Omega.{arith}
use lib.Arith.{digits_div, digits_mod}
use lib.Dec.{T, eqb, ltb, ltb→lt}
use lib.ListN.{length, get_or}
use lib.Pow.{pow_mono}
use borrow.Author.Tests.{ne_eqb}
use Rattle.laws.specs.Choice.{all, both}
use Rattle.laws.proofs.Computed.{each}
use Rattle.laws.proofs.Filling.{get_or_tab}
use Rattle.encoding.specs.declared.Encoding.{Encoding}
use Rattle.encoding.specs.declared.Encoding.TheVariants.{Bits, Trits, Quints}
use Rattle.encoding.specs.Encoding.{group_size, radix, code_bits}
use Rattle.encoding.proofs.Laws.{radix_pos}
use Rattle.integer_sequence.specs.Codes.{digit}
use Rattle.integer_sequence.specs.Writing.{begins, first, code_of}
use Rattle.integer_sequence.proofs.Codes.{Below, code_lt, code_digit, codes}
use Rattle.integer_sequence.proofs.Places.{code_mono}
use Rattle.integer_sequence.proofs.Search.{begins_all, code_least}
use Rattle.smallest_codes.specs.Smallest.{digits_in, smallest_codes, SmallestCode, TablesSmallest}

-- the number whose digits in base r are ds, the first lowest
abbrev pub number_in : ℕ → List ℕ → ℕ
number_in r [] = 0
number_in r (d ∷ ds) = number_in r ds * r + d

pub below_none : (r : ℕ) → Below r []
below_none r k h = absurd (not-suc-le-zero h)

pub below_more : (r d : ℕ) (ds : List ℕ) → d < r → Below r ds → Below r (d ∷ ds)
below_more r d ds h b zero l = h
below_more r d ds h b (suc k) l = b k (le_of_suc-le-suc l)

digits_back : (r : ℕ) (ds : List ℕ) → Below r ds → digits_in r (length ds) (number_in r ds) ≡ ds
digits_back r [] b = refl
digits_back r (d ∷ ds) b =
    let h : d < r = b 0 (omega arith) in
    ap₂ (λ (x : ℕ) (xs : List ℕ). x ∷ xs) (digits_mod (number_in r ds) h)
    (ap (digits_in r (length ds)) (digits_div (number_in r ds) h) ∙ digits_back r ds (λ k l. b (suc k) (omega arith)))

-- the entry of digits in range is their code
pub entry_code : (κ : Encoding) (ds : List ℕ) {table : List ℕ} {m i : ℕ} → table ≡ smallest_codes κ m → m ≡ length ds → i ≡ number_in (radix κ) ds → i < radix κ ^ m
    → Below (radix κ) ds → get_or table i 0 ≡ code_of κ ds
unfolding smallest_codes
entry_code κ ds {table} {m} {i} et em ei h b =
    rw et (get_or_tab (λ j. code_of κ (digits_in (radix κ) m j)) (radix κ ^ m) i 0 h)
    ∙ ap (code_of κ) (ap₂ (digits_in (radix κ)) em ei ∙ digits_back (radix κ) ds b)

length_digits : (r m j : ℕ) → length (digits_in r m j) ≡ m
length_digits r zero j = refl
length_digits r (suc m) j = ap (λ (n : ℕ). suc n) (length_digits r m (j / r))

digits_below : (r m j : ℕ) → 0 < r → Below r (digits_in r m j)
digits_below r zero j h = below_none r
digits_below r (suc m) j h = below_more r (j % r) (digits_in r m (j / r)) (mod-lt j h) (digits_below r m (j / r) h)

codes_le : (κ : Encoding) (n : ℕ) → n ≤ group_size κ → 2 ^ code_bits κ n ≤ 256
codes_le κ n h = le_trans (pow_mono (code_mono κ (group_size κ) n h)) (codes κ)

-- THE TABLES: each entry's code gives the wanted digits, and no smaller code does
pub entry_smallest : TablesSmallest
unfolding smallest_codes
entry_smallest κ m j h l = rw (get_or_tab (λ i. code_of κ (digits_in (radix κ) m i)) (radix κ ^ m) j 0 l) (record { wanted = wanted; least = least })
  where
    ds : List ℕ
    ds = digits_in (radix κ) m j

    small : length ds ≤ group_size κ
    small = rw (length_digits (radix κ) m j) h

    below : Below (radix κ) ds
    below = digits_below (radix κ) m j (radix_pos κ)

    wanted : (k : ℕ) → k < length ds → digit κ (code_of κ ds) k ≡ get_or ds k 0
    wanted k n = code_digit κ ds small below k n

    least : (u : ℕ) → ((k : ℕ) → k < length ds → digit κ u k ≡ get_or ds k 0) → code_of κ ds ≤ u
    least u e = elim (dec_lt u 256) [
      | yes n ↦ code_least κ ds u n (begins_all κ u 0 ds (λ k i. ap (digit κ u) (zero-add k) ∙ e k i))
      | no n ↦ omega (arith, code_lt κ ds small below, codes_le κ (length ds) small)
    ]

-- ---- digits out of range

in_range : Encoding → ℕ → Bool
unfolding digit
in_range κ t = all (λ k. ltb (digit κ t k) (radix κ)) (group_size κ)

trits : T (all (in_range Trits) 256)
unfolding in_range
trits = tt

quints : T (all (in_range Quints) 256)
unfolding in_range
quints = tt

digit_below : (κ : Encoding) (t k : ℕ) → t < 256 → k < group_size κ → digit κ t k < radix κ
unfolding digit in_range
digit_below Bits t k h l = omega arith
digit_below Trits t k h l = ltb→lt (digit Trits t k) 3 (each (λ k. ltb (digit Trits t k) 3) 5 (each (in_range Trits) 256 trits t h) k l)
digit_below Quints t k h l = ltb→lt (digit Quints t k) 5 (each (λ k. ltb (digit Quints t k) 5) 3 (each (in_range Quints) 256 quints t h) k l)

no_begin : (κ : Encoding) (t j : ℕ) (ds : List ℕ) (k : ℕ) → k < length ds → (digit κ t (j + k) ≡ get_or ds k 0 → ⊥) → begins κ t j ds ≡ false
unfolding digit
no_begin κ t j [] k h n = absurd (not-suc-le-zero h)
no_begin κ t j (d ∷ ds) zero h n = rw (ne_eqb (digit κ t j) d (λ e. n (rw (add-zero j) e)))
no_begin κ t j (d ∷ ds) (suc k) h n =
    go (eqb (digit κ t j) d) (no_begin κ t (suc j) ds k (le_of_suc-le-suc h) (λ e. n (rw (add-suc, ← suc-add) e)))
  where
    go : (x : Bool) → begins κ t (suc j) ds ≡ false → both x (begins κ t (suc j) ds) ≡ false
    go true e = e
    go false e = refl

first_none : (p : ℕ → Bool) (f t : ℕ) → ((u : ℕ) → u < t + f → p u ≡ false) → first p f t ≡ t + f
first_none p zero t h = sym (add-zero t)
first_none p (suc f) t h = rw (h t (omega arith), first) (first_none p f (suc t) (λ u l. h u (omega arith)) ∙ suc-add t f ∙ sym (add-suc t f))

-- a digit out of range has no code
pub no_code : (κ : Encoding) (ds : List ℕ) (k : ℕ) → k < length ds → k < group_size κ → radix κ ≤ get_or ds k 0 → 256 ≡ code_of κ ds
unfolding code_of
no_code κ ds k l g h =
    sym (first_none (λ t. begins κ t 0 ds) 256 0 (λ t m. no_begin κ t 0 ds k l (λ e. clash t m (ap (digit κ t) (sym (zero-add k)) ∙ e))))
  where
    clash : (t : ℕ) → t < 0 + 256 → digit κ t k ≡ get_or ds k 0 → ⊥
    clash t m e = omega (arith, digit_below κ t k (omega arith) g, e, h)
