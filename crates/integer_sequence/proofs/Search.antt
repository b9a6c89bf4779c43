-- The code of a group is the first that begins with its digits: nothing smaller does. Numbers laid on top of a block.
-- Assumes nothing.
use mathlib.Core.Path.{◌≡◌, refl, sym, ap, ◌∙◌}
use mathlib.Core.Bool.{Bool, true, false, true≢false}
use mathlib.Core.List.{List, [], ◌∷◌}
use Prim.Native.Nat.{ℕ, zero, suc, ◌+◌, ◌*◌, ◌%◌, ◌^◌, ◌≤◌, ◌<◌, suc-le-suc}
use native.Mathlib.Nat.{add-zero, add-suc, suc-add, div-one, mod-eq_of_lt, mod-le, mod-add-mod, lt_of_le_of_lt, add_comm}
use native.Mathlib.Omega.{arith}
use lib.Arith.{lt_of_le-ne}
use lib.ListN.{length, get_or, get_or-map}
use borrow.Author.Tests.{eq-eqb}
use Rattle.bits.specs.Field.{field}
use Rattle.encoding.specs.declared.Encoding.{Encoding}
use Rattle.encoding.specs.declared.Stored.{Stored}
use Rattle.integer_sequence.specs.Codes.{digit}
use Rattle.integer_sequence.specs.Reading.{stored}
use Rattle.integer_sequence.specs.Writing.{begins, first, code_of, values}

-- digits that are those of ds
pub begins_all : (κ : Encoding) (t j : ℕ) (ds : List ℕ) → ((k : ℕ) → k < length ds → digit κ t (j + k) ≡ get_or ds k 0) → begins κ t j ds ≡ true
unfolding digit
begins_all κ t j [] h = refl
begins_all κ t j (d ∷ ds) h =
    let first : digit κ t j ≡ d = ap (digit κ t) (sym (add-zero j)) ∙ h 0 (omega arith) in
    let rest : begins κ t (suc j) ds ≡ true = begins_all κ t (suc j) ds (λ k l. ap (digit κ t) (suc-add j k ∙ sym (add-suc j k)) ∙ h (suc k) (suc-le-suc l)) in
    rw (eq-eqb (digit κ t j) d first) rest

-- nothing from t on that is smaller passes
pub first_least : (p : ℕ → Bool) (f t u : ℕ) → t ≤ u → u < t + f → p u ≡ true → first p f t ≤ u
first_least p zero t u h l e = omega arith
first_least p (suc f) t u h l e = go (p t) refl (λ m. first_least p f (suc t) u m (omega arith) e)
  where
    go : (x : Bool) → p t ≡ x → (suc t ≤ u → first p f (suc t) ≤ u) → first p (suc f) t ≤ u
    go true q ih = rw (q, first) h
    go false q ih = rw (q, first) (ih (lt_of_le-ne h (λ r. true≢false (sym e ∙ ap p (sym r) ∙ q))))

-- the code is the smallest
pub code_least : (κ : Encoding) (ds : List ℕ) (t : ℕ) → t < 256 → begins κ t 0 ds ≡ true → code_of κ ds ≤ t
unfolding code_of
code_least κ ds t h e = first_least (λ u. begins κ u 0 ds) 256 0 t (omega arith) (omega arith) e

-- a number more on top of a block that holds X, which lies below bit p
pub append_next : (X v p : ℕ) → X < 2 ^ p → (field (X % 2 ^ 128) 0 p + v * 2 ^ p) % 2 ^ 128 ≡ (v * 2 ^ p + X) % 2 ^ 128
unfolding field
append_next X v p h =
    rw (div-one (X % 2 ^ 128), mod-eq_of_lt (lt_of_le_of_lt (mod-le X (2 ^ 128)) h)) (mod-add-mod X (2 ^ 128) (v * 2 ^ p) ∙ ap (λ (n : ℕ). n % 2 ^ 128) (add_comm X (v * 2 ^ p)))

-- the stored numbers as a list
pub value_at : (xs : List Stored) (i : ℕ) → get_or (values xs) i 0 ≡ (get_or xs i (stored 0)).0
value_at xs i = get_or-map (λ (s : Stored). s.0) xs i (stored 0)
