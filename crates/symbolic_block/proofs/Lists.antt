-- Lists of numbers of which the first n are used and the others are 0.
-- Assumes nothing.
use mathlib.Core.Path.{◌≡◌, refl, sym, ap}
use mathlib.Core.Bool.{Bool, true, false, not}
use mathlib.Core.List.{List}
use Prim.Native.Nat.{ℕ, zero, suc, ◌≤◌, ◌<◌}
use native.Mathlib.Omega.{arith}
use lib.Dec.{T, ltb, leb→le, le→leb}
use lib.ListN.{length, get_or}
use borrow.Author.Tests.{lt-ltb, le-ltb, ltb-true, ltb-false, not-false}
use Rattle.laws.specs.Choice.{pick, both, all}
use Rattle.laws.specs.Table.{tab, padded}
use Rattle.laws.proofs.Computed.{each}
use Rattle.laws.specs.inner.Filled.{Filled}
use Rattle.laws.proofs.Filling.{filled_all, get_or_tab}
use Rattle.encoding.specs.declared.Stored.{Stored}
use Rattle.integer_sequence.specs.Reading.{stored}
use Rattle.symbolic_block.specs.Fields.{stored_in}
use Rattle.symbolic_block.specs.Refusals.{within, some_in_use}

pub is_true : (b : Bool) → b ≡ true → T b
is_true b e = rw e tt

pub not_not : (b : Bool) → not b ≡ false → T b
not_not b e = is_true b (not-false b e)

pub is_within : (b : Bool) → T b → not b ≡ false
is_within true t = refl
is_within false t = absurd t

both_of : (a b : Bool) → T a → T b → T (both a b)
both_of true b s t = t
both_of false b s t = s

all_of : (f : ℕ → Bool) (n : ℕ) → ((k : ℕ) → k < n → T (f k)) → T (all f n)
all_of f zero h = tt
all_of f (suc n) h = both_of (f n) (all f n) (h n (omega arith)) (all_of f n (λ k l. h k (omega arith)))

module _ (N n most : ℕ) (x : ℕ → ℕ) where
  pub within_used : T (within N n most x) → (i : ℕ) → i < N → i < n → x i ≤ most
  unfolding within
  within_used t i h l = rw (lt-ltb i n l) at (leb→le (x i) (pick (ltb i n) most 0) (each _ N t i h))

  pub within_unused : T (within N n most x) → (i : ℕ) → i < N → n ≤ i → x i ≡ 0
  unfolding within
  within_unused t i h l =
      let q : x i ≤ 0 = rw (le-ltb i n l) at (leb→le (x i) (pick (ltb i n) most 0) (each _ N t i h)) in omega arith

  pub all_within : ((i : ℕ) → i < N → i < n → x i ≤ most) → ((i : ℕ) → i < N → n ≤ i → x i ≡ 0) → T (within N n most x)
  unfolding within
  all_within u v = all_of _ N (λ i l. le→leb (x i) (pick (ltb i n) most 0) (go i l (ltb i n) refl)) where
    go : (i : ℕ) → i < N → (b : Bool) → ltb i n ≡ b → x i ≤ pick (ltb i n) most 0
    go i l true q = rw q (u i l (ltb-true i n q))
    go i l false q = rw q (omega (arith, v i l (ltb-false i n q)))

-- a table of what a list holds is the list
pub tab_back : {A : Type 0} (xs : List A) (f : ℕ → A) (d : A) (N : ℕ) → length xs ≡ N → ((i : ℕ) → i < N → get_or xs i d ≡ f i) → tab f N ≡ xs
unfolding Filled
tab_back xs f d N e h = sym (filled_all f d xs N e h)

pub stored_back : (xs : List Stored) (f : ℕ → ℕ) (N : ℕ) → length xs ≡ N → ((i : ℕ) → i < N → f i ≡ stored_in xs i) → tab (λ i. stored (f i)) N ≡ xs
stored_back xs f N e h = tab_back xs (λ i. stored (f i)) (stored 0) N e (λ i l. ap stored (sym (h i l)))

-- what a table holds
pub zero_at : (N i : ℕ) → i < N → ◌≡◌ {A = ℕ} (get_or (tab (λ k. 0) N) i 0) 0
zero_at N i h = get_or_tab (λ k. 0) N i 0 h

pub stored_at : (f : ℕ → ℕ) (N i : ℕ) → i < N → stored_in (tab (λ k. stored (f k)) N) i ≡ f i
stored_at f N i h = ap (λ (x : Stored). x.0) (get_or_tab (λ k. stored (f k)) N i (stored 0) h)

-- a list whose used numbers are those of f
pub padded_back : (xs : List ℕ) (f : ℕ → ℕ) (N n most : ℕ) → length xs ≡ N → T (within N n most (λ i. get_or xs i 0))
    → ((i : ℕ) → i < N → i < n → f i ≡ get_or xs i 0) → padded N n f 0 ≡ xs
unfolding padded
padded_back xs f N n most e t h = tab_back xs (λ i. pick (ltb i n) (f i) 0) 0 N e (λ i l. go i l (ltb i n) refl) where
  go : (i : ℕ) → i < N → (b : Bool) → ltb i n ≡ b → get_or xs i 0 ≡ pick (ltb i n) (f i) 0
  go i l true q = rw q (sym (h i l (ltb-true i n q)))
  go i l false q = rw q (within_unused N n most (λ i. get_or xs i 0) t i l (ltb-false i n q))

-- unused numbers
pub zeros_back : (xs : List ℕ) (N : ℕ) → length xs ≡ N → T (within N 0 0 (λ i. get_or xs i 0)) → tab (λ i. 0) N ≡ xs
zeros_back xs N e t = tab_back xs (λ i. 0) 0 N e (λ i h. within_unused N 0 0 _ t i h (omega arith))

pub stored_zeros_back : (xs : List Stored) (N : ℕ) → length xs ≡ N → T (within N 0 0 (stored_in xs)) → tab (λ i. stored 0) N ≡ xs
stored_zeros_back xs N e t = stored_back xs (λ i. 0) N e (λ i h. sym (within_unused N 0 0 (stored_in xs) t i h (omega arith)))

pub zeros_unused : (N : ℕ) → some_in_use N (λ i. get_or (tab (λ k. 0) N) i 0) ≡ false
unfolding some_in_use
zeros_unused N =
    is_within (within N 0 0 (λ i. get_or (tab (λ k. 0) N) i 0)) (all_within N 0 0 _ (λ i h l. omega arith) (λ i h l. zero_at N i h))

pub stored_zeros_unused : (N : ℕ) → some_in_use N (stored_in (tab (λ k. stored 0) N)) ≡ false
unfolding some_in_use
stored_zeros_unused N =
    is_within (within N 0 0 (stored_in (tab (λ k. stored 0) N))) (all_within N 0 0 _ (λ i h l. omega arith) (λ i h l. stored_at (λ k. 0) N i h))
