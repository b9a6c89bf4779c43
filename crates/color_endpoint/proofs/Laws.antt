-- The table of endpoint pairs after one more partition, and with more partitions than it holds.
-- Assumes nothing.
use mathlib.Core.Path.{◌≡◌, refl}
use mathlib.Core.List.{List, [], ◌∷◌}
use Prim.Native.Nat.{ℕ, zero, suc, ◌+◌, ◌≤◌, ◌<◌, min}
use native.Mathlib.Numerals.{add-one}
use native.Mathlib.Decide.{dec_lt}
use native.Mathlib.Omega.{arith}
use native.Mathlib.Nat.{add-zero}
use lib.ListN.{get_or, set}
use Rattle.laws.specs.Table.{tab_from, tab}
use borrow.Author.Tests.{lt-ltb, le-ltb}
use Rattle.encoding.specs.declared.Level.{Level}
use Rattle.color_endpoint.specs.Modes.{no_level}
use Rattle.color_endpoint.specs.Table.{number_count, start_of, numbers_from, entry_by, table_by}

module _ {A : Type 0} (make : ℕ → List Level → A) (none : A) (modes : List ℕ) (levels : List Level) where
  abbrev table : ℕ → List A
  table n = table_by make none modes n levels

  next' : (p : ℕ) → p < 4 → set (table p) p (make (get_or modes p 0) (numbers_from levels (start_of modes p))) ≡ table (suc p)
  unfolding table_by entry_by
  next' zero h = refl
  next' (suc zero) h = refl
  next' (suc (suc zero)) h = refl
  next' (suc (suc (suc zero))) h = refl
  next' (suc (suc (suc (suc p)))) h = absurd (omega arith)

  -- one more partition: its numbers start where the last one's end
  pub table_next : (p : ℕ) {start : ℕ} {numbers : List Level} {entry : A} {t : List A} → p < 4 →
      t ≡ table p → start ≡ start_of modes p → numbers ≡ numbers_from levels start → entry ≡ make (get_or modes p 0) numbers →
      set t p entry ≡ table (p + 1)
  table_next p h et es en ep = rw (add-one, ep, en, es, et) (next' p h)

  full : (n : ℕ) → 4 ≤ n → table 4 ≡ table n
  unfolding table_by entry_by
  full n h = rw (lt-ltb 0 n (omega arith), lt-ltb 1 n (omega arith), lt-ltb 2 n (omega arith), lt-ltb 3 n (omega arith))

  -- partitions past the fourth change nothing
  pub table_full : (n : ℕ) → table (min n 4) ≡ table n
  table_full n =
      elim (dec_lt n 4) [
        | yes h ↦ let e : min n 4 ≡ n = omega arith in rw e
        | no h ↦ let e : min n 4 ≡ 4 = omega arith in rw e (full n (omega arith))
      ]

  -- the table by partition
  pub table_at : (n p : ℕ) (d : A) → p < 4 → get_or (table n) p d ≡ entry_by make none modes n levels p
  unfolding table_by
  table_at n zero d h = refl
  table_at n (suc zero) d h = refl
  table_at n (suc (suc zero)) d h = refl
  table_at n (suc (suc (suc zero))) d h = refl
  table_at n (suc (suc (suc (suc p)))) d h = absurd (omega arith)

  -- what a partition below the count has
  pub entry_used : (n p : ℕ) → p < n → entry_by make none modes n levels p ≡ make (get_or modes p 0) (numbers_from levels (start_of modes p))
  unfolding entry_by
  entry_used n p h = rw (lt-ltb p n h)

  -- past the count what stands for none
  pub entry_past : (n p : ℕ) → n ≤ p → entry_by make none modes n levels p ≡ none
  unfolding entry_by
  entry_past n p h = rw (le-ltb p n h)

pub start_next : (modes : List ℕ) (p : ℕ) → start_of modes p + number_count (get_or modes p 0) ≡ start_of modes (p + 1)
unfolding start_of
start_next modes p = rw (add-one p)

-- the eight numbers, written out
pub eight : (levels : List Level) (s : ℕ) →
    get_or levels s no_level ∷ get_or levels (s + 1) no_level ∷ get_or levels (s + 2) no_level ∷ get_or levels (s + 3) no_level ∷
    get_or levels (s + 4) no_level ∷ get_or levels (s + 5) no_level ∷ get_or levels (s + 6) no_level ∷ get_or levels (s + 7) no_level ∷ [] ≡ numbers_from levels s
unfolding numbers_from tab tab_from
eight levels s = rw (add-zero s)
