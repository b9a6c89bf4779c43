-- 01, "Packed numbers": "The writer takes the smallest code whose present digits are the wanted ones". 02, c: tables of such codes, and what is
-- shown "once over each table".
-- Assumes nothing.
use Rattle.std.specs.Prelude.{◌≡◌, List, [], ◌∷◌, ℕ, zero, suc, ◌/◌, ◌%◌, ◌^◌, ◌≤◌, ◌<◌, length, get_or}
use Rattle.laws.specs.Table.{tab}
use Rattle.encoding.specs.Encoding.{group_size, radix}
use Rattle.encoding.specs.declared.Encoding.{Encoding}
use Rattle.integer_sequence.specs.Codes.{digit}
use Rattle.integer_sequence.specs.Writing.{code_of}

-- the m lowest digits of j in base r, the lowest first
abbrev pub digits_in : ℕ → ℕ → ℕ → List ℕ
digits_in r zero j = []
digits_in r (suc m) j = j % r ∷ digits_in r m (j / r)

-- the table for groups of m digits: entry j is the smallest code whose first m digits are those of j
unfoldable pub smallest_codes : Encoding → ℕ → List ℕ
unfolding tab code_of
smallest_codes e m = tab (λ j. code_of e (digits_in (radix e) m j)) (radix e ^ m)

-- the code t gives the digits ds, and no smaller code does
pub record SmallestCode (e : Encoding) (ds : List ℕ) (t : ℕ) : Type 0 where
  pub wanted : (k : ℕ) → k < length ds → digit e t k ≡ get_or ds k 0
  pub least : (u : ℕ) → ((k : ℕ) → k < length ds → digit e u k ≡ get_or ds k 0) → t ≤ u

-- "its code gives the wanted digits and no smaller one does", of every table. Theorem: proofs/Entries.antt, `entry_smallest`.
abbrev pub TablesSmallest : Type 0
TablesSmallest = (e : Encoding) (m j : ℕ) → m ≤ group_size e → j < radix e ^ m → SmallestCode e (digits_in (radix e) m j) (get_or (smallest_codes e m) j 0)
