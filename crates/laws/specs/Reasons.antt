-- Reasons in order, as the documents list refusals and faults: whether each holds, and the number that is told of it.
-- Assumes nothing.
use Rattle.std.specs.Prelude.{ℕ, zero, suc, Bool, false, List, [], ◌∷◌, get_or}
use Rattle.laws.specs.Choice.{pick, either}

-- a reason: whether it holds, and its number
pub record Reason : Type 0 where
  pub holds : Bool
  pub told : ℕ

abbrev pub when : Bool → ℕ → Reason
when b n = record { holds = b; told = n }

-- the number of the first reason that holds, 0 where none does
abbrev pub first_of : List Reason → ℕ
first_of [] = 0
first_of (r ∷ rs) = pick r.holds r.told (first_of rs)

-- reason i of a list; past the end one that never holds
abbrev pub reason_at : List Reason → ℕ → Reason
reason_at rs i = get_or rs i (when false 0)

-- the test holds at some number below n
abbrev pub some : (ℕ → Bool) → ℕ → Bool
some f zero = false
some f (suc n) = either (f n) (some f n)
