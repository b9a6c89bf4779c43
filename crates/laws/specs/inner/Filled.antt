-- What a list that is filled from the front holds: the promise of a function that fills one, and the invariant of its loop; four stores at once.
-- Assumes nothing.
use Rattle.std.specs.Prelude.{◌≡◌, List, ℕ, ◌+◌, ◌<◌, get_or, set}

module _ {A : Type 0} where
  -- the list holds f at every place below n; d stands past its end
  unfoldable pub Filled : (ℕ → A) → A → List A → ℕ → Type 0
  Filled f d l n = (k : ℕ) → k < n → get_or l k d ≡ f k

  -- the list with four elements from place i on
  abbrev pub put_four : List A → ℕ → A → A → A → A → List A
  put_four l i a b c e = set (set (set (set l i a) (i + 1) b) (i + 2) c) (i + 3) e
