-- Fields of a number, and numbers laid one after the other in one number.
-- Assumes nothing.
use Rattle.std.specs.Prelude.{ℕ, zero, suc, ◌+◌, ◌-◌, ◌*◌, ◌/◌, ◌%◌, ◌^◌}

-- the w bits of s from bit p on, as a number; bits past the end of s are 0
unfoldable pub field : ℕ → ℕ → ℕ → ℕ
field s p w = s / 2 ^ p % 2 ^ w

-- the first n values, value i at bit `pos i`
unfoldable pub stream : (pos v : ℕ → ℕ) → ℕ → ℕ
stream pos v zero = 0
stream pos v (suc n) = v n * 2 ^ pos n + stream pos v n

-- the k low bits of s in reverse: bit i is bit k - 1 - i of s
unfoldable pub reverse : ℕ → ℕ → ℕ
unfolding stream field
reverse k s = stream (λ i. i) (λ i. field s (k - suc i) 1) k
