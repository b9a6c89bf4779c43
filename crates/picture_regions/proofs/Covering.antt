-- Rows that do not overlap, and pieces of a side.
-- Assumes nothing.
use mathlib.Core.Path.{◌≡◌, ◌∙◌}
use Prim.Native.Nat.{ℕ, ◌+◌, ◌*◌, ◌/◌, ◌%◌, ◌≤◌, ◌<◌}
use native.Mathlib.Nat.{mul-le-mul, mul-le-mul_right, add-mul, mul_comm, div-eq_of_lt-le, div-eq_of_lt, mod-eq_of_lt, mul-add-div_right, mul-add-mod_self_right, add-zero}
use native.Mathlib.Omega.{arith}
use Rattle.picture_regions.specs.Picture.{place}

-- explicit arguments, so that omega's list can name an instance
pub mul_bound : (a b m n : ℕ) → a ≤ m → b ≤ n → a * b ≤ m * n
mul_bound a b m n p q = mul-le-mul p q

-- rows of different numbers do not overlap
pub below_row : (w y z : ℕ) → y < z → y * w + w ≤ z * w
below_row w y z h = let e : (y + 1) * w ≤ z * w = mul-le-mul_right w (omega arith) in let f : (y + 1) * w ≡ y * w + 1 * w = add-mul y 1 w in omega arith

-- a place in a block of bh rows is within its numbers
pub place_within : (bw bh dx dy c : ℕ) → dx < bw → dy < bh → c < 4 → place bw dx dy c < 4 * (bw * bh)
place_within bw bh dx dy c hx hy hc = let e = below_row bw dy bh hy in let m = mul_comm bh bw in omega arith

-- x stands in the q-th piece of n
pub in_piece : (x n q : ℕ) → q * n ≤ x → x < q * n + n → x / n ≡ q
in_piece x n q a b = div-eq_of_lt-le n a (let e : (q + 1) * n ≡ q * n + 1 * n = add-mul q 1 n in omega arith)

-- q pieces of n and d more
pub quotient : (q n d : ℕ) → d < n → (q * n + d) / n ≡ q
quotient q n d h = let p : 0 < n = omega arith in mul-add-div_right p q d ∙ (rw (div-eq_of_lt h) (add-zero q))

pub remainder : (q n d : ℕ) → d < n → (q * n + d) % n ≡ d
remainder q n d h = mul-add-mod_self_right q n d ∙ mod-eq_of_lt h
