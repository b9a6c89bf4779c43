-- The word order reaches every word exactly once: `once`, by induction on the bits of both sides.
-- Assumes nothing.
use mathlib.Core.Path.{◌≡◌, refl, sym, ap, ◌∙◌}
use Prim.Native.Nat.{ℕ, zero, suc, ◌+◌, ◌*◌, ◌/◌, ◌%◌, ◌^◌, ◌<◌}
use native.Mathlib.Nat.{pow-suc, add-zero, zero-add}
use native.Mathlib.Omega.{arith}
use lib.Pow.{pow_pos, pow-add}
use Rattle.pvrtc_order.specs.Order.{word_place, column_of, row_of}
use Rattle.pvrtc_order.specs.Once.{Once, Place54}

double : (k : ℕ) → 2 ^ suc k ≡ 2 ^ k * 2
double k = pow-suc 2 k

four_times : (a b : ℕ) → 2 ^ (suc a + suc b) ≡ 2 ^ (a + b) * 4
four_times a b = let e : suc a + suc b ≡ a + b + 2 = omega arith in rw (e, pow-add 2 (a + b) 2)

pub half_lt : (k x : ℕ) → x < 2 ^ suc k → x / 2 < 2 ^ k
half_lt k x h = omega (arith, double k)

-- every place lies among the words of the image
pub place_lt : (a b X Y : ℕ) → X < 2 ^ a → Y < 2 ^ b → word_place a b X Y < 2 ^ (a + b)
unfolding word_place
place_lt zero b X Y h l = rw (zero-add b) l
place_lt (suc a) zero X Y h l = rw (add-zero (suc a)) h
place_lt (suc a) (suc b) X Y h l =
    let r : word_place a b (X / 2) (Y / 2) < 2 ^ (a + b) = place_lt a b (X / 2) (Y / 2) (half_lt a X h) (half_lt b Y l) in
    omega (arith, four_times a b)

pub column_lt : (a b n : ℕ) → n < 2 ^ (a + b) → column_of a b n < 2 ^ a
unfolding column_of
column_lt zero b n h = pow_pos 0
column_lt (suc a) zero n h = rw (add-zero (suc a)) at h
column_lt (suc a) (suc b) n h =
    let q : n / 4 < 2 ^ (a + b) = omega (arith, four_times a b) in
    let r : column_of a b (n / 4) < 2 ^ a = column_lt a b (n / 4) q in
    omega (arith, double a)

pub row_lt : (a b n : ℕ) → n < 2 ^ (a + b) → row_of a b n < 2 ^ b
unfolding row_of
row_lt zero b n h = rw (zero-add b) at h
row_lt (suc a) zero n h = pow_pos 0
row_lt (suc a) (suc b) n h =
    let q : n / 4 < 2 ^ (a + b) = omega (arith, four_times a b) in
    let r : row_of a b (n / 4) < 2 ^ b = row_lt a b (n / 4) q in
    omega (arith, double b)

-- the word at a place is found again,
pub column_place : (a b X Y : ℕ) → X < 2 ^ a → Y < 2 ^ b → column_of a b (word_place a b X Y) ≡ X
unfolding column_of word_place
column_place zero b X Y h l = omega arith
column_place (suc a) zero X Y h l = refl
column_place (suc a) (suc b) X Y h l =
    let p = word_place a b (X / 2) (Y / 2) in
    let e : (p * 4 + X % 2 * 2 + Y % 2) / 4 ≡ p = omega arith in
    let r : column_of a b p ≡ X / 2 = column_place a b (X / 2) (Y / 2) (half_lt a X h) (half_lt b Y l) in
    rw (e, r) (omega arith)

pub row_place : (a b X Y : ℕ) → X < 2 ^ a → Y < 2 ^ b → row_of a b (word_place a b X Y) ≡ Y
unfolding row_of word_place
row_place zero b X Y h l = refl
row_place (suc a) zero X Y h l = omega arith
row_place (suc a) (suc b) X Y h l =
    let p = word_place a b (X / 2) (Y / 2) in
    let e : (p * 4 + X % 2 * 2 + Y % 2) / 4 ≡ p = omega arith in
    let r : row_of a b p ≡ Y / 2 = row_place a b (X / 2) (Y / 2) (half_lt a X h) (half_lt b Y l) in
    rw (e, r) (omega arith)

-- and every place has a word
pub place_of : (a b n : ℕ) → n < 2 ^ (a + b) → word_place a b (column_of a b n) (row_of a b n) ≡ n
unfolding column_of row_of word_place
place_of zero b n h = refl
place_of (suc a) zero n h = refl
place_of (suc a) (suc b) n h =
    let q : n / 4 < 2 ^ (a + b) = omega (arith, four_times a b) in
    let X = column_of a b (n / 4) in
    let Y = row_of a b (n / 4) in
    let r : word_place a b X Y ≡ n / 4 = place_of a b (n / 4) q in
    let ex : (X * 2 + n / 2 % 2) / 2 ≡ X = omega arith in
    let ey : (Y * 2 + n % 2) / 2 ≡ Y = omega arith in
    rw (ex, ey, r) (omega arith)

-- so at all sides
pub once : (a b : ℕ) → Once a b
once a b = record {
  inside = λ X Y h l. rw (← pow-add 2 a b) (place_lt a b X Y h l);
  column = λ n h. column_lt a b n (rw (← pow-add 2 a b) at h);
  row = λ n h. row_lt a b n (rw (← pow-add 2 a b) at h);
  reached = λ n h. place_of a b n (rw (← pow-add 2 a b) at h);
  by_one = λ n X Y h l e. (sym (column_place a b X Y h l) ∙ ap (column_of a b) e, sym (row_place a b X Y h l) ∙ ap (row_of a b) e);
}

pub place_54 : Place54
unfolding word_place
place_54 = refl
