-- The k low bits of a number in reverse.
-- Assumes nothing.
use mathlib.Core.Path.{◌≡◌, refl, sym, ap, ◌∙◌}
use mathlib.Core.Bool.{Bool}
use Prim.Native.Nat.{ℕ, suc, ◌+◌, ◌-◌, ◌*◌, ◌/◌, ◌%◌, ◌^◌, ◌≤◌, ◌<◌}
use native.Mathlib.Nat.{mod-eq_of_lt, mod-lt, lt_of_not-le, zero-add}
use native.Mathlib.Decide.{dec_le}
use lib.Arith.{digits_lt}
use lib.Dec.{T, eqb, eqb→eq}
use lib.Pow.{high, split, shr-shr, pow-add, pow_pos}
use native.Mathlib.Omega.{arith}
use Rattle.laws.specs.Choice.{all}
use Rattle.laws.proofs.Computed.{each}
use Rattle.bits.specs.Field.{field, stream, reverse}
use Rattle.bits.proofs.Fields.{field_lt, stream_ext, stream_lt, stream_at, restream, field_in, field_above, field_below}

one_on : (i : ℕ) → suc i ≡ 1 + i
one_on i = omega arith

pub reverse_lt : (k s : ℕ) → reverse k s < 2 ^ k
unfolding reverse
reverse_lt k s = stream_lt (λ i. i) (λ i. 1) one_on (λ i. field s (k - suc i) 1) (λ i. field_lt s (k - suc i) 1) k

-- bit i of the one is bit k - 1 - i of the other
pub reverse_bit : (k s i : ℕ) → i < k → field (reverse k s) i 1 ≡ field s (k - suc i) 1
unfolding reverse
reverse_bit k s i h = stream_at (λ i. i) (λ i. 1) one_on (λ i. field s (k - suc i) 1) (λ i. field_lt s (k - suc i) 1) k i h

pub reverse_reverse : (k s : ℕ) → s < 2 ^ k → reverse k (reverse k s) ≡ s
unfolding reverse
reverse_reverse k s h =
    stream_ext (λ i. i) _ (λ i. field s i 1) k
    (λ i l. reverse_bit k s (k - suc i) (omega arith) ∙ ap (λ (j : ℕ). field s j 1) (omega arith))
    ∙ restream (λ i. i) (λ i. 1) one_on refl s k ∙ mod-eq_of_lt h

-- two numbers of k bits are equal by their bits
pub bits_ext : (k x y : ℕ) → x < 2 ^ k → y < 2 ^ k → ((i : ℕ) → i < k → field x i 1 ≡ field y i 1) → x ≡ y
bits_ext k x y hx hy h =
    sym (mod-eq_of_lt hx) ∙ sym (restream (λ i. i) (λ i. 1) one_on refl x k) ∙ stream_ext (λ i. i) (λ i. field x i 1) (λ i. field y i 1) k h
    ∙ restream (λ i. i) (λ i. 1) one_on refl y k ∙ mod-eq_of_lt hy

high_bit : (k w hi lo : ℕ) → w ≤ k → lo < 2 ^ (k - w) → (i : ℕ) → i < w → field (hi * 2 ^ (k - w) + lo) (k - suc i) 1 ≡ field hi (w - suc i) 1
unfolding field
high_bit k w hi lo h l i m =
    let e : k - suc i ≡ (k - w) + (w - suc i) = omega arith in
    rw (e, ← shr-shr, high hi (k - w) l)

-- the weights: w bits at the top of k, read from the top down
pub reverse_high : (k w hi lo : ℕ) → w ≤ k → hi < 2 ^ w → lo < 2 ^ (k - w) → field (reverse k (hi * 2 ^ (k - w) + lo)) 0 w ≡ reverse w hi
reverse_high k w hi lo h hw l =
    bits_ext w _ (reverse w hi) (field_lt _ 0 w) (reverse_lt w hi)
    (λ i m. field_in (reverse k (hi * 2 ^ (k - w) + lo)) 0 w i 1 (omega arith) ∙ rw zero-add (reverse_bit k (hi * 2 ^ (k - w) + lo) i (omega arith))
    ∙ high_bit k w hi lo h l i m ∙ sym (reverse_bit w hi i m))

-- the reverse of two parts is their reverses, exchanged
pub reverse_join : (k j hi lo : ℕ) → lo < 2 ^ k → reverse (k + j) (hi * 2 ^ k + lo) ≡ reverse k lo * 2 ^ j + reverse j hi
reverse_join k j hi lo h =
    bits_ext (k + j) _ _ (reverse_lt (k + j) _) (rw (pow-add 2 k j) (digits_lt (reverse_lt k lo) (reverse_lt j hi)))
    (λ i l. reverse_bit (k + j) (hi * 2 ^ k + lo) i l ∙ elim (dec_le j i) [ yes m ↦ upper i l m | no m ↦ lower i (lt_of_not-le m) ])
  where
    lower : (i : ℕ) → i < j → field (hi * 2 ^ k + lo) (k + j - suc i) 1 ≡ field (reverse k lo * 2 ^ j + reverse j hi) i 1
    lower i m =
        let e : k + j - suc i ≡ k + (j - suc i) = omega arith in
        rw e (field_above hi lo k (j - suc i) 1 h ∙ sym (reverse_bit j hi i m) ∙ sym (field_below (reverse k lo) (reverse j hi) j i 1 (omega arith)))

    upper : (i : ℕ) → i < k + j → j ≤ i → field (hi * 2 ^ k + lo) (k + j - suc i) 1 ≡ field (reverse k lo * 2 ^ j + reverse j hi) i 1
    upper i l m =
        let e : k + j - suc i ≡ k - suc (i - j) = omega arith in
        let d : i ≡ j + (i - j) = omega arith in
        rw e (field_below hi lo k (k - suc (i - j)) 1 (omega arith) ∙ sym (reverse_bit k lo (i - j) (omega arith))
        ∙ sym (field_above (reverse k lo) (reverse j hi) j (i - j) 1 (reverse_lt j hi)) ∙ ap (λ (n : ℕ). field (reverse k lo * 2 ^ j + reverse j hi) n 1) (sym d))

-- the reverse of 2 k bits is the reverses of their halves, exchanged
pub reverse_halves : (k x : ℕ) {lo hi : ℕ} → lo ≡ reverse k (x % 2 ^ k) → hi ≡ reverse k (x / 2 ^ k) → lo * 2 ^ k + hi ≡ reverse (k + k) x
reverse_halves k x e f = rw (e, f) (sym (reverse_join k k (x / 2 ^ k) (x % 2 ^ k) (mod-lt x (pow_pos k))) ∙ ap (reverse (k + k)) (split x k))

swapped : ℕ → Bool
unfolding reverse stream field
swapped x = eqb (x % 2 * 2 + x / 2) (reverse 2 x)

swapped_test : T (all swapped 4)
unfolding swapped
swapped_test = tt

pub reverse_two : (x : ℕ) → x < 4 → x % 2 * 2 + x / 2 ≡ reverse 2 x
unfolding swapped
reverse_two x h = eqb→eq _ _ (each swapped 4 swapped_test x h)
