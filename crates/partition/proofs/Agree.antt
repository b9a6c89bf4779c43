-- The pattern by a block's seeds is the printed one at z = 0.
-- Assumes nothing.
use Rattle.std.proofs.Common.{◌≡◌, ℕ, ◌+◌, ◌-◌, ◌*◌, ◌/◌, ◌%◌, ◌^◌, ◌<◌, Bool, true, false, ltb, refl, ap, ◌∙◌, mul_assoc, mul_comm, mul-zero, arith, ltb-true, lt-ltb}
use Rattle.laws.specs.Choice.{pick}
use Rattle.partition.specs.Hash.{hash_of}
use Rattle.partition.specs.Select.{doubled, seed_of, last_seed_of, sh1, sh2, sh3, lane_of, first_largest, select_from, select_at, partition_of}
use Rattle.partition.specs.inner.Seeds.{lane_by, lane_for, lane_unless, seeds_from, seeds_of, select_by}

-- only the low six bits of the offset count
low : (u t : ℕ) → (u + t % 64) % 64 ≡ (u + 0 + t) % 64
low u t = omega arith

-- a doubled seed counts a place as the seed counts it doubled
pub twice : (p x : ℕ) → p * 2 * x ≡ p * (x * 2)
twice p x = mul_assoc p 2 x ∙ ap (λ (n : ℕ). p * n) (mul_comm 2 x)

lane_agrees : (small : Bool) (p q r t x y : ℕ) → lane_by (lane_for small p q t) x y ≡ lane_of p q r t (doubled small x) (doubled small y) (doubled small 0)
unfolding lane_by lane_for lane_of doubled
lane_agrees true p q r t x y = rw (twice p x, twice q y, mul-zero r) (low (p * (x * 2) + q * (y * 2)) t)
lane_agrees false p q r t x y = rw (mul-zero r) (low (p * x + q * y) t)

unless_agrees : (absent small : Bool) (p q r t x y : ℕ)
    → lane_by (lane_unless absent small p q t) x y ≡ pick absent 0 (lane_of p q r t (doubled small x) (doubled small y) (doubled small 0))
unfolding lane_by lane_unless
unless_agrees true small p q r t x y = omega arith
unless_agrees false small p q r t x y = lane_agrees small p q r t x y

-- below two partitions every sum is 0
pub chosen : (n a b c d : ℕ)
    → first_largest (pick (ltb n 2) 0 a) (pick (ltb n 2) 0 b) (pick (ltb n 3) 0 c) (pick (ltb n 4) 0 d)
    ≡ pick (ltb n 2) 0 (first_largest a b (pick (ltb n 3) 0 c) (pick (ltb n 4) 0 d))
unfolding first_largest
chosen n a b c d = go (ltb n 2) refl where
  go : (t : Bool) → ltb n 2 ≡ t → first_largest (pick t 0 a) (pick t 0 b) (pick (ltb n 3) 0 c) (pick (ltb n 4) 0 d)
      ≡ pick t 0 (first_largest a b (pick (ltb n 3) 0 c) (pick (ltb n 4) 0 d))
  go true e =
      let h : n < 2 = ltb-true n 2 e in
      rw (lt-ltb n 3 (omega arith), lt-ltb n 4 (omega arith))
  go false e = refl

from_agrees : (small : Bool) (rnum s₁ s₂ s₃ count x y : ℕ)
    → select_by (seeds_from small rnum s₁ s₂ count) x y ≡ pick (ltb count 2) 0 (select_from rnum s₁ s₂ s₃ count (doubled small x) (doubled small y) (doubled small 0))
unfolding select_by seeds_from select_from
from_agrees small rnum s₁ s₂ s₃ count x y =
    rw (
      unless_agrees (ltb count 2) small (seed_of rnum 0 s₁) (seed_of rnum 4 s₂) (seed_of rnum 26 s₃) (rnum / 2 ^ 14) x y,
      unless_agrees (ltb count 2) small (seed_of rnum 8 s₁) (seed_of rnum 12 s₂) (last_seed_of rnum s₃) (rnum / 2 ^ 10) x y,
      unless_agrees (ltb count 3) small (seed_of rnum 16 s₁) (seed_of rnum 20 s₂) (seed_of rnum 18 s₃) (rnum / 2 ^ 6) x y,
      unless_agrees (ltb count 4) small (seed_of rnum 24 s₁) (seed_of rnum 28 s₂) (seed_of rnum 22 s₃) (rnum / 2 ^ 2) x y,
    )
    (chosen count _ _ _ _)

pub agrees : (index count : ℕ) (small : Bool) (x y : ℕ) → select_by (seeds_of index count small) x y ≡ partition_of index count small x y 0
unfolding seeds_of partition_of select_at
agrees index count small x y =
    let seed = index + (count - 1) * 1024 in
    from_agrees small (hash_of seed) (sh1 seed count) (sh2 seed count) (sh3 seed count) count x y
