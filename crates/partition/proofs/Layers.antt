-- The pattern by a layer's seeds is the printed one at that z.
-- Assumes nothing.
use Rattle.std.proofs.Common.{◌≡◌, ℕ, ◌+◌, ◌-◌, ◌*◌, ◌/◌, ◌%◌, ◌^◌, Bool, true, false, ltb, arith}
use Rattle.laws.specs.Choice.{pick}
use Rattle.partition.specs.Hash.{hash_of}
use Rattle.partition.specs.Select.{doubled, seed_of, last_seed_of, sh1, sh2, sh3, lane_of, select_from, select_at, partition_of}
use Rattle.partition.specs.inner.Seeds.{lane_by, lane_for, lane_unless, seeds_from, seeds_of, select_by}
use Rattle.partition.specs.inner.Layers.{lane_at_layer, layer_from, layer_of}
use Rattle.partition.proofs.Agree.{twice, chosen}

-- only the low six bits of the offset count
low : (u k t : ℕ) → (u + (t % 64 + k) % 64) % 64 ≡ (u + k + t) % 64
low u k t = omega arith

lane_agrees : (small : Bool) (p q r t x y z : ℕ)
    → lane_by (lane_at_layer false (lane_for small p q t) r z) x y ≡ lane_of p q r t (doubled small x) (doubled small y) z
unfolding lane_by lane_at_layer lane_for lane_of doubled
lane_agrees true p q r t x y z = rw (twice p x, twice q y) (low (p * (x * 2) + q * (y * 2)) (r * z) t)
lane_agrees false p q r t x y z = low (p * x + q * y) (r * z) t

unless_agrees : (absent small : Bool) (p q r t x y z : ℕ)
    → lane_by (lane_at_layer absent (lane_unless absent small p q t) r z) x y ≡ pick absent 0 (lane_of p q r t (doubled small x) (doubled small y) z)
unfolding lane_by lane_unless lane_at_layer
unless_agrees true small p q r t x y z = omega arith
unless_agrees false small p q r t x y z = lane_agrees small p q r t x y z

from_agrees : (small : Bool) (rnum s₁ s₂ s₃ count x y z : ℕ)
    → select_by (layer_from (seeds_from small rnum s₁ s₂ count) rnum s₃ count z) x y
    ≡ pick (ltb count 2) 0 (select_from rnum s₁ s₂ s₃ count (doubled small x) (doubled small y) z)
unfolding select_by layer_from seeds_from select_from
from_agrees small rnum s₁ s₂ s₃ count x y z =
    rw (
      unless_agrees (ltb count 2) small (seed_of rnum 0 s₁) (seed_of rnum 4 s₂) (seed_of rnum 26 s₃) (rnum / 2 ^ 14) x y z,
      unless_agrees (ltb count 2) small (seed_of rnum 8 s₁) (seed_of rnum 12 s₂) (last_seed_of rnum s₃) (rnum / 2 ^ 10) x y z,
      unless_agrees (ltb count 3) small (seed_of rnum 16 s₁) (seed_of rnum 20 s₂) (seed_of rnum 18 s₃) (rnum / 2 ^ 6) x y z,
      unless_agrees (ltb count 4) small (seed_of rnum 24 s₁) (seed_of rnum 28 s₂) (seed_of rnum 22 s₃) (rnum / 2 ^ 2) x y z,
    )
    (chosen count _ _ _ _)

pub layer_agrees : (index count : ℕ) (small : Bool) (x y z : ℕ) → select_by (layer_of index count small z) x y ≡ partition_of index count small x y z
unfolding layer_of seeds_of partition_of select_at
layer_agrees index count small x y z =
    let seed = index + (count - 1) * 1024 in
    from_agrees small (hash_of seed) (sh1 seed count) (sh2 seed count) (sh3 seed count) count x y (doubled small z)
