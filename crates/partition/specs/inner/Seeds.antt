-- The partition of a place where z is 0, by seeds that are made once for a block. That both agree is a theorem: proofs/Agree.antt.
-- Assumes nothing.
use Rattle.std.specs.Prelude.{◌≡◌, ℕ, ◌+◌, ◌-◌, ◌*◌, ◌/◌, ◌%◌, ◌^◌, Bool, nat_lt}
use Rattle.laws.specs.Choice.{pick}
use Rattle.partition.specs.declared.Lane.{Lane}
use Rattle.partition.specs.declared.Seeds.{Seeds}
use Rattle.partition.specs.Hash.{hash_of}
use Rattle.partition.specs.Select.{doubled, seed_of, sh1, sh2, first_largest, partition_of}

-- a lane's sum at the place x, y
unfoldable pub lane_by : Lane → ℕ → ℕ → ℕ
lane_by l x y = (l.x * x + l.y * y + l.offset) % 64

unfoldable pub select_by : Seeds → ℕ → ℕ → ℕ
select_by s x y = first_largest (lane_by s.a x y) (lane_by s.b x y) (lane_by s.c x y) (lane_by s.d x y)

-- in a small block the seeds are doubled in place of x and y
unfoldable pub lane_for : Bool → ℕ → ℕ → ℕ → Lane
lane_for small p q t = record { x = doubled small p; y = doubled small q; offset = t % 64 }

-- an absent partition's sum is 0 everywhere
unfoldable pub lane_unless : Bool → Bool → ℕ → ℕ → ℕ → Lane
lane_unless absent small p q t = pick absent (record { x = 0; y = 0; offset = 0 }) (lane_for small p q t)

unfoldable pub seeds_from : Bool → ℕ → ℕ → ℕ → ℕ → Seeds
seeds_from small rnum s1 s2 count =
    record {
      a = lane_unless (nat_lt count 2) small (seed_of rnum 0 s1) (seed_of rnum 4 s2) (rnum / 2 ^ 14);
      b = lane_unless (nat_lt count 2) small (seed_of rnum 8 s1) (seed_of rnum 12 s2) (rnum / 2 ^ 10);
      c = lane_unless (nat_lt count 3) small (seed_of rnum 16 s1) (seed_of rnum 20 s2) (rnum / 2 ^ 6);
      d = lane_unless (nat_lt count 4) small (seed_of rnum 24 s1) (seed_of rnum 28 s2) (rnum / 2 ^ 2);
    }

unfoldable pub seeds_of : ℕ → ℕ → Bool → Seeds
seeds_of index count small =
    let seed = index + (count - 1) * 1024 in
    seeds_from small (hash_of seed) (sh1 seed count) (sh2 seed count) count

-- seeds that give 000's partitions of a block
pub record Pattern (index count : ℕ) (small : Bool) (s : Seeds) : Type 0 where
  pub everywhere : (x y : ℕ) → select_by s x y ≡ partition_of index count small x y 0
