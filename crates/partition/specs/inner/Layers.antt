-- The pattern of a volume (02, h), layer by layer: z counts in the offsets, so that each layer has seeds of its own and is asked like a flat block.
-- That it is the printed one is a theorem: proofs/Layers.antt.
-- Assumes nothing.
use Rattle.std.specs.Prelude.{ℕ, ◌+◌, ◌-◌, ◌*◌, ◌%◌, Bool, nat_lt}
use Rattle.laws.specs.Choice.{pick}
use Rattle.partition.specs.declared.Lane.{Lane}
use Rattle.partition.specs.declared.Seeds.{Seeds}
use Rattle.partition.specs.Hash.{hash_of}
use Rattle.partition.specs.Select.{doubled, seed_of, last_seed_of, sh3}
use Rattle.partition.specs.inner.Seeds.{seeds_of}

-- a lane at the layer z, which counts r times; an absent partition's stays 0
unfoldable pub lane_at_layer : Bool → Lane → ℕ → ℕ → Lane
lane_at_layer absent l r z = pick absent l (record { x = l.x; y = l.y; offset = (l.offset + r * z) % 64 })

unfoldable pub layer_from : Seeds → ℕ → ℕ → ℕ → ℕ → Seeds
layer_from s rnum s3 count z =
    record {
      a = lane_at_layer (nat_lt count 2) s.a (seed_of rnum 26 s3) z;
      b = lane_at_layer (nat_lt count 2) s.b (last_seed_of rnum s3) z;
      c = lane_at_layer (nat_lt count 3) s.c (seed_of rnum 18 s3) z;
      d = lane_at_layer (nat_lt count 4) s.d (seed_of rnum 22 s3) z;
    }

unfoldable pub layer_of : ℕ → ℕ → Bool → ℕ → Seeds
layer_of index count small z =
    let seed = index + (count - 1) * 1024 in
    layer_from (seeds_of index count small) (hash_of seed) (sh3 seed count) count (doubled small z)
