-- The two sets of indices while a block's texels are painted.
-- Assumes nothing.
use Rattle.std.specs.Prelude.{◌≡◌, ℕ, ◌+◌, ◌-◌, ◌/◌, ◌^◌, ◌≤◌, ◌<◌, List, get_or, eqb, ltb}
use Rattle.laws.specs.Choice.{pick, both, either}
use Rattle.bits.specs.Field.{field}
use Rattle.bc7_layout.specs.Modes.{index_bits, secondary_bits, selection_bits}
use Rattle.bc7_layout.specs.Layout.{place_of, mode_at, partition_field_at, field_at}
use Rattle.bc7_block.specs.Picture.{factor_of, texel_of}
use Rattle.bc7_ends.specs.inner.Lanes.{lane_byte}
use Rattle.bc7_core.specs.declared.IndexSet.{IndexSet}

-- the bits of an index that is no anchor, in the set whose first index is field k
unfoldable pub set_bits : ℕ → ℕ → ℕ
unfolding index_bits secondary_bits
set_bits m k = pick (eqb k 28) (index_bits m) (secondary_bits m)

-- the sets of the colours and of alpha
unfoldable pub colour_set : ℕ → (ℕ → ℕ) → ℕ
unfolding selection_bits
colour_set m v = pick (both (eqb (selection_bits m) 1) (eqb (v 3) 1)) 44 28

unfoldable pub alpha_set : ℕ → (ℕ → ℕ) → ℕ
unfolding selection_bits secondary_bits
alpha_set m v = pick (both (ltb 0 (secondary_bits m)) (either (eqb (selection_bits m) 0) (eqb (v 3) 0))) 44 28

-- what is left of the 64 bits from the set's first index on, before index i
unfoldable pub rest_of : ℕ → ℕ → ℕ → ℕ
unfolding place_of mode_at partition_field_at
rest_of B k i =
    field B (place_of (mode_at B) (partition_field_at B) (k + i)) (64 - (place_of (mode_at B) (partition_field_at B) (k + i) - place_of (mode_at B) (partition_field_at B) k))

-- a set of the block, with the indices from i on
unfoldable pub set_of : ℕ → ℕ → ℕ → IndexSet
unfolding set_bits rest_of
set_of B k i = record { first = k; bits = set_bits (mode_at B) k; rest = rest_of B k i }

-- a set that the mode has
pub data SetIn : ℕ → ℕ → Type 0 where
  primary : {m : ℕ} → SetIn m 28
  secondary : {m : ℕ} → 0 < secondary_bits m → SetIn m 44

-- a set without its next index, which lacks so many bits
unfoldable pub behind_of : IndexSet → ℕ → IndexSet
behind_of s short = record { first = s.first; bits = s.bits; rest = s.rest / 2 ^ (s.bits - short) }

-- the factor of index i of a set of the block
unfoldable pub set_factor : ℕ → ℕ → ℕ → ℕ
unfolding set_bits
set_factor B k i = factor_of (set_bits (mode_at B) k) (field_at B (k + i))

-- the first n numbers of a list are these factors, none above 64
pub record Factors (g : ℕ → ℕ) (l : List ℕ) (n : ℕ) : Type 0 where
  pub each : (i : ℕ) → i < n → get_or l i 0 ≡ g i
  pub small : (i : ℕ) → i < n → get_or l i 0 ≤ 64

-- the bytes of a sum are the channels of texel i
abbrev pub SumShows : ℕ → ℕ → (ℕ → ℕ) → ℕ → Type 0
SumShows s m v i = (c : ℕ) → c < 4 → lane_byte s c ≡ texel_of m v i c
