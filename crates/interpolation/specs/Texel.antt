-- 000, "Weight Application" and "Dual-Plane Decoding": a texel from an expanded pair and its weights.
-- Assumes nothing.
use Rattle.std.specs.Prelude.{ℕ, ◌+◌, ◌-◌, ◌*◌, ◌/◌, ◌%◌, ◌==◌, slice_index}
use Rattle.laws.specs.Choice.{pick}
use Rattle.encoding.specs.declared.Level.{Level}
use Rattle.interpolation.specs.declared.ExpandedPair.{ExpandedPair}
use Rattle.interpolation.specs.declared.Texel.{Texel}

-- C = floor( (C0*(64-i) + C1*i + 32)/64 ), 01: "over the widened pair"; for a weight above 64, which no table gives, 64-i counts 0
unfoldable pub mix_of : ℕ → ℕ → ℕ → ℕ
mix_of c0 c1 i = (c0 * (64 - i) + c1 * i + 32) / 64

-- the weight of a channel: the component that the component selector names (01: plane channel) takes the second; 4 or more names none
unfoldable pub weight_of : ℕ → Level → Level → ℕ → Level
weight_of component first second channel = pick (channel == component) second first

module _ (p : ExpandedPair) (first second : Level) (component : ℕ) where
  -- a channel, mixed by its weight, in 16 bits: weights of 0..64 give no more (`mix_le`)
  unfoldable pub channel_of : ℕ → ℕ
  channel_of k = mix_of (slice_index p.c0 k) (slice_index p.c1 k) (weight_of component first second k).0 % 65536

  -- R, G, B and A
  unfoldable pub texel_of : Texel
  texel_of = record { r = channel_of 0; g = channel_of 1; b = channel_of 2; a = channel_of 3 }
