-- Bounds of what is expanded, mixed and shown.
-- Assumes nothing.
use Rattle.std.proofs.Common.{◌≡◌, ℕ, ◌-◌, ◌<◌, ◌≤◌, Bool, true, false, eqb, List, get_or, mul-le-mul_right, arith, ne_eqb}
use Rattle.laws.specs.Choice.{pick}
use Rattle.encoding.specs.declared.Level.{Level}
use Rattle.endpoint_arithmetic.specs.declared.EndpointPair.{EndpointPair}
use Rattle.interpolation.specs.declared.ExpandedPair.{ExpandedPair}
use Rattle.interpolation.specs.declared.Kind.{Kind}
use Rattle.interpolation.specs.declared.Kind.TheVariants.{Unorm16, Srgb8, Float16}
use Rattle.interpolation.specs.Expansion.{replicated, centred, expand_of, expanded_pair, shown_of}
use Rattle.interpolation.specs.Texel.{mix_of, weight_of, channel_of}

-- an expanded channel fits 16 bits
pub expand_le : (kind : Kind) (c : ℕ) → c ≤ 255 → expand_of kind c ≤ 65535
unfolding replicated centred
expand_le Unorm16 c h = omega arith
expand_le Srgb8 c h = omega arith
expand_le Float16 c h = omega arith

-- by a weight of 0..64 two 16-bit numbers mix to a 16-bit number
pub mix_le : (c0 c1 i : ℕ) → c0 ≤ 65535 → c1 ≤ 65535 → i ≤ 64 → mix_of c0 c1 i ≤ 65535
unfolding mix_of
mix_le c0 c1 i h0 h1 hi = omega (arith, mul-le-mul_right (64 - i) h0, mul-le-mul_right i h1)

pub weight_le : (component : ℕ) (first second : Level) (k : ℕ) → first.0 ≤ 64 → second.0 ≤ 64 → (weight_of component first second k).0 ≤ 64
unfolding weight_of
weight_le component first second k h h' = go (eqb k component) where
  go : (t : Bool) → (pick t second first).0 ≤ 64
  go true = h'
  go false = h

-- so that the 16 bits of a channel are the whole number
pub channel_whole : (p : ExpandedPair) (first second : Level) (component k : ℕ) →
    get_or p.c0 k 0 ≤ 65535 → get_or p.c1 k 0 ≤ 65535 → first.0 ≤ 64 → second.0 ≤ 64 →
    channel_of p first second component k ≡ mix_of (get_or p.c0 k 0) (get_or p.c1 k 0) (weight_of component first second k).0
unfolding channel_of
channel_whole p first second component k h0 h1 hf hs =
    omega (arith, mix_le (get_or p.c0 k 0) (get_or p.c1 k 0) (weight_of component first second k).0 h0 h1 (weight_le component first second k hf hs))

-- a component of 4 or more names no channel
pub weight_none : (component : ℕ) (first second : Level) (channel : ℕ) → 4 ≤ component → channel < 4 → weight_of component first second channel ≡ first
unfolding weight_of
weight_none component first second channel h k = rw (ne_eqb channel component (λ e. omega (arith, e)))

-- kind 1 shows bytes
pub shown_byte : (n : ℕ) → n ≤ 65535 → shown_of Srgb8 n ≤ 255
shown_byte n h = omega arith
