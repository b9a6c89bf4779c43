-- What mixing on a line comes to.
-- Assumes nothing.
use Rattle.std.specs.Prelude.{◌≡◌, ℕ, ◌≤◌, slice_index}
use Rattle.endpoint_arithmetic.specs.declared.EndpointPair.{EndpointPair}
use Rattle.interpolation.specs.declared.Texel.{Texel}
use Rattle.interpolation.specs.declared.Kind.{Kind}
use Rattle.interpolation.specs.Expansion.{expanded_pair}
use Rattle.interpolation.specs.Texel.{texel_of}

-- the texel of a pair of bytes and weights of 0..64, in a kind
pub record Mixes (kind : Kind) (p : EndpointPair) (first second component : ℕ) (r : Texel) : Type 0 where
  pub mixed : ((c : ℕ) → slice_index p.e0 c ≤ 255) → ((c : ℕ) → slice_index p.e1 c ≤ 255) → first ≤ 64 → second ≤ 64
      → r ≡ texel_of (expanded_pair kind p) (record { 0 = first }) (record { 0 = second }) component
