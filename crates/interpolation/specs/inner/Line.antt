-- A pair's channel as a line in 16-bit numbers: its start and its step, so that a weight takes one product. That a texel on the lines of a
-- pair is the texel of the expanded pair is a theorem: proofs/Lines.antt.
-- Assumes nothing.
use Rattle.std.specs.Prelude.{ℕ, ◌+◌, ◌-◌, ◌*◌, ◌/◌, ◌%◌, List, [], ◌∷◌, ◌==◌, slice_index}
use Rattle.laws.specs.Choice.{pick}
use Rattle.endpoint_arithmetic.specs.declared.EndpointPair.{EndpointPair}
use Rattle.interpolation.specs.declared.Kind.{Kind}
use Rattle.interpolation.specs.declared.Kind.TheVariants.{Unorm16, Srgb8, Float16}
use Rattle.interpolation.specs.declared.Texel.{Texel}

-- product, sum and difference modulo 65536
unfoldable pub times : ℕ → ℕ → ℕ
times a b = a * b % 65536

unfoldable pub plus : ℕ → ℕ → ℕ
plus a b = (a + b) % 65536

unfoldable pub minus : ℕ → ℕ → ℕ
minus a b = (a + (65536 - b)) % 65536

-- the mixed number at weight i: t is the mix of the two bytes, in sixty-fourths; 4 t is 256 times it, and the rest what the expansion adds
unfoldable pub on_line : ℕ → ℕ → ℕ → ℕ → ℕ → ℕ
on_line start step k add i =
    let t = plus start (times step i) in
    plus (times t 4) (plus (times t k) add / 64)

-- k and add of a kind: a replicated byte adds itself once, and 32 rounds it; a centred one adds 0x80, in sixty-fourths 8192
abbrev pub low_of : Kind → ℕ
low_of Unorm16 = 1
low_of Srgb8 = 0
low_of Float16 = 1

abbrev pub add_of : Kind → ℕ
add_of Unorm16 = 32
add_of Srgb8 = 8192
add_of Float16 = 32

-- start and step of a channel
unfoldable pub line_start : EndpointPair → ℕ → ℕ
line_start p c = 64 * slice_index p.e0 c

unfoldable pub slope_of : EndpointPair → ℕ → ℕ
slope_of p c = minus (slice_index p.e1 c) (slice_index p.e0 c)

-- the numbers of a pair: the starts of R, G, B, A and their steps; the kind does not count, and the last two are used by kind 2 alone
unfoldable pub line_of : EndpointPair → List ℕ
line_of p = line_start p 0 ∷ line_start p 1 ∷ line_start p 2 ∷ line_start p 3 ∷ slope_of p 0 ∷ slope_of p 1 ∷ slope_of p 2 ∷ slope_of p 3 ∷ 0 ∷ 0 ∷ []

module _ (kind : Kind) (line : List ℕ) (first second component : ℕ) where
  -- a channel at its weight; the component that the component selector names takes the second
  unfoldable pub line_channel : ℕ → ℕ
  line_channel c =
      on_line (slice_index line c) (slice_index line (4 + c)) (low_of kind) (add_of kind) (pick (c == component) second first)

  -- R, G, B and A
  unfoldable pub line_texel : Texel
  line_texel = record { r = line_channel 0; g = line_channel 1; b = line_channel 2; a = line_channel 3 }
