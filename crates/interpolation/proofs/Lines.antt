-- A texel on the lines of a pair is the texel of the expanded pair.
-- Assumes nothing.
use Rattle.std.proofs.Common.{◌≡◌, ℕ, ◌+◌, ◌-◌, ◌*◌, ◌/◌, ◌%◌, ◌≤◌, Bool, true, false, eqb, get_or, refl, mul-le-mul_right, mul_assoc, add-mul, mul-zero, mul-add, arith}
use native.Mathlib.Decide.{dec_lt}
use Rattle.laws.specs.Choice.{pick}
use Rattle.encoding.specs.declared.Level.{Level}
use Rattle.endpoint_arithmetic.specs.declared.EndpointPair.{EndpointPair}
use Rattle.interpolation.specs.declared.Kind.{Kind}
use Rattle.interpolation.specs.declared.Kind.TheVariants.{Unorm16, Srgb8, Float16}
use Rattle.interpolation.specs.Expansion.{replicated, centred, expand_of, expanded_end, expanded_pair}
use Rattle.interpolation.specs.Texel.{mix_of, weight_of, channel_of, texel_of}
use Rattle.interpolation.specs.inner.Line.{times, plus, minus, on_line, low_of, add_of, line_start, slope_of, line_of, line_channel, line_texel}

-- a mix t of two bytes, in sixty-fourths, expanded: replicated and centred
module _ (t : ℕ) (h : t ≤ 16320) where
  replicated_below : plus (times t 4) (plus (times t 1) 32 / 64) ≡ (257 * t + 32) / 64 % 65536
  unfolding plus times
  replicated_below =
      let a : t * 4 % 65536 ≡ 4 * t = omega arith in
      let b : (t * 1 % 65536 + 32) % 65536 ≡ t + 32 = omega arith in
      let w : (257 * t + 32) / 64 ≡ 4 * t + (t + 32) / 64 = omega arith in
      rw (a, b, w)

  centred_below : plus (times t 4) (plus (times t 0) 8192 / 64) ≡ (256 * t + 8224) / 64 % 65536
  unfolding plus times
  centred_below =
      let a : t * 4 % 65536 ≡ 4 * t = omega arith in
      let w : (256 * t + 8224) / 64 ≡ 4 * t + 128 = omega arith in
      rw (a, mul-zero t, w)

module _ (e0 e1 i : ℕ) (h0 : e0 ≤ 255) (h1 : e1 ≤ 255) (hi : i ≤ 64) where
  -- the mix of the bytes, in sixty-fourths
  abbrev mixed : ℕ
  mixed = e0 * (64 - i) + e1 * i

  mixed_le : mixed ≤ 16320
  mixed_le = omega (arith, mul-le-mul_right (64 - i) h0, mul-le-mul_right i h1)

  -- a start and so many steps: what is added and taken away in whole 65536s does not count
  from : (d m : ℕ) → d * i + e0 * i ≡ e1 * i + 65536 * m → (64 * e0 + d * i % 65536) % 65536 ≡ mixed
  from d m e =
      let s : 64 - i + i ≡ 64 = omega arith in
      let w : e0 * (64 - i) + e0 * i ≡ e0 * 64 = rw (← mul-add e0 (64 - i) i, s) in
      omega (arith, mixed_le)

  line_mixed : plus (64 * e0) (times (minus e1 e0) i) ≡ mixed
  unfolding plus times minus
  line_mixed =
      let d = (e1 + (65536 - e0)) % 65536 in
      elim (dec_lt e1 e0) [
        | yes p ↦ let s : d + e0 ≡ e1 + 65536 = omega arith in from d i (rw (← add-mul d e0 i, s, add-mul e1 65536 i))
        | no p ↦ let s : d + e0 ≡ e1 = omega arith in from d 0 (rw (← add-mul d e0 i, s) (omega arith))
      ]

  -- a replicated channel and a centred one
  on_replicated : on_line (64 * e0) (minus e1 e0) 1 32 i ≡ mix_of (replicated e0) (replicated e1) i % 65536
  unfolding on_line mix_of replicated
  on_replicated =
      let e : 257 * e0 * (64 - i) + 257 * e1 * i + 32 ≡ 257 * mixed + 32 = omega (arith, mul_assoc 257 e0 (64 - i), mul_assoc 257 e1 i) in
      rw (line_mixed, e) (replicated_below mixed mixed_le)

  on_centred : on_line (64 * e0) (minus e1 e0) 0 8192 i ≡ mix_of (centred e0) (centred e1) i % 65536
  unfolding on_line mix_of centred
  on_centred =
      let e : (256 * e0 + 128) * (64 - i) + (256 * e1 + 128) * i + 32 ≡ 256 * mixed + 8224 =
      rw (add-mul (256 * e0) 128 (64 - i), add-mul (256 * e1) 128 i, mul_assoc 256 e0 (64 - i), mul_assoc 256 e1 i) (omega arith) in
      rw (line_mixed, e) (centred_below mixed mixed_le)

  on_kind : (kind : Kind) → on_line (64 * e0) (minus e1 e0) (low_of kind) (add_of kind) i ≡ mix_of (expand_of kind e0) (expand_of kind e1) i % 65536
  on_kind Unorm16 = on_replicated
  on_kind Srgb8 = on_centred
  on_kind Float16 = on_replicated

module _ (kind : Kind) (p : EndpointPair) (first second component : ℕ) (h0 : (c : ℕ) → get_or p.e0 c 0 ≤ 255) (h1 : (c : ℕ) → get_or p.e1 c 0 ≤ 255)
    (hf : first ≤ 64) (hs : second ≤ 64) where
  -- the weights as levels
  abbrev one : Level
  one = record { 0 = first }

  abbrev two : Level
  two = record { 0 = second }

  -- the weight of a channel
  abbrev at : ℕ → ℕ
  at c = pick (eqb c component) second first

  at_le : (c : ℕ) → at c ≤ 64
  at_le c = go (eqb c component) where
    go : (t : Bool) → pick t second first ≤ 64
    go true = hs
    go false = hf

  at_is : (c : ℕ) → (weight_of component one two c).0 ≡ at c
  unfolding weight_of
  at_is c = go (eqb c component) where
    go : (t : Bool) → (pick t two one).0 ≡ pick t second first
    go true = refl
    go false = refl

  each : (c : ℕ) → on_line (line_start p c) (slope_of p c) (low_of kind) (add_of kind) (at c)
      ≡ mix_of (expand_of kind (get_or p.e0 c 0)) (expand_of kind (get_or p.e1 c 0)) (weight_of component one two c).0 % 65536
  unfolding line_start slope_of
  each c = rw (at_is c) (on_kind (get_or p.e0 c 0) (get_or p.e1 c 0) (at c) (h0 c) (h1 c) (at_le c) kind)

  pub line_texel_lem : line_texel kind (line_of p) first second component ≡ texel_of (expanded_pair kind p) (record { 0 = first }) (record { 0 = second }) component
  unfolding line_texel line_channel line_of texel_of channel_of expanded_pair expanded_end
  line_texel_lem = rw (each 0, each 1, each 2, each 3)
