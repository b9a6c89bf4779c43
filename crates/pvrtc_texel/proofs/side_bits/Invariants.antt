use mathlib.Core.Path.{◌≡◌}
use Prim.Native.Nat.{◌-◌}
use Rattle.pvrtc_texel.specs.Image.{bits_from, side_bits}
use Rattle.pvrtc_texel.proofs.side_bits.Given as goal

-- the search from k on finds what the search from 0 on does
abbrev pub invariant-loop-k : goal.invariant-loop-k
invariant-loop-k l = bits_from l.side l.k (11 - l.k) ≡ side_bits l.side
