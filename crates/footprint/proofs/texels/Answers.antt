use Prim.Native.Nat.{◌*◌, ◌≤◌}
use native.Mathlib.Nat.{mul-le-mul}
use native.Mathlib.Omega.{arith}
use Rattle.footprint.specs.Footprint.{texels_of}
use Rattle.footprint.proofs.Laws.{texels_le}
use borrow.Author.Rules.{rules}
use Rattle.footprint.proofs.texels.Goals as goal

pub overflow_mul-layer : goal.overflow_mul-layer
overflow_mul-layer c = let h : c.width.result * c.height.result ≤ 255 * 255 = mul-le-mul {n₂ = 255} {m₂ = 255} (omega arith) (omega arith) in omega arith

pub times-requires : goal.times-requires
unfolding texels_of
times-requires c = rw (c.width.ensures, c.height.ensures, c.depth.ensures) (omega (arith, texels_le c.args.fp))

pub returns : goal.returns
unfolding texels_of
returns c = rw (c.times.ensures, c.width.ensures, c.height.ensures, c.depth.ensures)
