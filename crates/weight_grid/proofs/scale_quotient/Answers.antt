-- `weight_grid::scale_quotient` meets its contract. Assumes nothing.
use mathlib.Core.Path.{◌≡◌, refl}
use Prim.Native.Nat.{◌+◌, ◌-◌, ◌/◌}
use native.Mathlib.Nat.{div-zero}
use native.Mathlib.Omega.{arith}
use Rattle.weight_grid.specs.Place.{scale_of}
use Rattle.weight_grid.proofs.scale_quotient.Goals as goal

pub returns-then-side-lt2 : goal.returns-then-side-lt2
unfolding scale_of
returns-then-side-lt2 c = let e : c.args.side - 1 ≡ 0 = omega arith in rw (e, div-zero (1024 + c.args.side / 2))

pub returns-else-side-lt2 : goal.returns-else-side-lt2
unfolding scale_of
returns-else-side-lt2 c = refl
