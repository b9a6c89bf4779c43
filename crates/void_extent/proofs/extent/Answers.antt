-- `void_extent::extent` meets its contract. Assumes nothing.
use mathlib.Core.Path.{◌≡◌}
use Prim.Native.Nat.{min}
use native.Mathlib.Omega.{arith}
use Rattle.void_extent.specs.Layout.{extent_at}
use borrow.Author.Rules.{rules}
use Rattle.void_extent.proofs.extent.Goals as goal

pub returns : goal.returns
unfolding extent_at
returns c =
    let w = c.extent_width.result in
    let m : min w 64 ≡ w = omega (arith, c.extent_width.ensures.1) in
    rw (c.field_at.ensures, m, c.extent_width.ensures.0, c.extent_place.ensures)
