use mathlib.Core.Path.{◌≡◌, refl, ◌∙◌}
use Prim.Native.Nat.{◌<◌}
use native.Mathlib.Omega.{arith}
use lib.ListN.{length, length-set}
use Rattle.laws.proofs.Filling.{filled_none, filled_more}
use Rattle.bits.specs.Block.{block_number}
use Rattle.bc7_layout.specs.Layout.{mode_at}
use Rattle.bc7_layout.proofs.Tables.{subsets_most}
use Rattle.bc7_layout.specs.Modes.{subsets}
use Rattle.bc7_ends.proofs.Places.{row_subsets}
use Rattle.bc7_ends.proofs.lines_of.Goals as goal

pub rotation-r-requires : goal.rotation-r-requires
rotation-r-requires c = c.requires

pub loop-j-init : goal.loop-j-init
loop-j-init c = (refl, filled_none _ _ _)

pub line_of-requires : goal.line_of-requires
line_of-requires c =
    let p = c.requires in
    (p, omega (arith, row_subsets _ _ p.row), c.rotation-r.ensures.0, c.rotation-r.ensures.1)

pub offset_bounds-q-j : goal.offset_bounds-q-j
offset_bounds-q-j c = let p = c.requires in omega (arith, row_subsets _ _ p.row, subsets_most _ p.known)

pub bounds-q-j : goal.bounds-q-j
bounds-q-j c = let p = c.requires in omega (arith, row_subsets _ _ p.row, subsets_most _ p.known)

pub loop-j-preserved : goal.loop-j-preserved
loop-j-preserved c =
    let p = c.requires in
    let i = c.loop-j.invariant in
    let l : c.loop-j.j < length c.loop-j.q = omega (arith, i.0, row_subsets _ _ p.row, subsets_most _ p.known) in (
      length-set c.loop-j.q c.loop-j.j c.line_of.result ∙ i.0,
      filled_more _ _ _ _ _ l i.1 c.line_of.ensures,
    )

pub returns : goal.returns
returns c =
    let p = c.requires in
    let e : c.loop-j.j ≡ subsets (mode_at (block_number c.args.b)) = omega (arith, row_subsets _ _ p.row) in
    rw e at c.loop-j.invariant.1
