use Prim.Native.Nat.{◌+◌, ◌*◌, ◌<◌}
use native.Mathlib.Omega.{arith}
use lib.ListN.{length}
use Rattle.caption_image.specs.Image.{wanted_at}
use Rattle.caption_image.proofs.Laws.{place_in}
use Rattle.caption_image.proofs.grey_at.Goals as goal
use Rattle.caption_image.proofs.grey_at.Goals.{After-nearest-column, After-shared_slice_known-2-1-unread}

-- the place is one of the greys'
inside-After-nearest-column : (c : After-nearest-column) → c.nearest-row.result * c.args.width + c.nearest-column.result < length c.args.wanted.now
inside-After-nearest-column c =
    let a = c.args in
    let p : c.nearest-row.result * a.width + c.nearest-column.result < a.height * a.width = place_in a.width a.height _ _ c.nearest-column.ensures.1 c.nearest-row.ensures.1 in
    omega (arith, p, c.requires.greys)

-- the place is one of the greys'
inside-After-shared_slice_known-2-1-unread : (c : After-shared_slice_known-2-1-unread) → c.nearest-row.result * c.args.width + c.nearest-column.result < length c.args.wanted.now
inside-After-shared_slice_known-2-1-unread c =
    let a = c.args in
    let p : c.nearest-row.result * a.width + c.nearest-column.result < a.height * a.width = place_in a.width a.height _ _ c.nearest-column.ensures.1 c.nearest-row.ensures.1 in
    omega (arith, p, c.requires.greys)

pub overflow_mul-result : goal.overflow_mul-result
overflow_mul-result c = omega (arith, inside-After-nearest-column c)

pub overflow_add-result : goal.overflow_add-result
overflow_add-result c = omega (arith, inside-After-nearest-column c)

pub bounds-wanted-row : goal.bounds-wanted-row
bounds-wanted-row c = omega (arith, inside-After-shared_slice_known-2-1-unread c, c.requires.greys)

pub returns : goal.returns
unfolding wanted_at
returns c = rw (c.nearest-row.ensures.0, c.nearest-column.ensures.0)
