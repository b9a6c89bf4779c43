use mathlib.Core.Path.{◌≡◌}
use lib.ListN.{length}
use Rattle.block_header.specs.Reasons.{some_hdr}
use Rattle.block_header.proofs.Laws.{hdr_four}
use borrow.Author.Rules.{rules}
use Rattle.block_header.proofs.some_hdr.Goals as goal
use Rattle.block_header.proofs.some_hdr.Goals.{Start}

-- a header has four modes
four : (c : Start) → length c.args.h.modes ≡ 4
four c = search rules

pub returns : goal.returns
unfolding some_hdr
returns c =
    let s = c.before.before.before.before.before in
    rw (c.is_hdr-4.ensures, c.is_hdr-3.ensures, c.is_hdr-2.ensures, c.is_hdr.ensures)
    (hdr_four s.args.h.modes s.args.h.partitions (four s))
