use mathlib.Core.Path.{◌≡◌}
use native.Mathlib.Omega.{arith}
use lib.ListN.{length}
use Rattle.block_header.specs.Counts.{endpoint_count}
use Rattle.block_header.proofs.Laws.{start_four}
use borrow.Author.Rules.{rules}
use Rattle.block_header.proofs.endpoint_count.Goals as goal
use Rattle.block_header.proofs.endpoint_count.Goals.{Start}

-- a header has four modes
four : (c : Start) → length c.args.h.modes ≡ 4
four c = search rules

pub returns : goal.returns
unfolding endpoint_count
returns c =
    let d = c.before.before.before.before.before in (
      rw (c.bits_left.ensures, c.counted-n3.ensures.0, c.counted-n2.ensures.0, c.counted-n1.ensures.0, c.counted-n0.ensures.0, d.wide-count.ensures.0)
          (start_four d.args.h.modes d.args.h.partitions (four d.before.before)),
      omega (arith, c.bits_left.ensures),
    )
