-- `partition::first_largest` meets its contract. Assumes nothing.
use Rattle.std.proofs.Common.{◌∙◌}
use Rattle.partition.proofs.Largest.{by_pairs}
use Rattle.partition.proofs.first_largest.Goals as goal

pub returns : goal.returns
returns c =
    let d = c.before in
    let e = d.before in
    let a = e.args in
    c.chosen-3.ensures
    ∙ rw (d.chosen-2.ensures, e.chosen.ensures, e.larger-2.ensures, e.larger.ensures) (by_pairs a.a a.b a.c a.d)
