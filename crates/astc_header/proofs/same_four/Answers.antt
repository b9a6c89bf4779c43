use Rattle.astc_header.proofs.same_four.Goals as goal

-- src/lib.rt:43:1
pub returns : goal.returns
returns c = rw (c.both-3.ensures, c.both-2.ensures, c.both.ensures)
