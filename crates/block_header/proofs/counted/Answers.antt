use Rattle.block_header.proofs.counted.Goals as goal

pub returns-then-there : goal.returns-then-there
returns-then-there c = rw c.if-there.true c.number_count-n.ensures
