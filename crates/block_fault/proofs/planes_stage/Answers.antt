use Rattle.block_fault.proofs.planes_stage.Goals as goal

pub returns-then-planes-partitions : goal.returns-then-planes-partitions
returns-then-planes-partitions c = rw c.if-planes-partitions.true

pub returns : goal.returns
returns c = rw c.if-planes-partitions.false
