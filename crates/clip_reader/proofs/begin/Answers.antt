use Rattle.clip_reader.proofs.begin.Goals as goal

-- src/lib.rt:215:1
pub returns : goal.returns
returns c = rw c.blocks_of-blocks.ensures.0
