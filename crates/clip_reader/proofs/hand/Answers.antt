use Rattle.clip_reader.proofs.hand.Goals as goal

-- src/lib.rt:284:1
pub returns : goal.returns
returns c = rw c.pass.ensures
