use Rattle.clip_reader.proofs.stop.Goals as goal

-- src/lib.rt:115:1
pub returns : goal.returns
returns c = rw (c.enter.ensures, c.into-n.ensures)
