use Rattle.clip_reader.proofs.hold.Goals as goal

-- src/lib.rt:135:1
pub returns : goal.returns
returns c = rw (c.quiet.ensures, c.with.ensures)
