use Rattle.clip_reader.proofs.finish_number.Goals as goal

-- src/lib.rt:407:1
pub returns-in-Header : goal.returns-in-Header
returns-in-Header c = rw c.in-Header.is c.header_end.ensures
