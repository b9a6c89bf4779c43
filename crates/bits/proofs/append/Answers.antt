use Rattle.bits.proofs.Fields.{field_lt}
use Rattle.bits.proofs.append.Goals as goal

pub on_top-requires : goal.on_top-requires
on_top-requires c = rw c.part.ensures (field_lt _ 0 _)

pub returns : goal.returns
returns c = rw (c.on_top.ensures, c.part.ensures)
