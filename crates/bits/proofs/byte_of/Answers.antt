use Rattle.bits.proofs.Fields.{field_low}
use Rattle.bits.proofs.byte_of.Goals as goal

pub returns : goal.returns
returns c = rw c.word_at.ensures (field_low _ _ 56 8)
