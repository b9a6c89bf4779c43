use mathlib.Core.Path.{sym}
use Rattle.bits.specs.Block.{block_number}
use Rattle.bits.proofs.Fields.{field_cut}
use Rattle.bits.proofs.load.Goals as goal

pub returns : goal.returns
unfolding block_number
returns c = rw (c.word_of-hi.ensures, c.word_of-lo.ensures) (sym (field_cut _ 0 64 64))
