use mathlib.Core.Path.{refl, sym}
use Rattle.bits.specs.Block.{block_number}
use Rattle.block_reading.proofs.Shows.{ordinary_into}
use Rattle.strict_block.proofs.Laws.{shows_as}
use Rattle.strict_block.proofs.decode_some_in.Goals as goal

pub returns-in-Ordinary : goal.returns-in-Ordinary
returns-in-Ordinary c =
    let a = c.args in
    rw c.in-Ordinary.is (shows_as c.decode_some.result _ _ _ refl (λ l. sym (ordinary_into a.fp a.kind (block_number a.b) l)) c.decode_some.ensures)

pub returns-in-Strict : goal.returns-in-Strict
returns-in-Strict c = rw c.in-Strict.is c.decode_strict.ensures
