use Rattle.image_numbers.proofs.Laws.{refused_number}
use Rattle.image_numbers.proofs.refusal_or_5.Goals as goal

pub returns-in-Err : goal.returns-in-Err
returns-in-Err c = refused_number _ _ c.in-Err.ensures

pub returns-in-Ok : goal.returns-in-Ok
returns-in-Ok c = rw c.in-Ok.ensures.0
