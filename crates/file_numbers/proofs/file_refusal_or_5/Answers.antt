use Rattle.file_numbers.proofs.Laws.{file_stopped, file_passed}
use Rattle.file_numbers.proofs.file_refusal_or_5.Goals as goal

pub returns-in-Err : goal.returns-in-Err
returns-in-Err c = file_stopped _ _ c.in-Err.ensures.answer

pub returns-in-Ok : goal.returns-in-Ok
returns-in-Ok c = file_passed _ _ c.in-Ok.ensures.answer
