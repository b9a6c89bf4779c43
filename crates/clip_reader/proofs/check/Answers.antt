use mathlib.Core.Path.{sym}
use Rattle.clip_frame.proofs.Refusals.{size_fine, own_of_frame}
use Rattle.clip_reader.proofs.Frames.{checked_passed, checked_stopped}
use Rattle.clip_reader.proofs.check.Goals as goal

pub begin-requires : goal.begin-requires
begin-requires c = size_fine _ (own_of_frame _ _ (sym c.in-Ok.ensures))

pub returns-in-Ok : goal.returns-in-Ok
returns-in-Ok c = checked_passed _ _ _ _ _ _ c.frame_in-f.ensures c.length_in.ensures c.in-Ok.ensures c.begin.ensures c.quiet.ensures

pub returns-in-Err : goal.returns-in-Err
returns-in-Err c = checked_stopped _ _ _ _ _ c.frame_in-f.ensures c.length_in.ensures _ c.in-Err.ensures c.stop.ensures
