use Rattle.std.proofs.Common.{leb-true}
use Rattle.clip_numbers.proofs.is_whole.Goals as goal

pub returns : goal.returns
returns c = λ h. (c.if-phase-ne2.false, c.if-have-ne0.false, leb-true 16 _ h)
