use Rattle.bits.proofs.Reverse.{reverse_halves}
use Rattle.bits.proofs.reverse_word.Goals as goal

pub returns : goal.returns
returns c = reverse_halves 32 c.args.x c.reverse_32.ensures.0 c.reverse_32-2.ensures.0
