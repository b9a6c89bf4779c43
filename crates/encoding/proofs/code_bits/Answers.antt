use Rattle.encoding.proofs.Laws.{code_radix}
use borrow.Author.Rules.{rules}
use Rattle.encoding.proofs.code_bits.Goals as goal

pub returns : goal.returns
returns c = rw (c.chosen-2.ensures, c.chosen.ensures, c.radix_of-radix.ensures) (code_radix c.args.encoding c.args.n)
