use borrow.Author.Rules.{rules}
use Rattle.pvrtc_rows.proofs.keep_word.Goals as goal

pub returns : goal.returns
returns c = rw (c.colour_a.ensures, c.colour_b.ensures)
