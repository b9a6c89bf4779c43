use mathlib.Core.Path.{sym}
use native.Mathlib.Omega.{arith}
use lib.ListN.{take, get_or-eq_default}
use Rattle.integer_sequence.specs.Writing.{values}
use Rattle.sequence_words.proofs.Numbers.{written_length, value_here}
use borrow.Author.Rules.{rules}
use Rattle.sequence_words.proofs.number_at.Goals as goal

pub returns-then-i-n : goal.returns-then-i-n
returns-then-i-n c =
    let a = c.args in
    (value_here a.xs a.n a.i c.if-i-n.true c.value.ensures.0, c.value.ensures.1)

pub returns : goal.returns
returns c =
    let a = c.args in
    (sym (get_or-eq_default (take a.n (values a.xs)) 0 {n = a.i} (omega (arith, written_length a.xs a.n (search rules) c.requires))), omega arith)
