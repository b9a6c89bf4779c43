use native.Mathlib.Omega.{arith}
use Rattle.line_text.specs.Lines.{spaced}
use Rattle.line_text.proofs.Laws.{puts_then}
use Rattle.line_text.proofs.put_told.Goals as goal

pub returns : goal.returns
unfolding spaced
returns c = let a = c.put_word-a.ensures in
    let b = c.put_spaced-b.ensures in
    let d = c.put_byte.ensures in record { upper_bound = omega (arith, a.value, b.upper_bound, d.value); puts = puts_then a.puts (puts_then b.puts d.puts) }
