use native.Mathlib.Omega.{arith}
use Rattle.line_text.specs.Lines.{decimal}
use Rattle.line_text.proofs.Laws.{puts_then}
use Rattle.line_text.proofs.put_decimal.Goals as goal

pub returns : goal.returns
unfolding decimal
returns c = let a = c.put_digit-a.ensures in
    let b = c.put_digit-b.ensures in
    let d = c.put_digit-c.ensures in
    let e = c.put_digit-d.ensures in
    let f = c.put_byte.ensures in record { upper_bound = omega (arith, a.upper_bound, b.upper_bound, d.upper_bound, e.upper_bound, f.value); puts = puts_then a.puts (puts_then b.puts (puts_then d.puts (puts_then e.puts f.puts))) }
