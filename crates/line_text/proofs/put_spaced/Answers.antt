use native.Mathlib.Omega.{arith}
use Rattle.line_text.proofs.Laws.{puts_then}
use Rattle.line_text.proofs.put_spaced.Goals as goal

pub returns : goal.returns
returns c = let a = c.put_byte-end.ensures in
    let b = c.put_decimal.ensures in record { upper_bound = omega (arith, a.value, b.upper_bound); puts = puts_then a.puts b.puts }
