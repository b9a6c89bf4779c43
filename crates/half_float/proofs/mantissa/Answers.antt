-- `half_float::mantissa` meets its contract.
use native.Mathlib.Omega.{arith}
use borrow.Author.Rules.{rules}
use Rattle.half_float.proofs.Facts.{mantissa_sum}
use Rattle.half_float.proofs.mantissa.Goals as goal

pub returns : goal.returns
returns c = rw (c.over.ensures, c.over-2.ensures) (mantissa_sum _, omega arith)
