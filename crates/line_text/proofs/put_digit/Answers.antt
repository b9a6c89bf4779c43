use mathlib.Core.Path.{◌≡◌}
use mathlib.Core.List.{[], ◌∷◌}
use Prim.Native.Nat.{ℕ, ◌+◌, ◌/◌, ◌%◌, ◌≤◌, ◌<◌}
use native.Mathlib.Omega.{arith}
use borrow.Author.Tests.{lt-ltb, le-ltb}
use Rattle.line_text.specs.Lines.{decimal_digit}
use Rattle.line_text.proofs.Laws.{puts_none, puts_as}
use Rattle.line_text.proofs.put_digit.Goals as goal

none : (p n : ℕ) → n < p → [] ≡ decimal_digit p n
unfolding decimal_digit
none p n h = rw (lt-ltb n p h)

one : (p n : ℕ) → p ≤ n → ((48 + n / p % 10) ∷ []) ≡ decimal_digit p n
unfolding decimal_digit
one p n h = rw (le-ltb n p h)

pub returns-then-n-p : goal.returns-then-n-p
returns-then-n-p c = let a = c.args in record { upper_bound = omega arith; puts = puts_as (none a.p a.n c.if-n-p.true) (puts_none a.out.now a.at) }

pub returns : goal.returns
returns c = let a = c.args in
    let e = c.put_byte.ensures in record { upper_bound = let q = e.value in omega arith; puts = puts_as (one a.p a.n c.if-n-p.false) e.puts }
