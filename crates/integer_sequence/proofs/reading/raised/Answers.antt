use mathlib.Core.Path.{◌≡◌}
use Prim.Native.Nat.{◌*◌, ◌%◌, ◌^◌, ◌≤◌}
use native.Mathlib.Nat.{mod-eq_of_lt, mul-le-mul_left}
use native.Mathlib.Omega.{arith}
use lib.Pow.{pow_mono}
use Rattle.integer_sequence.proofs.reading.raised.Goals as goal

pub returns : goal.returns
returns c =
    let a = c.args in
    let p : a.digits * 2 ^ a.b ≤ a.digits * 2 ^ 8 = mul-le-mul_left a.digits (pow_mono {i = a.b} {j = 8} (omega arith)) in
    let e : a.digits * 2 ^ a.b % 18446744073709551616 ≡ a.digits * 2 ^ a.b = mod-eq_of_lt (omega (arith, p)) in
    (e, rw e (omega (arith, p)))
