use mathlib.Core.Path.{◌≡◌}
use native.Mathlib.Omega.{arith}
use Prim.Native.Nat.{◌*◌, ◌%◌, ◌^◌, ◌<◌}
use native.Mathlib.Nat.{one-mul, mod-eq_of_lt}
use lib.Pow.{pow_pos, pow-lt, pow_mono}
use Rattle.bc7_ends.proofs.power.Goals as goal

pub returns : goal.returns
returns c =
    let n = c.args.n in
    let h : n < 32 = omega arith in
    let e : 1 * 2 ^ n % 2 ^ 32 ≡ 2 ^ n = rw one-mul (mod-eq_of_lt (pow-lt {j = 32} h)) in
    (e, rw e (pow_pos n), rw e (pow_mono {j = 8} c.requires))
