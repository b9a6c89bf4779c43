use native.Mathlib.Omega.{arith}
use Prim.Native.Nat.{◌^◌, ◌≤◌}
use lib.Pow.{pow_mono}
use Rattle.bits.proofs.Halves.{one_shl}
use Rattle.symbolic_writer.proofs.power.Goals as goal

pub returns : goal.returns
returns c =
    let i = c.args.i in
    let p : 2 ^ i ≤ 2 ^ 8 = pow_mono {i = i} {j = 8} c.requires in
    (one_shl i (omega arith), rw (one_shl i (omega arith)) p)
