-- `hdr_endpoint::scale_shift` meets its contract.
use native.Mathlib.Omega.{arith}
use mathlib.Core.Path.{◌≡◌, refl}
use native.Mathlib.Nat.{le_antisymm}
use Rattle.hdr_endpoint.proofs.Laws.{above}
use Rattle.hdr_endpoint.specs.Scale.{scale_shift}
use Rattle.hdr_endpoint.proofs.scale_shift.Goals as goal

pub returns-in-0 : goal.returns-in-0
unfolding scale_shift
returns-in-0 c = rw c.in-0.is (refl, omega arith)

pub returns-in-1 : goal.returns-in-1
unfolding scale_shift
returns-in-1 c = rw c.in-1.is (refl, omega arith)

pub returns-in-2 : goal.returns-in-2
unfolding scale_shift
returns-in-2 c = rw c.in-2.is (refl, omega arith)

pub returns-in-3 : goal.returns-in-3
unfolding scale_shift
returns-in-3 c = rw c.in-3.is (refl, omega arith)

pub returns-in-4 : goal.returns-in-4
unfolding scale_shift
returns-in-4 c = rw c.in-4.is (refl, omega arith)

pub returns-in_default : goal.returns-in_default
unfolding scale_shift
returns-in_default c =
    let r = c.in_default.in_default-own.rest in
    let m = c.args.mode in
    let e : m ≡ 5 = le_antisymm c.requires (above m 4 (above m 3 (above m 2 (above m 1 (above m 0 (omega arith) r.0.0.0.0.1) r.0.0.0.1) r.0.0.1) r.0.1) r.1) in
    rw e (refl, omega arith)
