-- `hdr_endpoint::d_bits` meets its contract.
use native.Mathlib.Omega.{arith}
use mathlib.Core.Path.{◌≡◌, refl}
use native.Mathlib.Nat.{le_antisymm}
use Rattle.hdr_endpoint.proofs.Laws.{above}
use Rattle.hdr_endpoint.specs.Direct.{d_bits}
use Rattle.hdr_endpoint.proofs.d_bits.Goals as goal

pub returns-in-0 : goal.returns-in-0
unfolding d_bits
returns-in-0 c = rw c.in-0.is (refl, omega arith, omega arith)

pub returns-in-1 : goal.returns-in-1
unfolding d_bits
returns-in-1 c = rw c.in-1.is (refl, omega arith, omega arith)

pub returns-in-2 : goal.returns-in-2
unfolding d_bits
returns-in-2 c = rw c.in-2.is (refl, omega arith, omega arith)

pub returns-in-3 : goal.returns-in-3
unfolding d_bits
returns-in-3 c = rw c.in-3.is (refl, omega arith, omega arith)

pub returns-in-4 : goal.returns-in-4
unfolding d_bits
returns-in-4 c = rw c.in-4.is (refl, omega arith, omega arith)

pub returns-in-5 : goal.returns-in-5
unfolding d_bits
returns-in-5 c = rw c.in-5.is (refl, omega arith, omega arith)

pub returns-in-6 : goal.returns-in-6
unfolding d_bits
returns-in-6 c = rw c.in-6.is (refl, omega arith, omega arith)

pub returns-in_default : goal.returns-in_default
unfolding d_bits
returns-in_default c =
    let r = c.in_default.in_default-own.rest in
    let m = c.args.mode in
    let e : m ≡ 7 = le_antisymm c.requires (above m 6 (above m 5 (above m 4 (above m 3 (above m 2 (above m 1 (above m 0 (omega arith) r.0.0.0.0.0.0.1) r.0.0.0.0.0.1) r.0.0.0.0.1) r.0.0.0.1) r.0.0.1) r.0.1) r.1) in
    rw e (refl, omega arith, omega arith)
