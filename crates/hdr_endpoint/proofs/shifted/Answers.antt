-- `hdr_endpoint::shifted` meets its contract.
use native.Mathlib.Omega.{arith}
use mathlib.Core.Path.{refl}
use Rattle.hdr_endpoint.proofs.Laws.{Shift, shift_within}
use mathlib.Core.Path.{◌≡◌}
use Prim.Native.Nat.{◌*◌, ◌%◌, ◌^◌}
use borrow.Author.Rules.{rules}
use Rattle.hdr_endpoint.proofs.shifted.Goals as goal

pub returns : goal.returns
returns c =
    let w = shift_within c.args.n c.args.k c.requires.1 in
    let e : c.args.n * 2 ^ c.args.k % 4294967296 ≡ c.args.n * 2 ^ c.args.k = omega (arith, w.most) in
    (e, omega (arith, w.least), omega (arith, w.most))
