-- `hdr_endpoint::alpha_base` meets its contract.
use mathlib.Core.Path.{◌≡◌, sym, subst}
use Prim.Native.Nat.{ℕ, ◌≤◌}
use Rattle.hdr_endpoint.specs.Direct.{alpha_base}
use Rattle.hdr_endpoint.proofs.Laws.{alpha_le}
use borrow.Author.Rules.{rules}
use Rattle.hdr_endpoint.proofs.alpha_base.Goals as goal
use Rattle.hdr_endpoint.proofs.alpha_base.Goals.{After-shifted-2}

told : (c : After-shifted-2) → c.shifted-2.result ≡ alpha_base c.args.mode c.args.v6 c.args.v7
unfolding alpha_base
told c =
    let x2 = c.before.before in
    rw (c.shifted-2.ensures.0, c.wide-2.ensures.0, x2.shifted.ensures.0, x2.wide.ensures.0)

pub returns : goal.returns
returns c =
    let e = told c in
    (e, subst (λ (n : ℕ). n ≤ 4095) (sym e) (alpha_le _ _ _ c.requires))
