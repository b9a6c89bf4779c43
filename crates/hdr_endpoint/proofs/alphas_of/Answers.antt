-- `hdr_endpoint::alphas_of` meets its contract.
use Rattle.hdr_endpoint.proofs.Laws.{alpha_plain, alpha_raised_lem}
use borrow.Author.Rules.{rules}
use Rattle.hdr_endpoint.proofs.alphas_of.Goals as goal

pub returns-then-mode-eq3 : goal.returns-then-mode-eq3
returns-then-mode-eq3 c = alpha_plain _ _ c.wide.ensures.0 c.wide-2.ensures.0 c.if-mode-eq3.true

pub returns : goal.returns
returns c =
    let x3 = c.before.before.before in
    let x5 = x3.before.before in
    alpha_raised_lem _ _ _ _ x5.wide.ensures.0 x5.wide-2.ensures.0 x3.if-mode-eq3.false x3.alpha_base-base.ensures.0 c.extended-d.ensures.0
    c.clamp-raised.ensures.0
