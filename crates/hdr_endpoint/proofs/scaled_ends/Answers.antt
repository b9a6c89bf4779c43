-- `hdr_endpoint::scaled_ends` meets its contract.
use mathlib.Core.Path.{◌∙◌}
use Rattle.hdr_endpoint.proofs.Laws.{clamp_diff, clamp_less, scaled_steps}
use borrow.Author.Rules.{rules}
use Rattle.hdr_endpoint.proofs.scaled_ends.Goals as goal

pub returns : goal.returns
returns c =
    let x3 = c.before.before.before in
    let x5 = x3.before.before in
    let x7 = x5.before.before in
    scaled_steps _ _ _ _ (x7.clamp.ensures.0 ∙ clamp_less _ _ _) (x5.clamp-2.ensures.0 ∙ clamp_less _ _ _) (x3.clamp-3.ensures.0 ∙ clamp_less _ _ _)
    (c.clamp-4.ensures.0 ∙ clamp_diff _ _) (c.clamp-5.ensures.0 ∙ clamp_diff _ _) (c.clamp-6.ensures.0 ∙ clamp_diff _ _)
