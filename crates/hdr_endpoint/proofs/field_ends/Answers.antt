-- `hdr_endpoint::field_ends` meets its contract.
use mathlib.Core.Path.{◌∙◌}
use Rattle.hdr_endpoint.proofs.Laws.{clamp_diff, clamp_whole, field_steps}
use borrow.Author.Rules.{rules}
use Rattle.hdr_endpoint.proofs.field_ends.Goals as goal

pub returns : goal.returns
returns c =
    let x4 = c.before.before.before.before in
    field_steps _ _ _ _ _ _ _ _ _
    x4.low_part-g0.ensures x4.low_part-u0.ensures (x4.clamp.ensures.0 ∙ clamp_diff _ _) x4.swizzled-e0.ensures
    (c.clamp-2.ensures.0 ∙ clamp_whole _) (c.clamp-3.ensures.0 ∙ clamp_diff _ _) (c.clamp-4.ensures.0 ∙ clamp_diff _ _)
    c.swizzled-e1.ensures
