-- `half_pair::half_pair` meets its contract.
use mathlib.Core.Path.{sym, ◌∙◌}
use Rattle.half_pair.specs.Pair.{half_pair_of}
use Rattle.half_pair.proofs.half_pair.Goals as goal

pub returns-then-is_hdr : goal.returns-then-is_hdr
unfolding half_pair_of
returns-then-is_hdr c =
    let x3 = c.before.before.before in
    rw (sym x3.is_hdr.ensures ∙ c.if-is_hdr.true, c.expanded_hdr.ensures, c.hdr_pair.ensures.0)

pub returns-else-is_hdr : goal.returns-else-is_hdr
unfolding half_pair_of
returns-else-is_hdr c =
    let x2 = c.before.before in
    rw (sym x2.is_hdr.ensures ∙ c.if-is_hdr.false, c.expanded_ldr.ensures, x2.requires)
