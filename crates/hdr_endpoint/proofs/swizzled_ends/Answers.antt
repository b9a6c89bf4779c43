-- `hdr_endpoint::swizzled_ends` meets its contract.
use borrow.Author.Tests.{ne_eqb}
use Rattle.hdr_endpoint.specs.Parts.{swizzled_red, swizzled_green, swizzled_blue}
use Rattle.hdr_endpoint.specs.Scale.{swizzled_ends}
use borrow.Author.Rules.{rules}
use Rattle.hdr_endpoint.proofs.swizzled_ends.Goals as goal

pub returns-in-1 : goal.returns-in-1
unfolding swizzled_ends swizzled_red swizzled_green swizzled_blue
returns-in-1 c = rw c.in-1.is c.scaled_ends.ensures

pub returns-in-2 : goal.returns-in-2
unfolding swizzled_ends swizzled_red swizzled_green swizzled_blue
returns-in-2 c = rw c.in-2.is c.scaled_ends-in-2.ensures

pub returns-in_default : goal.returns-in_default
unfolding swizzled_ends swizzled_red swizzled_green swizzled_blue
returns-in_default c =
    let r = c.in_default.in_default-own.rest in
    rw (ne_eqb _ 1 r.0.1, ne_eqb _ 2 r.1) c.scaled_ends-in_default.ensures
