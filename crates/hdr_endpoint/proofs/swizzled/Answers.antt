-- `hdr_endpoint::swizzled` meets its contract.
use mathlib.Core.Path.{refl}
use borrow.Author.Tests.{ne_eqb}
use Rattle.hdr_endpoint.specs.Parts.{swizzled_red, swizzled_green, swizzled_blue, swizzled_end}
use Rattle.hdr_endpoint.proofs.swizzled.Goals as goal

pub returns-in-1 : goal.returns-in-1
unfolding swizzled_end swizzled_red swizzled_green swizzled_blue
returns-in-1 c = rw c.in-1.is

pub returns-in-2 : goal.returns-in-2
unfolding swizzled_end swizzled_red swizzled_green swizzled_blue
returns-in-2 c = rw c.in-2.is

pub returns-in_default : goal.returns-in_default
unfolding swizzled_end swizzled_red swizzled_green swizzled_blue
returns-in_default c =
    let r = c.in_default.in_default-own.rest in
    rw (ne_eqb _ 1 r.0.1, ne_eqb _ 2 r.1)
