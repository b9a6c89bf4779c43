use mathlib.Core.Path.{sym, ◌∙◌}
use borrow.Author.Tests.{lt-ltb, le-ltb}
use Rattle.image_size.specs.Sides.{size_refusal}
use Rattle.image_size.proofs.check_size.Goals as goal

pub returns-then-footprint-gt13 : goal.returns-then-footprint-gt13
unfolding size_refusal
returns-then-footprint-gt13 c = rw (lt-ltb 13 c.args.footprint c.if-footprint-gt13.true)

pub returns-then-bad_side : goal.returns-then-bad_side
unfolding size_refusal
returns-then-bad_side c = let a = c.args in
    rw (le-ltb 13 a.footprint c.if-footprint-gt13.false, sym c.bad_side.ensures ∙ c.if-bad_side.true)

pub returns-then-bad_side-2 : goal.returns-then-bad_side-2
unfolding size_refusal
returns-then-bad_side-2 c = let a = c.args in
    rw (le-ltb 13 a.footprint c.if-footprint-gt13.false, sym c.bad_side.ensures ∙ c.if-bad_side.false, sym c.bad_side-2.ensures ∙ c.if-bad_side-2.true)

pub returns : goal.returns
unfolding size_refusal
returns c = let a = c.args in
    rw (le-ltb 13 a.footprint c.if-footprint-gt13.false, sym c.bad_side.ensures ∙ c.if-bad_side.false, sym c.bad_side-2.ensures ∙ c.if-bad_side-2.false)
