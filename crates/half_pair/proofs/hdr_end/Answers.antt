-- `half_pair::hdr_end` meets its contract.
use mathlib.Core.Path.{◌≡◌, subst}
use mathlib.Core.Bool.{true, false}
use lib.Dec.{T}
use Rattle.half_pair.specs.Pair.{half_end}
use Rattle.half_pair.proofs.hdr_end.Goals as goal

clash : {A : Type 0} → true ≡ false → A
clash e = absurd (subst T e tt)

pub expand-requires : goal.expand-requires
expand-requires c = (c.requires.twelve 0, λ e. clash e)

pub expand-requires-2 : goal.expand-requires-2
expand-requires-2 c = (c.requires.twelve 1, λ e. clash e)

pub expand-requires-3 : goal.expand-requires-3
expand-requires-3 c = (c.requires.twelve 2, λ e. clash e)

pub expand-requires-4 : goal.expand-requires-4
expand-requires-4 c = let p = c.requires in (p.twelve 3, p.last)

pub returns : goal.returns
unfolding half_end
returns c = rw (c.expand.ensures, c.expand-2.ensures, c.expand-3.ensures, c.expand-4.ensures)
