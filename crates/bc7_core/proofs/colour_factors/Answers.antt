use mathlib.Core.Path.{sym, subst}
use Rattle.bc7_core.specs.inner.Sets.{SetIn, set_factor}
use Rattle.bc7_core.proofs.Indices.{colour_set_in, colour_by_set}
use Rattle.bc7_core.proofs.Painting.{first_is, own_set, factors_by}
use Rattle.bc7_core.proofs.colour_factors.Goals as goal

-- src/lib.rt:162:5
pub factors-requires : goal.factors-requires
factors-requires c = let e = c.colour_set.ensures in record { framed = c.requires; set_value = (own_set _ _ _ _ e, subst (SetIn _) (sym (first_is _ _ _ _ e)) (colour_set_in _ _ c.requires.known)) }

-- src/lib.rt:158:1
pub returns : goal.returns
unfolding set_factor
returns c =
    let e = first_is _ _ _ _ c.colour_set.ensures in
    factors_by _ _ _ 16 (colour_by_set _ _) (rw e at c.factors.ensures)
