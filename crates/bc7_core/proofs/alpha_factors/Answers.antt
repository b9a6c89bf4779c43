use mathlib.Core.Path.{sym, subst}
use Rattle.bc7_core.specs.inner.Sets.{SetIn, set_factor}
use Rattle.bc7_core.proofs.Indices.{alpha_set_in, alpha_by_set}
use Rattle.bc7_core.proofs.Painting.{first_is, own_set, factors_by}
use Rattle.bc7_core.proofs.alpha_factors.Goals as goal

-- src/lib.rt:169:5
pub factors-requires : goal.factors-requires
factors-requires c = let e = c.alpha_set.ensures in record { framed = c.requires; set_value = (own_set _ _ _ _ e, subst (SetIn _) (sym (first_is _ _ _ _ e)) (alpha_set_in _ _)) }

-- src/lib.rt:165:1
pub returns : goal.returns
unfolding set_factor
returns c =
    let e = first_is _ _ _ _ c.alpha_set.ensures in
    factors_by _ _ _ 16 (alpha_by_set _ _) (rw e at c.factors.ensures)
