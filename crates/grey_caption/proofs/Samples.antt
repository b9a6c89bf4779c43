-- Values of the definitions. The greys are those that Arm's astcenc shows.
-- Assumes nothing.
use mathlib.Core.Path.{◌≡◌, refl}
use mathlib.Core.List.{[], ◌∷◌}
use Prim.Native.Nat.{◌+◌}
use Rattle.laws.specs.Table.{tab}
use Rattle.quantization.specs.Unquantise.{unquant_weight}
use Rattle.interpolation.specs.Expansion.{replicated, centred}
use Rattle.interpolation.specs.Texel.{mix_of}
use Rattle.grey_caption.specs.Caption.{grey_of, squared, best_weight}

pub squares : tab (λ a. squared a 3) 6 ≡ 9 ∷ 4 ∷ 1 ∷ 0 ∷ 1 ∷ 4 ∷ []
unfolding tab squared
squares = refl

pub greys : tab (grey_of 0 255) 4 ≡ 0 ∷ 84 ∷ 171 ∷ 255 ∷ []
unfolding tab grey_of mix_of replicated centred unquant_weight
greys = refl

-- between 0 and 2 weights 1 and 2 show the same grey, between equal ends all four do: the smaller is taken
pub few_greys : tab (grey_of 0 2) 4 ≡ 0 ∷ 1 ∷ 1 ∷ 2 ∷ []
unfolding tab grey_of mix_of replicated centred unquant_weight
few_greys = refl

pub ties : tab (best_weight 0 2) 4 ≡ 0 ∷ 1 ∷ 3 ∷ 3 ∷ []
unfolding tab best_weight mix_of replicated centred unquant_weight
ties = refl

pub equal_ends : tab (best_weight 7 7) 9 ≡ tab (λ w. 0) 9
unfolding tab best_weight mix_of replicated centred unquant_weight
equal_ends = refl

-- 127 is nearer to 84, 128 to 171
pub halfway : tab (λ k. best_weight 0 255 (k + 127)) 2 ≡ 1 ∷ 2 ∷ []
unfolding tab best_weight mix_of replicated centred unquant_weight
halfway = refl
