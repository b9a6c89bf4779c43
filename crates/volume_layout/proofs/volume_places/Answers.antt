use mathlib.Core.Path.{sym, ap, ◌∙◌}
use Prim.Native.Nat.{ℕ, ◌*◌}
use Rattle.volume_layout.specs.Numbers.{texels_in}
use Rattle.volume_layout.specs.Call.{volume_places}
use Rattle.volume_layout.proofs.Sizes.{sized}
use Rattle.volume_layout.proofs.volume_places.Goals as goal

pub returns-then-bad_sizes : goal.returns-then-bad_sizes
unfolding volume_places
returns-then-bad_sizes c = rw (← c.bad_sizes.ensures, c.if-bad_sizes.true)

pub product-requires : goal.product-requires
product-requires c = let s = sized _ _ _ (sym c.bad_sizes.ensures ∙ c.if-bad_sizes.false) in (s.depth_most, s.height_most, s.width_most)

pub returns : goal.returns
unfolding volume_places texels_in
returns c = let t = c.before in rw (← t.bad_sizes.ensures, t.if-bad_sizes.false) (ap (λ (n : ℕ). 4 * n) c.product.ensures.0)
