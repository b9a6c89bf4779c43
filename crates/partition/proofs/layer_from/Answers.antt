-- `partition::layer_from` meets its contract. Assumes nothing.
use Rattle.std.proofs.Common.{◌≡◌, ℕ, Bool}
use Rattle.partition.specs.declared.Lane.{Lane}
use Rattle.partition.specs.inner.Layers.{lane_at_layer, layer_from}
use Rattle.partition.proofs.layer_from.Goals as goal

made : (absent : Bool) (k : Lane) (r z : ℕ) {l : Lane} {q : ℕ} → l ≡ lane_at_layer absent k q z → q ≡ r → l ≡ lane_at_layer absent k r z
made absent k r z e h = rw (e, h)

pub returns : goal.returns
unfolding layer_from
returns c =
    rw (
      made _ _ _ _ c.lane_at_layer-a.ensures c.seed_of.ensures.0,
      made _ _ _ _ c.lane_at_layer-b.ensures c.last_seed.ensures.0,
      made _ _ _ _ c.lane_at_layer-c.ensures c.seed_of-2.ensures.0,
      made _ _ _ _ c.lane_at_layer-d.ensures c.seed_of-3.ensures.0,
    )
