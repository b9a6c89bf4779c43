use native.Mathlib.Omega.{arith}
use Rattle.footprint.specs.Footprint.{width_of}
use Rattle.footprint.proofs.Laws.{texels_le}
use Rattle.block_core.proofs.flood.Goals as goal

pub flood-requires : goal.flood-requires
flood-requires c = let e = c.texels.ensures in omega (arith, texels_le c.args.fp, e)

pub returns : goal.returns
returns c = let b = c.before.before in
    λ e. rw (← b.texels.ensures) (c.flood.ensures (width_of b.args.fp) e)
