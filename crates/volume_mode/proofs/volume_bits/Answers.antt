-- `volume_mode::volume_bits` meets its contract. Assumes nothing.
use mathlib.Core.Path.{◌≡◌, sym, ◌∙◌}
use mathlib.Core.Bool.{true}
use Rattle.volume_mode.specs.Back3D.{in_volume, volume_bits}
use Rattle.volume_mode.proofs.Limits.{edges}
use Rattle.volume_mode.proofs.volume_bits.Goals as goal
use Rattle.volume_mode.proofs.volume_bits.Goals.{Then-in_volume}

inside : (c : Then-in_volume) → in_volume c.args.g ≡ true
inside c = sym c.in_volume.ensures ∙ c.if-in_volume.true

pub edge_form-requires : goal.edge_form-requires
edge_form-requires c = edges _ (rw (inside c) tt)

pub returns-then-in_volume : goal.returns-then-in_volume
unfolding volume_bits
returns-then-in_volume c = rw (c.edge_form.ensures, inside c.before)

pub returns : goal.returns
unfolding volume_bits
returns c = rw (← c.in_volume.ensures, c.if-in_volume.false)
