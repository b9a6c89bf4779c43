use mathlib.Core.Path.{◌∙◌}
use Rattle.bc7_block.proofs.Bounds.{rotated_lt}
use Rattle.bc7_ends.proofs.Mixing.{colours_are}
use Rattle.bc7_ends.proofs.end_colours.Goals as goal

pub returns : goal.returns
returns c =
    let p = c.requires in (
      c.colour_lanes.ensures.0
          ∙ colours_are _ _ _ _ _ (rotated_lt _ p.2) c.colour_of-red.ensures.0 c.colour_of-green.ensures.0 c.colour_of-blue.ensures.0,
      c.colour_lanes.ensures.1,
    )
