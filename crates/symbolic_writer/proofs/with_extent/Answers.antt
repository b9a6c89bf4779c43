use mathlib.Core.Path.{refl}
use Rattle.symbolic_writer.proofs.Piled.{appended}
use Rattle.symbolic_writer.proofs.with_extent.Goals as goal

pub returns : goal.returns
returns c = appended c.append.ensures c.extent_place.ensures refl c.wide16.ensures
