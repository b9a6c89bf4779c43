use mathlib.Core.Path.{refl}
use Rattle.symbolic_writer.proofs.Piled.{appended}
use Rattle.symbolic_writer.proofs.with_colours.Goals as goal

pub returns : goal.returns
returns c =
    appended c.append.ensures refl
    (appended c.append-b-3.ensures refl
    (appended c.append-b-2.ensures refl
    (appended c.append-b.ensures refl refl c.wide16.ensures)
    c.wide16-2.ensures)
    c.wide16-3.ensures)
    c.wide16-4.ensures
