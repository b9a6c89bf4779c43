use lib.ListN.{length}
use mathlib.Core.Path.{◌≡◌, refl}
use Rattle.symbolic_writer.proofs.Parts.{endpoint_steps}
use Rattle.symbolic_writer.proofs.with_endpoints.Goals as goal
use Rattle.symbolic_writer.proofs.with_endpoints.Goals.{After-write_sequence}

long_enough : (c : After-write_sequence) → length c.args.s.endpoints ≡ 18
long_enough c = c.well_formed.1.0.1.1.1.1.1.1.1.1.1.1.1.1.1.1.1.1.0.1.0.1

pub returns : goal.returns
returns c =
    let b = c in
    endpoint_steps b.args.s b.requires.0 (long_enough c) _ refl b.requires.1 b.requires.2 c.endpoints_from.ensures c.lengthened.ensures c.write_sequence.ensures
