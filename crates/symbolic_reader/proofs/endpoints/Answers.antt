use mathlib.Core.Path.{ap, ◌∙◌}
use mathlib.Core.List.{List}
use lib.ListN.{get_or}
use Rattle.laws.specs.Table.{tab}
use Rattle.encoding.specs.declared.Stored.{Stored}
use Rattle.integer_sequence.specs.Reading.{stored}
use Rattle.block_fault.specs.Bits.{endpoint_at}
use Rattle.symbolic_reader.proofs.Laws.{first_numbers}
use Rattle.symbolic_reader.proofs.endpoints.Goals as goal

pub returns : goal.returns
unfolding endpoint_at
returns c =
    c.first_18.ensures
    ∙ ap (λ (xs : List Stored). tab (λ i. get_or xs i (stored 0)) 18) c.read_sequence.ensures
    ∙ first_numbers _ _ _ _
    ∙ rw (c.endpoints_from.ensures, c.requires.1, c.requires.2)
