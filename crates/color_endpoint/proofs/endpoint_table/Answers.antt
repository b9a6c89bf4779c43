-- The first partition's numbers are the first eight.
use mathlib.Core.Path.{◌≡◌, refl}
use mathlib.Core.List.{[], ◌∷◌}
use native.Mathlib.Omega.{arith}
use lib.ListN.{set}
use Rattle.endpoint_arithmetic.specs.declared.EndpointPair.{EndpointPair}
use Rattle.endpoint_arithmetic.specs.Pair.{zero_pair}
use Rattle.color_endpoint.specs.Modes.{pair_of}
use Rattle.color_endpoint.specs.Table.{start_of, entry_by, table_by, table_of}
use Rattle.color_endpoint.proofs.Laws.{table_next}
use Rattle.color_endpoint.proofs.endpoint_table.Goals as goal
use Rattle.color_endpoint.proofs.endpoint_table.Goals.{After-endpoint_pair}

abbrev zero_of : After-endpoint_pair → EndpointPair
zero_of c = c.zero_pair-t.result

-- the table of one partition
first : (c : After-endpoint_pair) → set (zero_of c ∷ zero_of c ∷ zero_of c ∷ zero_of c ∷ []) 0 c.endpoint_pair.result ≡ table_of c.args.modes 1 c.args.levels
unfolding start_of table_by entry_by
first c =
    let none : zero_of c ∷ zero_of c ∷ zero_of c ∷ zero_of c ∷ [] ≡ table_of c.args.modes 0 c.args.levels = rw c.zero_pair-t.ensures in
    table_next pair_of zero_pair c.args.modes _ 0 (omega arith) none refl c.numbers_from.ensures c.endpoint_pair.ensures

pub returns-then-count-eq1 : goal.returns-then-count-eq1
returns-then-count-eq1 c = rw c.if-count-eq1.true (first c.before)

pub later_pairs-requires : goal.later_pairs-requires
later_pairs-requires c = first c.before

pub returns : goal.returns
returns c = c.later_pairs.ensures
