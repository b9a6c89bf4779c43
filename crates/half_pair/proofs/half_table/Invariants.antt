use mathlib.Core.Path.{◌≡◌}
use Prim.Native.Nat.{◌≤◌, ◌*◌}
use Rattle.color_endpoint.specs.Table.{start_of}
use Rattle.half_pair.specs.Pair.{half_table_of}
use Rattle.half_pair.proofs.half_table.Given as goal

abbrev pub invariant-loop-p : goal.invariant-loop-p
invariant-loop-p l = (l.start ≤ 128 * l.p) × (l.start ≡ start_of l.modes l.p) × (l.t ≡ half_table_of l.modes l.p l.levels)
