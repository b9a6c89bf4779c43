use mathlib.Core.Path.{◌≡◌}
use Prim.Native.Nat.{◌≤◌, ◌*◌}
use Rattle.color_endpoint.specs.Table.{start_of, table_of}
use Rattle.color_endpoint.proofs.later_pairs.Given as goal

abbrev pub invariant-loop-p : goal.invariant-loop-p
invariant-loop-p l = (l.start ≤ 128 * l.p) × (l.start ≡ start_of l.modes l.p) × (l.t ≡ table_of l.modes l.p l.levels)
