use mathlib.Core.Path.{◌≡◌}
use Prim.Native.Nat.{◌*◌, ◌≤◌}
use Rattle.color_endpoint.specs.Table.{start_of}
use Rattle.partition_texel.proofs.start_of.Given as goal

abbrev pub invariant-loop-i : goal.invariant-loop-i
invariant-loop-i l = (l.start ≤ 128 * l.i) × (l.start ≡ start_of l.modes l.i)
