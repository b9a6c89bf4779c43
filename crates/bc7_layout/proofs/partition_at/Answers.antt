use mathlib.Core.Path.{◌≡◌, refl, sym, ap, ◌∙◌}
use native.Mathlib.Omega.{arith}
use Prim.Native.Nat.{ℕ, ◌+◌, ◌-◌, ◌*◌, ◌^◌, ◌≤◌, ◌<◌}
use Rattle.bits.specs.Field.{field, stream}
use Rattle.bits.proofs.Fields.{field_lt}
use Rattle.bits.specs.Block.{block_number}
use Rattle.bc7_layout.proofs.Tables.{width_most, partition_most}
use Rattle.bc7_layout.specs.Modes.{mode_row, partition_bits}
use borrow.Author.Rules.{rules}
use Rattle.bc7_layout.proofs.partition_at.Goals as goal

pub small_field-requires : goal.small_field-requires
unfolding partition_bits
small_field-requires c = rw c.mode_row-row.ensures (partition_most c.args.m c.requires)

pub returns : goal.returns
unfolding partition_bits
returns c = let e : c.small_field.result ≡ field (block_number c.args.b) (c.args.m + 1) (partition_bits c.args.m) = c.small_field.ensures ∙ rw c.mode_row-row.ensures in (e, rw e (field_lt _ _ _))
