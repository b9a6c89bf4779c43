use mathlib.Core.Path.{sym, ap, ◌∙◌}
use native.Mathlib.Omega.{arith}
use Prim.Native.Nat.{◌^◌, ◌<◌}
use Rattle.std.specs.Prelude.{Ok}
use Rattle.bits.specs.Block.{block_number}
use Rattle.bits.proofs.Blocks.{block_lt}
use Rattle.block_fault.proofs.Sound.{void_read}
use Rattle.block_reading.proofs.Solid.{solid}
use Rattle.strict_block.proofs.written.Goals as goal

pub returns-in-VoidExtent : goal.returns-in-VoidExtent
unfolding block_number
returns-in-VoidExtent c =
    let k = void_read c.args.fp (block_number c.args.b) (ap Ok c.in-VoidExtent.is) (c.requires.no_fault, c.requires.is) in
    let fits : block_number c.args.b < 2 ^ 128 = block_lt c.args.b.hi c.args.b.lo (omega (arith, c.well_formed.1.0)) (omega (arith, c.well_formed.1.0)) in
    sym (solid c.args.fp (block_number c.args.b) fits k.1 c.requires.no_fault)

pub written_coded-requires : goal.written_coded-requires
written_coded-requires c = record { low = c.requires.low; no_fault = c.requires.no_fault; is = sym c.in-Coded.is ∙ c.requires.is }
