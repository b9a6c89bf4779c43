use mathlib.Core.Path.{sym}
use native.Mathlib.Omega.{arith}
use borrow.Author.Tests.{ne_eqb}
use Rattle.reason.specs.Numbers.{refusal_number}
use Rattle.reason.proofs.Told.{refusal_some}
use Rattle.stallbrook_faults.specs.Calls.{image_block_count}
use Rattle.stallbrook_faults.proofs.stallbrook_astc_image_blocks.Goals as goal

pub returns-in-Err : goal.returns-in-Err
unfolding image_block_count
returns-in-Err c = rw (← c.in-Err.ensures, ne_eqb (refusal_number c.in-Err.field-0) 0 (λ z. let p = refusal_some c.in-Err.field-0 in omega arith))

pub blocks_of-requires : goal.blocks_of-requires
blocks_of-requires c = sym c.in-Ok.ensures

pub returns-in-Ok : goal.returns-in-Ok
unfolding image_block_count
returns-in-Ok c = rw (← c.in-Ok.ensures) c.blocks_of.ensures.0
