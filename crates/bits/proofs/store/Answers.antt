use mathlib.Core.Path.{refl}
use native.Mathlib.Omega.{arith}
use Rattle.laws.proofs.Filling.{filling_start, filling_more, filling_done}
use Rattle.bits.specs.Block.{bytes_of}
use Rattle.bits.proofs.store.Invariants.{bytes}
use Rattle.bits.proofs.store.Goals as goal

pub loop-k-init : goal.loop-k-init
loop-k-init c = filling_start _ 0 16 _ refl

pub loop-k-preserved : goal.loop-k-preserved
loop-k-preserved c = filling_more _ 0 16 _ _ _ (omega arith) c.loop-k.invariant c.byte_of.ensures

pub returns : goal.returns
unfolding bytes_of
returns c = filling_done (bytes c.args.b) 0 16 _ _ (omega arith) c.loop-k.invariant
