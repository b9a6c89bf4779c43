use mathlib.Core.Path.{refl}
use native.Mathlib.Omega.{arith}
use lib.ListN.{length}
use Rattle.laws.proofs.Filling.{filling_start, filling_more, filling_done}
use Rattle.clip_writer.proofs.Writing.{joined}
use Rattle.clip_writer.proofs.fill.Invariants.{told}
use Rattle.clip_writer.proofs.fill.Goals as goal

pub loop-k-init : goal.loop-k-init
loop-k-init c = filling_start _ 0 _ _ refl

pub frame_byte-requires : goal.frame_byte-requires
frame_byte-requires c = (c.requires.0, omega (arith, c.requires.1, c.loop-k.invariant.size))

pub loop-k-preserved : goal.loop-k-preserved
loop-k-preserved c = filling_more _ 0 _ _ _ _ (omega (arith, c.loop-k.invariant.size)) c.loop-k.invariant c.frame_byte.ensures

pub returns : goal.returns
returns c =
    let a = c.args in
    joined a.head.now a.blocks.now _ _ c.requires.0 c.requires.1 (filling_done (told a.head.now a.blocks.now) 0 _ _ _ (omega (arith, c.loop-k.invariant.size)) c.loop-k.invariant)
