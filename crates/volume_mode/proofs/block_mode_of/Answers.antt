-- `volume_mode::block_mode_of` meets its contract. Assumes nothing.
use borrow.Author.Tests.{lt-ltb, le-ltb}
use Rattle.volume_mode.specs.Either.{is_deep, block_mode_of}
use Rattle.volume_mode.proofs.block_mode_of.Goals as goal

pub returns-then-g-gt1 : goal.returns-then-g-gt1
unfolding is_deep block_mode_of
returns-then-g-gt1 c = rw (c.volume_bits.ensures, lt-ltb _ _ c.if-g-gt1.true)

pub returns : goal.returns
unfolding is_deep block_mode_of
returns c = rw (c.flat_mode_of.ensures, le-ltb _ _ c.if-g-gt1.false)
