use native.Mathlib.Omega.{arith}
use borrow.Author.Tests.{le-leb, lt-leb}
use Rattle.symbolic_numbers.proofs.fits.Goals as goal

pub returns-then-x-lt256 : goal.returns-then-x-lt256
returns-then-x-lt256 c = rw (le-leb c.args.x 255 (omega arith))

pub returns-else-x-lt256 : goal.returns-else-x-lt256
returns-else-x-lt256 c = rw (lt-leb c.args.x 255 (omega arith))
