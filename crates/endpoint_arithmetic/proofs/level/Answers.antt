-- `endpoint_arithmetic::level` meets its contract.
use Rattle.endpoint_arithmetic.proofs.Machine.{within_pos}
use mir.ValLaws.{to_z_pos}
use mir.Syntax.{w32}
use native.Mathlib.Omega.{arith}
use mathlib.Core.Path.{refl}
use borrow.Author.Rules.{rules}
use Rattle.endpoint_arithmetic.proofs.level.Goals as goal

pub returns : goal.returns
returns c = rw (to_z_pos w32 c.args.n (omega arith)) (refl, within_pos (omega arith))
