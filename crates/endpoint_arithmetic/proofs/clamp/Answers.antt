-- `endpoint_arithmetic::clamp` meets its contract.
use Rattle.endpoint_arithmetic.proofs.Machine.{clamp_low, clamp_high, clamp_mid, Mid}
use mir.ValLaws.{to_z-of_z}
use mir.Val.{SFits}
use mir.Syntax.{w32}
use borrow.Author.Rules.{rules}
use native.Mathlib.Omega.{arith}
use Rattle.endpoint_arithmetic.proofs.clamp.Goals as goal
use Rattle.endpoint_arithmetic.proofs.clamp.Goals.{After-struct_told-1, Else-x-gt255}

held : (c : After-struct_told-1) → SFits w32 c.args.s.0
held c = search rules

mid : (c : Else-x-gt255) → Mid c.args.s.0
mid c =
    let f = held c.before.before in
    clamp_mid _ (rw (to_z-of_z w32 _ f) at c.if-x-lt0.false) (rw (to_z-of_z w32 _ f) at c.if-x-gt255.false)

pub overflow_cast-result : goal.overflow_cast-result
overflow_cast-result c = rw (to_z-of_z w32 _ (held c.before.before)) ((mid c).positive, record { fits = omega (arith, (mid c).small) })

pub returns-then-x-lt0 : goal.returns-then-x-lt0
returns-then-x-lt0 c = clamp_low _ (rw (to_z-of_z w32 _ (held c.before)) at c.if-x-lt0.true)

pub returns-then-x-gt255 : goal.returns-then-x-gt255
returns-then-x-gt255 c = clamp_high _ (rw (to_z-of_z w32 _ (held c.before.before)) at c.if-x-gt255.true)

pub returns-else-x-gt255 : goal.returns-else-x-gt255
returns-else-x-gt255 c = rw (to_z-of_z w32 _ (held c.before.before)) (mid c).kept
