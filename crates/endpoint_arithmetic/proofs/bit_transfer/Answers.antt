-- `endpoint_arithmetic::bit_transfer` meets its contract.
use Prim.Native.Nat.{ℕ, ◌/◌, ◌%◌, ◌≤◌, ◌<◌}
use native.Mathlib.Omega.{arith}
use lib.IntN.{pos, ◌-ℤ◌}
use borrow.Author.Tests.{lt-ltb, le-ltb}
use mir.Syntax.{w8}
use mir.Val.{SFits}
use mir.ValLaws.{to_z-of_z, to_z_pos}
use Rattle.endpoint_arithmetic.specs.Signed.{base_of, offset_of, bit_transfer}
use Rattle.endpoint_arithmetic.proofs.Machine.{within_fits}
use borrow.Author.Rules.{rules}
use Rattle.endpoint_arithmetic.proofs.bit_transfer.Goals as goal
use Rattle.endpoint_arithmetic.proofs.bit_transfer.Goals.{Start}

-- the six bits
abbrev six : Start → ℕ
six s = s.args.a.0 / 2 % 64

below : (m : ℕ) → 32 ≤ m → m < 64 → SFits w8 (pos m -ℤ pos 64)
below m h k = within_fits w8 {lo = 32} {hi = 31} (record { near = rw (lt-ltb m 64 k) (omega arith) }) (omega arith) (omega arith)

pub overflow_sub-result : goal.overflow_sub-result
overflow_sub-result c = rw (to_z_pos w8 (six c.before) (omega arith)) (below (six c.before) c.if-n-lt32.false (omega arith))

pub returns-then-n-lt32 : goal.returns-then-n-lt32
unfolding bit_transfer base_of offset_of
returns-then-n-lt32 c = rw (to_z_pos w8 (six c.before) (omega arith), lt-ltb (six c.before) 32 c.if-n-lt32.true)

pub returns-else-n-lt32 : goal.returns-else-n-lt32
unfolding bit_transfer base_of offset_of
returns-else-n-lt32 c = rw (to_z_pos w8 (six c.before) (omega arith), to_z-of_z w8 _ (below (six c.before) c.if-n-lt32.false (omega arith)), le-ltb (six c.before) 32 c.if-n-lt32.false)
