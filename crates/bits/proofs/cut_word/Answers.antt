use mathlib.Core.Path.{◌≡◌, sym}
use Prim.Native.Nat.{◌+◌, ◌-◌, ◌*◌, ◌^◌, ◌<◌}
use native.Mathlib.Nat.{add-zero, lt_of_lt_of_le}
use native.Mathlib.Omega.{arith}
use lib.Pow.{pow_mono, shl_lt}
use Rattle.bits.specs.Field.{field}
use Rattle.bits.specs.Block.{number_of}
use Rattle.bits.proofs.Fields.{field_lt, field_none, byte_below}
use Rattle.bits.proofs.cut_word.Goals as goal

-- one turn puts the next byte below the bytes so far
next : (c : goal.After-byte_at)
    → c.loop-left.word * 256 + c.byte_at.result
    ≡ field (number_of c.args.s.now) (8 * (c.args.k + (c.loop-left.left - 1))) (64 - 8 * (c.loop-left.left - 1))
next c =
    let n = number_of c.args.s.now in
    let k = c.args.k in
    let m = c.loop-left.left in
    byte_below n (8 * (k + (m - 1))) (8 * (k + m)) (64 - 8 * m) (64 - 8 * (m - 1)) (omega arith) (omega arith) c.loop-left.invariant c.byte_at.ensures

word_fits : (c : goal.In-loop-left) → c.loop-left.word * 256 < 2 ^ 64
word_fits c =
    let m = c.loop-left.left in
    let h : c.loop-left.word < 2 ^ (64 - 8 * m) = rw c.loop-left.invariant (field_lt _ _ (64 - 8 * m)) in
    lt_of_lt_of_le (shl_lt (64 - 8 * m) 8 h) (pow_mono {i = 64 - 8 * m + 8} {j = 64} (omega arith))

pub loop-left-init : goal.loop-left-init
loop-left-init c = sym (field_none _ _)

pub overflow_mul-word : goal.overflow_mul-word
overflow_mul-word c = record { fits = word_fits c }

pub overflow_add-word : goal.overflow_add-word
overflow_add-word c = record { fits = rw (next c) (lt_of_lt_of_le (field_lt _ _ (64 - 8 * (c.loop-left.left - 1))) (pow_mono {i = 64 - 8 * (c.loop-left.left - 1)} {j = 64} (omega arith))) }

pub loop-left-preserved : goal.loop-left-preserved
loop-left-preserved c = next c

pub returns : goal.returns
returns c =
    let z : c.loop-left.left ≡ 0 = omega arith in
    rw (c.loop-left.invariant, z, add-zero)
