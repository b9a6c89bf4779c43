use mathlib.Core.Path.{◌≡◌, sym, ap}
use Prim.Native.Nat.{ℕ, ◌+◌, ◌*◌, ◌%◌, ◌^◌, ◌<◌}
use native.Mathlib.Nat.{lt_of_lt_of_le}
use native.Mathlib.Omega.{arith}
use lib.Arith.{digits_lt}
use lib.Pow.{pow-add, pow_mono, shl_lt, shl_exact}
use Rattle.sequence_words.proofs.placed.Goals as goal
use Rattle.sequence_words.proofs.placed.Goals.{After-low}

-- the bits of the number with its share
item_is : (c : After-low) → let a = c.args in
    (a.share * 2 ^ a.b % 2 ^ 64 ≡ a.share * 2 ^ a.b) × (a.share * 2 ^ a.b + c.low.result < 2 ^ 11)
item_is c =
    let a = c.args in
    let h : a.share < 2 ^ 3 = c.requires.0 in
    let l : a.share * 2 ^ a.b + c.low.result < 2 ^ 3 * 2 ^ a.b = digits_lt h c.low.ensures.1 in
    let e : 2 ^ 3 * 2 ^ a.b ≡ 2 ^ (3 + a.b) = sym (pow-add 2 3 a.b) in
    (shl_exact 3 a.b 64 h (omega arith), lt_of_lt_of_le l (rw e (pow_mono {i = 3 + a.b} {j = 11} (omega arith))))

pub overflow_add-result : goal.overflow_add-result
overflow_add-result c = record { fits = omega (arith, item_is c) }

pub returns : goal.returns
returns c =
    let a = c.args in
    let i = item_is c in
    let x = a.share * 2 ^ a.b + c.low.result in
    rw (i.0, shl_exact {a = x} 11 a.p 64 i.1 (omega arith))
    (ap (λ (y : ℕ). (a.share * 2 ^ a.b + y) * 2 ^ a.p) c.low.ensures.0, lt_of_lt_of_le (shl_lt {a = x} 11 a.p i.1) (pow_mono {i = 11 + a.p} {j = 51} (omega arith)))
