use mathlib.Core.Path.{refl, sym}
use Prim.Native.Nat.{◌*◌, ◌/◌, ◌≤◌}
use native.Mathlib.Nat.{mul-le-mul, div-le_self}
use native.Mathlib.Omega.{arith}
use Rattle.encoding.proofs.Laws.{size_pos}
use Rattle.integer_sequence.proofs.Groups.{group_fits}
use Rattle.sequence_end.proofs.Missing.{missing_none, missing_cut}
use Rattle.sequence_end.proofs.zero_from_cut.Goals as goal

pub nonzero_rem-k : goal.nonzero_rem-k
nonzero_rem-k g c = omega (arith, c.size-size.ensures, size_pos g.G.Group.form)

pub returns-then-k-eq0 : goal.returns-then-k-eq0
returns-then-k-eq0 g c = sym (missing_none g.G.Group.form _ _ _ (rw c.size-size.ensures at c.if-k-eq0.true))

pub overflow_mul-n : goal.overflow_mul-n
overflow_mul-n g c =
    let m : c.args.n / c.size-size.result * c.bits.result ≤ 255 * 63 = mul-le-mul {n₂ = 255} {m₂ = 63} (omega (arith, div-le_self c.args.n c.size-size.result)) (omega (arith, c.bits.ensures.1)) in
    record { fits = omega (arith, m) }

pub returns : goal.returns
returns g c =
    let e = g.G.Group.form in
    let a = c.args in
    rw c.size-size.ensures
    (missing_cut e a.b _ a.n (omega (arith, group_fits e a.b c.requires.0)) (rw (c.size-size.ensures, c.bits.ensures.0)) c.word_at-word.ensures refl c.digits.ensures
    (rw c.size-size.ensures at c.if-k-eq0.false))
