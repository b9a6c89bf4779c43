use mathlib.Core.Logic.{inl, inr}
use mathlib.Core.Path.{◌≡◌, refl, ap, ◌∙◌}
use Prim.Native.Nat.{◌+◌}
use native.Mathlib.Omega.{arith}
use Rattle.bits.specs.Block.{block_number}
use Rattle.integer_sequence.specs.Reading.{numbers, stored}
use Rattle.integer_sequence.proofs.Groups.{group_fits}
use Rattle.integer_sequence.proofs.Turns.{Turn, turn_first, turn_element, put_if, turn_next, turn_last}
use Rattle.integer_sequence.proofs.reading.read_groups.Given.{Over}
use Rattle.integer_sequence.proofs.reading.read_groups.Goals as goal
use Rattle.integer_sequence.proofs.reading.read_groups.Goals.{After-later-rest, then-i-k, else-i-k}

pub loop-i-init : goal.loop-i-init
loop-i-init g c = turn_first stored (stored 0) g.G.Group.form _ _ _ c.no_numbers-out.ensures refl

-- number k of the group is put in its place
pub loop-k-preserved : goal.loop-k-preserved
loop-k-preserved g c =
    let e = g.G.Group.form in
    let b = c.args.b in
    let s = block_number c.args.s in
    put_if stored (stored 0) e b s c.args.n (λ p. p) (λ q. q) (omega arith) c.loop-k.invariant
    (ap stored
    (turn_element stored (stored 0) e b s c.args.n c.requires.0 (omega (arith, group_fits e b c.requires.0)) c.word_at-word.ensures c.loop-i.invariant c.numbers-x.ensures c.loop-k.k
    (omega (arith, c.size-k-end.ensures)) refl))
    (omega arith) (elim c.if-i-k.branch [ then-i-k w ↦ inl (w.if-i-k.true, w.out-is) | else-i-k w ↦ inr (w.if-i-k.false, w.out-is) ])

-- the turn after this one
next : (g : Over) (c : After-later-rest g) → Turn stored (stored 0) g.G.Group.form c.args.b (block_number c.args.s) c.args.n (c.loop-i.i + c.size-i-step.result) c.loop-k.out c.later-rest.result
next g c =
    let e = g.G.Group.form in
    let k : c.loop-i.i + c.loop-k.k ≡ c.loop-i.i + c.size-i-step.result = omega (arith, c.size-k-end.ensures, c.size-i-step.ensures) in
    rw c.size-i-step.ensures
    (turn_next stored (stored 0) e _ _ _ c.loop-i.invariant c.bits.ensures.0 (c.loop-k.invariant ∙ rw (k, c.size-i-step.ensures)) c.later-rest.ensures)

pub loop-i-preserved : goal.loop-i-preserved
loop-i-preserved g c = next g c.before

pub returns-2 : goal.returns-2
unfolding numbers
returns-2 g c = turn_last stored (stored 0) g.G.Group.form _ _ _ (omega arith) (next g c.before)

pub returns : goal.returns
unfolding numbers
returns g c = turn_last stored (stored 0) g.G.Group.form _ _ _ (omega arith) c.loop-i.invariant
