use mathlib.Core.Logic.{inr}
use mathlib.Core.Path.{◌≡◌, refl, ◌∙◌}
use Prim.Native.Nat.{◌+◌}
use native.Mathlib.Omega.{arith}
use Rattle.bits.specs.Block.{block_number}
use Rattle.integer_sequence.specs.inner.Sequences.{Narrow}
use Rattle.integer_sequence.proofs.Groups.{group_fits}
use Rattle.integer_sequence.proofs.Turns.{Turn, turn_first, turn_element, put, put_if, turn_next, turn_last}
use Rattle.weight_reader.specs.inner.Weights.{no_levels, point_by, by_table}
use Rattle.weight_reader.proofs.Weights.{looked_up}
use Rattle.weight_reader.proofs.read_groups.Given.{Over}
use Rattle.weight_reader.proofs.read_groups.Goals as goal
use Rattle.weight_reader.proofs.read_groups.Goals.{After-later-rest, then-i-k, else-i-k}

pub loop-i-init : goal.loop-i-init
loop-i-init g c = turn_first _ _ g.G.Group.form _ _ _ c.no_weights-out.ensures refl

-- number k of the group is looked up and put in its place
pub loop-k-preserved : goal.loop-k-preserved
loop-k-preserved g c =
    let e = g.G.Group.form in
    let b = c.args.b in
    let s = block_number c.args.s in
    let table = c.args.table.now in
    let narrow : Narrow e b = omega (arith, c.requires.0) in
    let read = turn_element (point_by table) no_levels e b s c.args.n narrow (omega (arith, group_fits e b narrow)) c.word_at-word.ensures c.loop-i.invariant c.numbers-x.ensures c.loop-k.k
    (omega (arith, c.size-k-end.ensures)) refl in
    elim c.if-i-k.branch [
      | then-i-k w ↦ put (point_by table) no_levels e b s c.args.n (omega arith) c.loop-k.invariant (looked_up table e b s _ c.requires.0 read w.weight_point.ensures) (omega arith) w.if-i-k.true w.out-is
      | else-i-k w ↦ put_if (point_by table) no_levels e b s c.args.n (λ p. p) (λ q. q) (omega arith) c.loop-k.invariant refl (omega arith) (inr (w.if-i-k.false, w.out-is))
    ]

-- the turn after this one
next : (g : Over) (c : After-later-rest g) → Turn (point_by c.args.table.now) no_levels g.G.Group.form c.args.b (block_number c.args.s) c.args.n (c.loop-i.i + c.size-i-step.result) c.loop-k.out c.later-rest.result
next g c =
    let k : c.loop-i.i + c.loop-k.k ≡ c.loop-i.i + c.size-i-step.result = omega (arith, c.size-k-end.ensures, c.size-i-step.ensures) in
    rw c.size-i-step.ensures
    (turn_next (point_by c.args.table.now) no_levels g.G.Group.form _ _ _ c.loop-i.invariant c.bits.ensures.0 (c.loop-k.invariant ∙ rw (k, c.size-i-step.ensures)) c.later-rest.ensures)

pub loop-i-preserved : goal.loop-i-preserved
loop-i-preserved g c = next g c.before

pub returns-2 : goal.returns-2
unfolding by_table
returns-2 g c = turn_last _ _ g.G.Group.form _ _ _ (omega arith) (next g c.before)

pub returns : goal.returns
unfolding by_table
returns g c = turn_last _ _ g.G.Group.form _ _ _ (omega arith) c.loop-i.invariant
