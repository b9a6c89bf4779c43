use Prim.Native.Nat.{◌+◌, ◌*◌, ◌%◌, ◌^◌, ◌<◌}
use native.Mathlib.Nat.{mod-lt}
use native.Mathlib.Omega.{arith}
use Rattle.bits.specs.Block.{block_number}
use Rattle.encoding.proofs.Laws.{size_pos, size_le}
use Rattle.integer_sequence.proofs.Groups.{group_fits}
use Rattle.sequence_numbers.proofs.Alone.{Got, got_place, got_first, got_room, got_more, got_all}
use Rattle.sequence_numbers.proofs.groups_from.Given.{Over}
use Rattle.sequence_numbers.proofs.groups_from.Goals as goal
use Rattle.sequence_numbers.proofs.groups_from.Goals.{After-numbers-in-loop-have}

pub nonzero_div-p : goal.nonzero_div-p
nonzero_div-p g c = omega (arith, c.size-size.ensures, size_pos g.G.Group.form)

pub overflow_mul-p : goal.overflow_mul-p
overflow_mul-p g c =
    let e = g.G.Group.form in
    let m = got_place e c.args.b 0 c.args.first c.requires.0 (omega (arith, group_fits e c.args.b c.requires.0)) (omega arith) in
    rw (c.size-size.ensures, c.bits-step.ensures.0) (omega (arith, m))

pub loop-have-init : goal.loop-have-init
loop-have-init g c =
    let e = g.G.Group.form in
    let a = c.args in
    rw c.size-size.ensures
    (got_first e a.b (block_number a.s) a.first c.requires.0 (omega (arith, group_fits e a.b c.requires.0)) _ _ _ _ (omega (arith, mod-lt a.first (size_pos e))) (omega (arith, size_le e))
    (rw c.bits-step.ensures.0) (rw c.size-size.ensures at c.word_at.ensures) c.numbers.ensures)

module _ (g : Over) (c : After-numbers-in-loop-have g) where
  -- what one group more adds fits
  fits : c.loop-have.out + c.numbers-in-loop-have.result * 2 ^ (8 * c.loop-have.have) % 2 ^ 64 < 2 ^ 64
  fits =
      let e = g.G.Group.form in
      let a = c.args in
      got_room e a.b (block_number a.s) a.first c.requires.0 (omega (arith, group_fits e a.b c.requires.0)) _ _ _ c.loop-have.invariant (omega arith) _ _
      (rw c.bits-step.ensures.0 at c.word_at-in-loop-have.ensures) c.numbers-in-loop-have.ensures

  -- the numbers with it
  next : Got g.G.Group.form c.args.b (block_number c.args.s) c.args.first (c.loop-have.p + c.bits-step.result) (c.loop-have.out + c.numbers-in-loop-have.result * 2 ^ (8 * c.loop-have.have) % 2 ^ 64) (c.loop-have.have + c.size-size.result)
  next =
      let e = g.G.Group.form in
      let a = c.args in
      rw (c.size-size.ensures, c.bits-step.ensures.0)
      (got_more e a.b (block_number a.s) a.first c.requires.0 (omega (arith, group_fits e a.b c.requires.0)) _ _ _ c.loop-have.invariant (omega arith) _ _
      (rw c.bits-step.ensures.0 at c.word_at-in-loop-have.ensures) c.numbers-in-loop-have.ensures)

pub overflow_add-out : goal.overflow_add-out
overflow_add-out g c = record { fits = fits g c }

pub loop-have-preserved : goal.loop-have-preserved
loop-have-preserved g c = next g c.before

pub returns-2 : goal.returns-2
returns-2 g c =
    let e = g.G.Group.form in
    let a = c.args in
    got_all e a.b (block_number a.s) a.first c.requires.0 (omega (arith, group_fits e a.b c.requires.0)) _ _ _ _ (omega arith) (omega arith) (next g c.before)

pub returns : goal.returns
returns g c =
    let e = g.G.Group.form in
    let a = c.args in
    got_all e a.b (block_number a.s) a.first c.requires.0 (omega (arith, group_fits e a.b c.requires.0)) _ _ _ _ (omega arith) (omega arith) c.loop-have.invariant
