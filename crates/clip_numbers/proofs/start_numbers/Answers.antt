use Rattle.std.proofs.Common.{length, ap, ◌∙◌, eq-eqb, ne_eqb}
use Rattle.clip_numbers.specs.Numbers.{state_numbers, start_number, start_state}
use Rattle.clip_numbers.proofs.start_numbers.Goals as goal

pub returns : goal.returns
unfolding start_number start_state
returns c = let s = c.args.state.now in
    let z = c.if-state-ne26.false in record { value = rw (eq-eqb (length s) 26 z); state_after = rw (eq-eqb (length s) 26 z) (c.put_numbers.ensures ∙ c.numbers_of.ensures ∙ ap state_numbers c.fresh.ensures) }

pub returns-then-state-ne26 : goal.returns-then-state-ne26
unfolding start_number start_state
returns-then-state-ne26 c = let s = c.args.state.now in record { value = rw (ne_eqb (length s) 26 c.if-state-ne26.true, c.into.ensures); state_after = rw (ne_eqb (length s) 26 c.if-state-ne26.true) }
