use Rattle.std.proofs.Common.{length, ap, ◌∙◌, eq-eqb, ne_eqb}
use Rattle.clip.specs.declared.Finished.{Finished}
use Rattle.clip.specs.Feed.{finish_of}
use Rattle.clip_numbers.specs.Numbers.{state_numbers, finish_numbered, finish_state}
use Rattle.clip_numbers.proofs.finish_numbers.Goals as goal

pub returns : goal.returns
unfolding finish_numbered finish_state
returns c = let s = c.args.state.now in
    let e = c.finish-finished.ensures ∙ ap finish_of c.clip_of.ensures in
    let z = c.if-state-ne26.false in record { value = rw (eq-eqb (length s) 26 z) (ap (λ (f : Finished). f.number) e); state_after = rw (eq-eqb (length s) 26 z) (c.put_numbers.ensures ∙ c.numbers_of.ensures ∙ ap (λ (f : Finished). state_numbers f.clip) e) }

pub returns-then-state-ne26 : goal.returns-then-state-ne26
unfolding finish_numbered finish_state
returns-then-state-ne26 c = let s = c.args.state.now in record { value = rw (ne_eqb (length s) 26 c.if-state-ne26.true, c.into.ensures); state_after = rw (ne_eqb (length s) 26 c.if-state-ne26.true) }
