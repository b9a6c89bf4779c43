use Rattle.std.proofs.Common.{eq-eqb, ne_eqb}
use Rattle.clip_numbers.specs.Numbers.{feed_refusal}
use Rattle.clip_numbers.proofs.check_feed.Goals as goal
use Rattle.clip_numbers.proofs.check_feed.Goals.{then-state-ne26-via-then-state-ne26, then-state-ne26-via-else-state-ne26+then-block-ne16, then-state-ne26-via-else-state-ne26+else-block-ne16+then-told-ne8}

pub returns-then-state-ne26 : goal.returns-then-state-ne26
unfolding feed_refusal
returns-then-state-ne26 c =
    elim c.then-state-ne26.branch [
      | then-state-ne26-via-then-state-ne26 w ↦ rw (ne_eqb _ 26 w.if-state-ne26.true)
      | then-state-ne26-via-else-state-ne26+then-block-ne16 w ↦ rw (eq-eqb _ 26 w.if-state-ne26.false, ne_eqb _ 16 w.if-block-ne16.true)
      | then-state-ne26-via-else-state-ne26+else-block-ne16+then-told-ne8 w ↦
          rw (eq-eqb _ 26 w.if-state-ne26.false, eq-eqb _ 16 w.if-block-ne16.false, ne_eqb _ 8 w.if-told-ne8.true)
    ]

pub returns : goal.returns
unfolding feed_refusal
returns c = rw (eq-eqb _ 26 c.if-state-ne26.false, eq-eqb _ 16 c.if-block-ne16.false, eq-eqb _ 8 c.if-told-ne8.false)
