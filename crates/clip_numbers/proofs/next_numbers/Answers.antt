use Rattle.std.proofs.Common.{le-ltb, lt-ltb}
use Rattle.clip.specs.Step.{past}
use Rattle.clip_numbers.specs.Numbers.{state_numbers}
use Rattle.clip_numbers.proofs.next_numbers.Goals as goal

pub returns-then-block-last : goal.returns-then-block-last
unfolding state_numbers past
returns-then-block-last c = rw (lt-ltb _ _ c.if-block-last.true, c.wide.ensures, c.wide-then-block-last.ensures)

pub returns-else-block-last : goal.returns-else-block-last
unfolding state_numbers past
returns-else-block-last c = rw (le-ltb _ _ c.if-block-last.false, c.wrapping_add_u32.ensures.value, c.wide-else-block-last.ensures, c.wide-else-block-last-2.ensures)
