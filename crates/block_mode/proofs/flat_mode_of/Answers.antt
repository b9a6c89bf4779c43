use mathlib.Core.Path.{◌≡◌, sym, ◌∙◌}
use borrow.Author.Tests.{not-true, not-false, lt-ltb, le-ltb}
use mathlib.Core.Bool.{true, false}
use Rattle.block_mode.specs.Back2D.{in_limits, Limits, flat_mode_of}
use Rattle.block_mode.proofs.Modes.{limits}
use borrow.Author.Rules.{rules}
use Rattle.block_mode.proofs.flat_mode_of.Goals as goal
use Rattle.block_mode.proofs.flat_mode_of.Goals.{Else-not-in_limits, Then-not-in_limits}

outside : (c : Then-not-in_limits) → in_limits c.args.g ≡ false
outside c = sym c.in_limits.ensures ∙ c.if-not-in_limits.true

inside : (c : Else-not-in_limits) → in_limits c.args.g ≡ true
inside c = sym c.in_limits.ensures ∙ c.if-not-in_limits.false

within : (c : Else-not-in_limits) → Limits c.args.g
within c = limits _ (rw (inside c) tt)

pub returns-then-not-in_limits : goal.returns-then-not-in_limits
unfolding flat_mode_of
returns-then-not-in_limits c = rw (outside c)

pub low_rows-requires : goal.low_rows-requires
low_rows-requires c = within c.before.before

pub returns-then-g-lt6 : goal.returns-then-g-lt6
unfolding flat_mode_of
returns-then-g-lt6 c = rw (c.low_rows.ensures, inside c.before.before.before, lt-ltb _ _ c.if-g-lt6.true)

pub low_columns-requires : goal.low_columns-requires
low_columns-requires c = (within c.before.before.before.before, c.if-g-lt6.false)

pub returns-then-g-lt6-2 : goal.returns-then-g-lt6-2
unfolding flat_mode_of
returns-then-g-lt6-2 c = rw (c.low_columns.ensures, inside c.before.before.before.before.before, le-ltb _ _ c.if-g-lt6.false, lt-ltb _ _ c.if-g-lt6-2.true)

pub both_high-requires : goal.both_high-requires
both_high-requires c = (within c.before.before.before.before, c.if-g-lt6-2.false, c.if-g-lt6.false)

pub returns : goal.returns
unfolding flat_mode_of
returns c = rw (c.both_high.ensures, inside c.before.before.before.before.before, le-ltb _ _ c.if-g-lt6.false, le-ltb _ _ c.if-g-lt6-2.false)
