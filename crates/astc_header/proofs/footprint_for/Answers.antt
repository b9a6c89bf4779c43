use mathlib.Core.Path.{refl, sym, ◌∙◌}
use native.Mathlib.Omega.{arith}
use Rattle.astc_header.specs.Header.{footprint_for}
use Rattle.astc_header.proofs.Search.{found_at, not_high, not_wide, nowhere}
use Rattle.astc_header.proofs.footprint_for.Goals as goal
use Rattle.astc_header.proofs.footprint_for.Goals.{else-width-columns-via-then-width-columns+else-height-rows, else-width-columns-via-else-width-columns}

pub loop-fp-init : goal.loop-fp-init
unfolding footprint_for
loop-fp-init c = refl

pub returns-then-height-rows : goal.returns-then-height-rows
returns-then-height-rows c =
    sym (found_at _ _ _ (omega arith) c.width.ensures c.height.ensures c.if-width-columns.true c.if-height-rows.true) ∙ c.loop-fp.invariant

pub loop-fp-preserved : goal.loop-fp-preserved
loop-fp-preserved c =
    elim c.else-width-columns.branch [
      | else-width-columns-via-then-width-columns+else-height-rows w ↦
          sym (not_high _ _ _ (omega arith) c.width.ensures w.height.ensures w.if-width-columns.true w.if-height-rows.false) ∙ c.loop-fp.invariant
      | else-width-columns-via-else-width-columns w ↦ sym (not_wide _ _ _ (omega arith) c.width.ensures w.if-width-columns.false) ∙ c.loop-fp.invariant
    ]

pub returns : goal.returns
returns c = sym (nowhere _ _ _ (omega arith)) ∙ c.loop-fp.invariant
