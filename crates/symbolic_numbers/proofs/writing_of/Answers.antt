use mathlib.Core.Path.{sym, ap, ◌∙◌}
use Rattle.laws.specs.Table.{tab, tab_from}
use Rattle.symbolic_block.specs.Refusals.{refusal_of}
use Rattle.symbolic_refusal.specs.inner.Stages.{or34}
use Rattle.symbolic_calls.specs.Writing.{wrote_nothing, writing_of}
use Rattle.symbolic_numbers.specs.Numbers.{block_from}
use Rattle.symbolic_clip.proofs.Clip.{written_clipped, refused_clipped}
use Rattle.symbolic_numbers.proofs.Laws.{from_sized, from_clipped, from_fits}
use Rattle.symbolic_numbers.proofs.writing_of.Goals as goal

pub returns-then-endpoints_fit : goal.returns-then-endpoints_fit
returns-then-endpoints_fit c =
    let w = c.before.before in
    let a = w.args in
    let ns = a.numbers.now in
    w.write_symbolic-written.ensures.value
    ∙ ap (writing_of a.footprint) (w.block_from.ensures ∙ from_clipped ns)
    ∙ written_clipped a.footprint (block_from ns) (from_sized ns) (sym (from_fits ns) ∙ sym c.endpoints_fit.ensures ∙ c.if-endpoints_fit.true)

pub returns : goal.returns
unfolding tab tab_from
returns c =
    let e = c.before.before in
    let w = e.before.before in
    let a = w.args in
    let ns = a.numbers.now in
    ap wrote_nothing
    (c.or_34.ensures
    ∙ ap or34 (c.number_told.ensures ∙ w.write_symbolic-written.ensures.answer_value ∙ ap (refusal_of a.footprint) (w.block_from.ensures ∙ from_clipped ns)))
    ∙ refused_clipped a.footprint (block_from ns) (from_sized ns) (sym (from_fits ns) ∙ sym e.endpoints_fit.ensures ∙ e.if-endpoints_fit.false)
