use mathlib.Core.Path.{sym, ◌∙◌}
use Rattle.block_levels.specs.inner.Lines.{lines_by}
use Rattle.block_levels.proofs.Levels.{lines_same}
use Rattle.block_levels.proofs.table_lines.Goals as goal

pub returns-then-takes_hdr : goal.returns-then-takes_hdr
unfolding lines_by
returns-then-takes_hdr c = rw (sym c.takes_hdr.ensures ∙ c.if-takes_hdr.true, c.half_lines.ensures, c.half_table.ensures)

pub returns-else-takes_hdr : goal.returns-else-takes_hdr
unfolding lines_by
returns-else-takes_hdr c =
    let t = c.before.before.before in
    rw (sym t.takes_hdr.ensures ∙ c.if-takes_hdr.false) (lines_same _ _ _ c.filled.ensures t.endpoint_table-t.ensures c.pair_lines.ensures)
