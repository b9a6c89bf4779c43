use mathlib.Core.Path.{sym, ◌∙◌}
use mathlib.Core.List.{[], ◌∷◌}
use lib.ListN.{get_or}
use Rattle.encoding.specs.inner.Levels.{first_level, second_level}
use Rattle.weight_grid.specs.Cell.{level}
use Rattle.half_pair.specs.Pair.{no_half, half_table_of}
use Rattle.half_line.proofs.Line.{half_line_lem}
use Rattle.partition_texel.proofs.Partition.{of_halves, of_bytes}
use Rattle.partition_texel.proofs.own_texel.Goals as goal

pub returns-then-takes_hdr : goal.returns-then-takes_hdr
returns-then-takes_hdr c =
    let q = c.before.before.before in
    let t = q.before.before in
    let a = t.args in
    c.mix_half.ensures
    ∙ rw (c.half_line.ensures, q.half_table-q.ensures) (half_line_lem (get_or (half_table_of (a.mode ∷ 0 ∷ 0 ∷ 0 ∷ []) 1 a.levels) 0 no_half) (level (first_level a.weights)) (level (second_level a.weights)) a.component)
    ∙ of_halves _ _ _ _ _ _ _ a.kind (sym t.takes_hdr.ensures ∙ q.if-takes_hdr.true)

pub returns-else-takes_hdr : goal.returns-else-takes_hdr
returns-else-takes_hdr c =
    let e = c.before.before in
    let t = e.before in
    let a = t.args in
    c.pair_texel.ensures ∙ rw t.endpoint_table-t.ensures (of_bytes _ _ _ _ _ _ _ a.kind (sym t.takes_hdr.ensures ∙ e.if-takes_hdr.false))
