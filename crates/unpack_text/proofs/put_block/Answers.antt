use mathlib.Core.Path.{refl, sym, ◌∙◌}
use Rattle.footprint.proofs.Laws.{flat}
use Rattle.bits.specs.Block.{number_of, block_number}
use Rattle.laws.specs.Table.{Bytes}
use Rattle.block_core.proofs.Shows.{held}
use Rattle.bits.proofs.Halves.{loaded}
use Rattle.unpack_text.specs.Text.{block_text}
use Rattle.line_text.specs.inner.Written.{Puts}
use Rattle.line_text.proofs.Laws.{puts_then, puts_as}
use Rattle.unpack_text.proofs.Laws.{block_text_lem}
use Rattle.unpack_text.proofs.put_block.Goals as goal
use Rattle.unpack_text.proofs.put_block.Goals.{After-slice_known-3-1}

whole : (c : After-slice_known-3-1) → let a = c.args in Puts a.out.now 0 (block_text a.fp a.kind (number_of a.block.now)) c.put_texels.new.out c.put_texels.result
whole c =
    let s = c in
    let d = c.decode_into-fault.ensures in
    let bytes : Bytes s.args.block.now = λ i. (c.shared_slice_known-1.given i).fits in
    let e = c.load.ensures ∙ loaded s.args.block.now bytes s.requires.out_len.1 in
    puts_as (block_text_lem s.args.fp s.args.kind (block_number c.load.result) (number_of s.args.block.now) _ e d.value (held _ _ _ _ _ refl (d.out_after refl)))
    (puts_then c.put_told-end.ensures.puts c.put_texels.ensures)

pub returns : goal.returns
returns c = whole c

pub decode_into-fault-requires : goal.decode_into-fault-requires
decode_into-fault-requires c = sym (flat _ c.requires.fp_bound)

pub shape_of-out : goal.shape_of-out
shape_of-out c = (whole c).same
