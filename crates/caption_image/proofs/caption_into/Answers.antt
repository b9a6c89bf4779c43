use Rattle.caption_image.proofs.Laws.{block_4, block_5, block_done}
use borrow.Author.Rules.{rules}
use Rattle.caption_image.proofs.caption_into.Goals as goal

pub returns-then-block-ne16 : goal.returns-then-block-ne16
returns-then-block-ne16 c = let it = block_4 _ _ _ _ c.if-block-ne16.true in record { value = it.0; block_after = it.1 }

pub returns-then-wanted-ne16 : goal.returns-then-wanted-ne16
returns-then-wanted-ne16 c = let it = block_5 _ _ _ _ c.if-block-ne16.false c.if-wanted-ne16.true in record { value = it.0; block_after = it.1 }

pub returns : goal.returns
returns c = let p = c in
    let k = p in
    let g = k in
    let e = g in let it = block_done _ _ _ _ e.if-block-ne16.false e.if-wanted-ne16.false g.gather-greys.ensures k.caption.ensures.value (search rules) p.put.ensures in record { value = it.0; block_after = it.1 }
