use Rattle.std.proofs.Common.{◌≡◌, refl, sym, ◌∙◌, arith}
use Rattle.reason.proofs.Answers.{refused_is, accepted}
use Rattle.clip_numbers.proofs.Lists.{lengths, refused_number, refused_state, refused_block, refused_told, fed_number, fed_state, fed_block, fed_told}
use Rattle.clip_numbers.proofs.feed_numbers.Goals as goal

pub returns-in-Err : goal.returns-in-Err
returns-in-Err c = let a = c.args in
    let k = refused_is c.in-Err.is c.check_feed.ensures in
    let e = c.into.ensures ∙ sym k.0 in
    let h = λ (z : c.into.result ≡ 0). k.1 (sym e ∙ z) in record { value = refused_number a.state.now a.piece.now a.block.now a.told.now e h; state_after = refused_state a.state.now a.piece.now a.block.now a.told.now e h; block_after = refused_block a.state.now a.piece.now a.block.now a.told.now e h; told_after = refused_told a.state.now a.piece.now a.block.now a.told.now e h }

pub whole_block-requires : goal.whole_block-requires
whole_block-requires c = record { state_len = lengths _ _ _ (sym (accepted c.in_default.is c.check_feed.ensures)); state_value = c.is_whole.ensures c.if-is_whole.true }

pub returns-then-is_whole : goal.returns-then-is_whole
returns-then-is_whole c = let a = c.args in
    let e = accepted c.in_default.is c.check_feed.ensures in
    let d = c.whole_block.ensures in record { value = fed_number a.state.now a.piece.now a.block.now a.told.now e refl d.value; state_after = fed_state a.state.now a.piece.now a.block.now a.told.now e refl d.state_after; block_after = fed_block a.state.now a.piece.now a.block.now a.told.now e refl d.block_after; told_after = fed_told a.state.now a.piece.now a.block.now a.told.now e refl d.told_after }

pub feed_state-requires : goal.feed_state-requires
feed_state-requires c = lengths _ _ _ (sym (accepted c.in_default.is c.check_feed.ensures))

pub returns : goal.returns
returns c = let a = c.args in
    let e = accepted c.in_default.is c.check_feed.ensures in
    let d = c.feed_state.ensures in record { value = fed_number a.state.now a.piece.now a.block.now a.told.now e refl d.value; state_after = fed_state a.state.now a.piece.now a.block.now a.told.now e refl d.state_after; block_after = fed_block a.state.now a.piece.now a.block.now a.told.now e refl d.block_after; told_after = fed_told a.state.now a.piece.now a.block.now a.told.now e refl d.told_after }

pub bounds-state-0 : goal.bounds-state-0
bounds-state-0 c = omega (arith, (lengths _ _ _ (sym (accepted c.in_default.is c.check_feed.ensures))).0)

pub bounds-state-2 : goal.bounds-state-2
bounds-state-2 c = omega (arith, (lengths _ _ _ (sym (accepted c.in_default.is c.check_feed.ensures))).0)
