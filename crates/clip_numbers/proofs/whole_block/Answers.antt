use Rattle.std.proofs.Common.{◌∷◌, get_or, ap, ◌∙◌}
use Rattle.clip_frame.specs.declared.Frame.{Frame}
use Rattle.clip.specs.Step.{past}
use Rattle.clip.specs.Frames.{waits}
use Rattle.clip_numbers.specs.Numbers.{state_numbers, handed_block_numbers}
use Rattle.clip_numbers.proofs.Lists.{whole_state, whole_bytes, whole_told, whole_number}
use Rattle.clip_numbers.proofs.whole_block.Goals as goal

pub returns : goal.returns
returns c = let o = c.before.before.before.before.before.before.before.before.before.before.before.before.before.before.before.before.before.before.before.before.before.before.before in
    let s = o.args.state.now in
    let p = o.args.piece.now in
    let e0 = o.requires.state_value.0 in
    let e2 = o.requires.state_value.1 in
    let l = o.requires.state_value.2 in
    let f = c.frame_of-f.ensures in record { state_after = whole_state s p e0 e2 l (c.put_numbers.ensures ∙ c.next_numbers-next.ensures ∙ ap (λ (g : Frame). state_numbers (past (waits (get_or s 3 0) (get_or s 4 0) (get_or s 5 0) g))) f); block_after = whole_bytes s p e0 e2 l (c.put_block.ensures ∙ c.first_block.ensures); told_after = whole_told s p e0 e2 l (c.put_told.ensures ∙ c.block_told.ensures ∙ ap (λ (g : Frame). 16 ∷ handed_block_numbers (get_or s 3 0) (get_or s 4 0) g) f); value = whole_number s p e0 e2 l }
