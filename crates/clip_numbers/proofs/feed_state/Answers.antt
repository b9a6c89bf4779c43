use Rattle.std.proofs.Common.{ap, ◌∙◌}
use Rattle.clip.specs.declared.Clip.{Clip}
use Rattle.clip.specs.declared.Fed.{Fed}
use Rattle.clip.specs.Feed.{feed_of}
use Rattle.clip_numbers.specs.Numbers.{state_numbers, feed_numbers, event_number, event_bytes}
use Rattle.clip_numbers.proofs.feed_state.Goals as goal

pub returns : goal.returns
unfolding feed_numbers
returns c = let a = c.args in
    let e = c.feed-fed.ensures ∙ ap (λ (k : Clip). feed_of k a.piece.now) c.clip_of.ensures in record { value = c.number_in.ensures ∙ ap (λ (f : Fed). event_number f.event) e; state_after = c.put_numbers.ensures ∙ c.numbers_of.ensures ∙ ap (λ (f : Fed). state_numbers f.clip) e; block_after = c.put_block.ensures ∙ c.bytes_in.ensures ∙ ap (λ (f : Fed). event_bytes f.event) e; told_after = c.put_told.ensures ∙ c.event_told.ensures ∙ ap feed_numbers e }
