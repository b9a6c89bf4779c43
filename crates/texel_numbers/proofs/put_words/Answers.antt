use Rattle.texel_numbers.proofs.Put.{put_four_lem, put_none}
use Rattle.texel_numbers.proofs.put_words.Goals as goal

pub returns-then-out-eq4 : goal.returns-then-out-eq4
returns-then-out-eq4 c = rw c.texel_of-t.ensures (put_four_lem _ _ c.if-out-eq4.true)

pub returns-else-out-eq4 : goal.returns-else-out-eq4
returns-else-out-eq4 c = put_none _ _ c.if-out-eq4.false
