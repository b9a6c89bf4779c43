use Rattle.bc7_calls.proofs.Laws.{bytes_wrong, places_wrong, none_wrong}
use Rattle.bc7_calls.proofs.check.Goals as goal

pub returns-then-bytes-ne16 : goal.returns-then-bytes-ne16
returns-then-bytes-ne16 c = bytes_wrong _ _ c.if-bytes-ne16.true

pub returns-then-places-ne64 : goal.returns-then-places-ne64
returns-then-places-ne64 c = places_wrong _ _ c.if-bytes-ne16.false c.if-places-ne64.true

pub returns : goal.returns
returns c = none_wrong _ _ c.if-bytes-ne16.false c.if-places-ne64.false
