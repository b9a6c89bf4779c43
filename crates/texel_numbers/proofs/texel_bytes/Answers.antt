use mathlib.Core.Path.{refl}
use Rattle.texel_numbers.proofs.texel_bytes.Goals as goal

pub put_bytes-requires : goal.put_bytes-requires
put_bytes-requires c = c.asked_at-answer.ensures.1.bytes refl
