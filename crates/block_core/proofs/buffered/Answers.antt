use mathlib.Core.Path.{sym}
use Rattle.block_core.proofs.buffered.Goals as goal

pub returns-in-Buffered : goal.returns-in-Buffered
returns-in-Buffered c = λ fault into old s. let z = rw c.in-Buffered.is at s in (sym z.0, z.1)
