use Rattle.interpolation.specs.Expansion.{replicated, centred}
use Rattle.partition_texel.proofs.expanded.Goals as goal

pub returns-in-Unorm16 : goal.returns-in-Unorm16
unfolding replicated
returns-in-Unorm16 c = rw (c.in-Unorm16.is, c.wide.ensures.0)

pub returns-in-Srgb8 : goal.returns-in-Srgb8
unfolding centred
returns-in-Srgb8 c = rw (c.in-Srgb8.is, c.wide-in-Srgb8.ensures.0)

pub returns-in-Float16 : goal.returns-in-Float16
unfolding replicated
returns-in-Float16 c = rw (c.in-Float16.is, c.wide-in-Float16.ensures.0)
