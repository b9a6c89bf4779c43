use Rattle.line_text.proofs.shown.Goals as goal

pub returns-in-Unorm16 : goal.returns-in-Unorm16
returns-in-Unorm16 c = rw c.in-Unorm16.is

pub returns-in-Srgb8 : goal.returns-in-Srgb8
returns-in-Srgb8 c = rw c.in-Srgb8.is

pub returns-in-Float16 : goal.returns-in-Float16
returns-in-Float16 c = rw c.in-Float16.is
