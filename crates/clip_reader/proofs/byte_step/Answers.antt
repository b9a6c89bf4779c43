use Rattle.clip.specs.declared.Phase.{Phase}
use Rattle.std.proofs.Common.{sym, ap, ◌∙◌}
use Rattle.clip.specs.Step.{step_in, step_of}
use Rattle.clip_reader.proofs.byte_step.Goals as goal

-- src/lib.rt:306:1
pub returns-in-Version : goal.returns-in-Version
unfolding step_of
returns-in-Version c = let a = c.args in
    c.version_step.ensures ∙ ap (λ (q : Phase). step_in q a.c a.b) (sym c.in-Version.is)

-- src/lib.rt:306:1
pub returns-in-Header : goal.returns-in-Header
unfolding step_of
returns-in-Header c = let a = c.args in
    c.header_step.ensures ∙ ap (λ (q : Phase). step_in q a.c a.b) (sym c.in-Header.is)

-- src/lib.rt:306:1
pub returns-in-Blocks : goal.returns-in-Blocks
unfolding step_of
returns-in-Blocks c = let a = c.args in
    c.block_step.ensures ∙ ap (λ (q : Phase). step_in q a.c a.b) (sym c.in-Blocks.is)

-- src/lib.rt:306:1
pub returns-in-Over : goal.returns-in-Over
unfolding step_of
returns-in-Over c = let a = c.args in
    c.quiet.ensures ∙ ap (λ (q : Phase). step_in q a.c a.b) (sym c.in-Over.is)
