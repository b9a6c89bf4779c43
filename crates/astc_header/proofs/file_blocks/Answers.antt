use mathlib.Core.Path.{◌∙◌}
use borrow.Author.Rules.{rules}
use Rattle.astc_header.proofs.Refusals.{no_blocks, its_blocks, part_all, taken}
use Rattle.astc_header.proofs.file_blocks.Goals as goal

pub slice_bounds-result-count : goal.slice_bounds-result-count
slice_bounds-result-count c = (taken _ c.in-Ok.ensures.answer.0).form.long

pub slice_bounds-result-start : goal.slice_bounds-result-start
slice_bounds-result-start c = let k = (taken _ c.in-Ok.ensures.answer.0).form.long in search rules

pub returns-in-Err : goal.returns-in-Err
returns-in-Err c = no_blocks _ _ c.in-Err.ensures.answer

pub returns-in-Ok : goal.returns-in-Ok
returns-in-Ok c = let z = c.in-Ok.ensures.answer.0 in part_all _ z ∙ its_blocks _ z
