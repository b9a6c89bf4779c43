use mathlib.Core.Path.{ap, ◌∙◌}
use Rattle.block_answer.specs.Told.{number_told}
use Rattle.stallbrook_strict.proofs.stallbrook_astc_canonical_block.Goals as goal

pub returns : goal.returns
returns c = let d = c.canonical_block.ensures in record { value = c.number_told.ensures ∙ ap number_told d.value; out_after = d.out_after }
