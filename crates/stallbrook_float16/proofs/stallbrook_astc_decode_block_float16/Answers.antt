use mathlib.Core.Path.{◌∙◌}
use Rattle.block_answer.specs.Told.{number_told}
use Rattle.stallbrook_float16.proofs.stallbrook_astc_decode_block_float16.Goals as goal

pub returns : goal.returns
returns c = let d = c.decode_float16.ensures in record { value = c.number_told.ensures ∙ d.result_value; out_after = d.out_after }
