use mathlib.Core.Path.{◌∙◌}
use Rattle.stallbrook_unorm16.proofs.stallbrook_astc_decode_block_unorm16.Goals as goal

pub returns : goal.returns
returns c = let d = c.decode_unorm16.ensures in record { value = c.number_told.ensures ∙ d.result_value; out_after = d.out_after }
