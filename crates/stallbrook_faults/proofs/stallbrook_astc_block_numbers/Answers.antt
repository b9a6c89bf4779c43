use Rattle.stallbrook_faults.specs.Calls.{block_number_count}
use Rattle.stallbrook_faults.proofs.stallbrook_astc_block_numbers.Goals as goal

pub returns : goal.returns
unfolding block_number_count
returns c = rw c.texels.ensures
