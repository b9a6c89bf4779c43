use Rattle.byte_list.proofs.Tables.{three}
use Rattle.image_numbers.proofs.put_tally.Goals as goal

pub returns : goal.returns
returns c = three c.args.tally.now _ _ _ c.requires
