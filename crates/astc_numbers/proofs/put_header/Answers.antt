use Rattle.byte_list.proofs.Tables.{three}
use Rattle.astc_numbers.proofs.put_header.Goals as goal

-- src/lib.rt:43:1
pub returns : goal.returns
returns c = three c.args.header.now _ _ _ c.requires
