use Rattle.std.proofs.Common.{◌≡◌, length}
use Rattle.clip_reader.proofs.Feeding.{whole_returned}
use Rattle.clip_reader.proofs.whole_block.Goals as goal
use Rattle.clip_reader.proofs.whole_block.Goals.{After-first_block}

long_enough : (c : After-first_block) → length c.args.c.held ≡ 16
long_enough c = c.well_formed.0.1.1.1.1.0.1.0.1

pub returns : goal.returns
returns c = let o = c in
    whole_returned o.args.c o.args.piece.now o.requires.0 o.requires.1 (long_enough c) o.requires.2 c.pass.ensures c.first_block.ensures
