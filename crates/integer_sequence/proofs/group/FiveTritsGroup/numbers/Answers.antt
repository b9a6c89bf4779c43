use Rattle.integer_sequence.proofs.Groups.{narrow_trits}
use Rattle.integer_sequence.proofs.group.FiveTritsGroup.numbers.Goals as goal

pub trit_group-requires : goal.trit_group-requires
trit_group-requires c = narrow_trits _ c.requires
