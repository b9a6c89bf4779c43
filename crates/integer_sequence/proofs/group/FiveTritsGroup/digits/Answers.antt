use Rattle.integer_sequence.proofs.Groups.{narrow_trits}
use Rattle.integer_sequence.proofs.group.FiveTritsGroup.digits.Goals as goal

pub trit_code-requires : goal.trit_code-requires
trit_code-requires c = narrow_trits _ c.requires
