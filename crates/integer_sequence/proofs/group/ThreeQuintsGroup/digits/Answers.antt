use Rattle.integer_sequence.proofs.Groups.{narrow_quints}
use Rattle.integer_sequence.proofs.group.ThreeQuintsGroup.digits.Goals as goal

pub quint_code-requires : goal.quint_code-requires
quint_code-requires c = narrow_quints _ c.requires
