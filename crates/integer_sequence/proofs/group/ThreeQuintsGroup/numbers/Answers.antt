use Rattle.integer_sequence.proofs.Groups.{narrow_quints}
use Rattle.integer_sequence.proofs.group.ThreeQuintsGroup.numbers.Goals as goal

pub quint_group-requires : goal.quint_group-requires
quint_group-requires c = narrow_quints _ c.requires
