use mathlib.Core.Path.{ap, ◌∙◌}
use borrow.Author.Tests.{eq-eqb, ne_eqb}
use Rattle.partition.specs.declared.Seeds.{Seeds}
use Rattle.partition.specs.inner.Seeds.{select_by}
use Rattle.one_texel.proofs.partition_of.Goals as goal

pub returns-then-partitions-eq1 : goal.returns-then-partitions-eq1
returns-then-partitions-eq1 c = rw (eq-eqb _ 1 c.if-partitions-eq1.true)

pub returns : goal.returns
returns c = let i = c.before.before in let a = i.args in rw (ne_eqb _ 1 i.if-partitions-eq1.false) (c.partition_at.ensures.value ∙ ap (λ (s : Seeds). select_by s a.x a.y) c.partition_seeds.ensures.value)
