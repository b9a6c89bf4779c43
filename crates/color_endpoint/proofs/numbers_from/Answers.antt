-- `color_endpoint::numbers_from` meets its contract.
use Rattle.color_endpoint.proofs.Laws.{eight}
use Rattle.color_endpoint.proofs.numbers_from.Goals as goal

pub returns : goal.returns
returns c =
    let d = c.before.before.before.before in
    rw (
      d.level_at.ensures,
      d.level_at-2.ensures,
      d.level_at-3.ensures,
      d.level_at-4.ensures,
      c.level_at-5.ensures,
      c.level_at-6.ensures,
      c.level_at-7.ensures,
      c.level_at-8.ensures,
    )
    (eight _ _)
