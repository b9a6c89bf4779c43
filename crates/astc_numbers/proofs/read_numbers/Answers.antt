use mathlib.Core.Path.{ap, ◌∙◌}
use Rattle.astc_numbers.specs.Numbers.{header_numbers}
use Rattle.astc_numbers.proofs.Laws.{read_kept, read_told, read_value}
use Rattle.astc_numbers.proofs.read_numbers.Goals as goal

pub returns-then-header-ne3 : goal.returns-then-header-ne3
returns-then-header-ne3 c = record {
  value = read_value _ _ _ c.read_header-answer.ensures.answer c.then_five-number.ensures;
  header_after = read_kept _ _ c.if-header-ne3.true;
}

pub returns : goal.returns
returns c = record {
  value = read_value _ _ _ c.read_header-answer.ensures.answer c.then_five-number.ensures;
  header_after = c.put_header.ensures ∙ c.header_told.ensures ∙ ap header_numbers c.read_header-answer.ensures.told ∙ read_told _ _ c.if-header-ne3.false;
}
