use mathlib.Core.Path.{◌∙◌}
use Rattle.laws.specs.Table.{tab}
use Rattle.astc_numbers.proofs.Laws.{write_kept, write_bytes_lem, write_value, told_bytes}
use Rattle.astc_numbers.proofs.write_numbers.Goals as goal

pub returns-then-header-ne16 : goal.returns-then-header-ne16
returns-then-header-ne16 c = record {
  value = write_value _ _ _ _ _ c.write_header-written.ensures.answer c.then_five-number.ensures;
  header_after = write_kept _ _ _ _ c.if-header-ne16.true;
}

pub returns : goal.returns
unfolding tab
returns c = record {
  value = write_value _ _ _ _ _ c.write_header-written.ensures.answer c.then_five-number.ensures;
  header_after = c.put_block.ensures ∙ c.unwrap_or.ensures ∙ told_bytes _ _ _ _ c.write_header-written.ensures.answer ∙ write_bytes_lem _ _ _ _ c.if-header-ne16.false;
}
