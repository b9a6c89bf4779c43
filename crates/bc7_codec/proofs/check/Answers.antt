use mathlib.Core.Path.{sym, ◌∙◌}
use native.Mathlib.Omega.{arith}
use Rattle.bc7_codec.proofs.Whole.{all_fields, refused_mode, refused_none, refused_field}
use Rattle.bc7_codec.proofs.check.Goals as goal

pub returns-then-s-gt7 : goal.returns-then-s-gt7
returns-then-s-gt7 c = refused_mode _ c.if-s-gt7.true

pub returns-then-all_fit : goal.returns-then-all_fit
returns-then-all_fit c = refused_none _ (omega arith) (sym (all_fields _ _ c.fields_of-f.ensures) ∙ sym c.all_fit.ensures ∙ c.if-all_fit.true)

pub returns : goal.returns
returns c = refused_field _ (omega arith) (sym (all_fields _ _ c.fields_of-f.ensures) ∙ sym c.all_fit.ensures ∙ c.if-all_fit.false)
