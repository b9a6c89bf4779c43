use mathlib.Core.Path.{refl, ◌∙◌}
use mathlib.Core.List.{[], ◌∷◌}
use native.Mathlib.Omega.{arith}
use Rattle.encoding.specs.declared.Encoding.TheVariants.{Trits}
use Rattle.smallest_codes.proofs.Entries.{below_none, below_more, entry_code, no_code}
use borrow.Author.Rules.{rules}
use Rattle.smallest_codes.proofs.one_trit.Goals as goal

pub returns-then-d0-gt2 : goal.returns-then-d0-gt2
returns-then-d0-gt2 c = let a = c.args in no_code Trits (a.d0 ∷ []) 0 (omega arith) (omega arith) (omega arith)

pub returns : goal.returns
returns c =
    let a = c.args in
    c.wide.ensures ∙ entry_code Trits (a.d0 ∷ []) c.one_trit-table.ensures refl (omega arith) (omega arith)
    (below_more 3 a.d0 [] (omega arith) (below_none 3))
