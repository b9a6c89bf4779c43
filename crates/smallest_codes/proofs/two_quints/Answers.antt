use mathlib.Core.Path.{refl, ◌∙◌}
use mathlib.Core.List.{[], ◌∷◌}
use native.Mathlib.Omega.{arith}
use Rattle.encoding.specs.declared.Encoding.TheVariants.{Quints}
use Rattle.smallest_codes.proofs.Entries.{below_none, below_more, entry_code, no_code}
use borrow.Author.Rules.{rules}
use Rattle.smallest_codes.proofs.two_quints.Goals as goal

pub returns : goal.returns
returns c =
    let a = c.args in
    c.wide.ensures ∙ entry_code Quints (a.d0 ∷ a.d1 ∷ []) c.two_quints-table.ensures refl (omega arith) (omega arith)
    (below_more 5 a.d0 (a.d1 ∷ []) (omega arith) (below_more 5 a.d1 [] (omega arith) (below_none 5)))

pub returns-then-d0-gt4 : goal.returns-then-d0-gt4
returns-then-d0-gt4 c = let a = c.args in no_code Quints (a.d0 ∷ a.d1 ∷ []) 0 (omega arith) (omega arith) (omega arith)

pub returns-then-d1-gt4 : goal.returns-then-d1-gt4
returns-then-d1-gt4 c = let a = c.args in no_code Quints (a.d0 ∷ a.d1 ∷ []) 1 (omega arith) (omega arith) (omega arith)
