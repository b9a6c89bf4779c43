use mathlib.Core.Path.{refl, sym, ap, ◌∙◌}
use Prim.Native.Nat.{ℕ, ◌+◌}
use mathlib.Core.List.{List}
use native.Mathlib.Omega.{arith}
use borrow.Author.Rules.{rules}
use lib.ListN.{length-set}
use Rattle.laws.specs.Table.{tab}
use Rattle.symbolic_numbers.specs.Numbers.{added_of}
use Rattle.symbolic_numbers.specs.inner.Numbers.{flat_at}
use Rattle.symbolic_numbers.proofs.Laws.{flat_by_position}
use Rattle.symbolic_numbers.proofs.Laid.{laid_none, laid_more, laid_4, all_laid}
use Rattle.symbolic_numbers.proofs.put.Goals as goal

pub settings_of-settings-requires : goal.settings_of-settings-requires
settings_of-settings-requires c = search rules

pub bounds-settings-i : goal.bounds-settings-i
bounds-settings-i c = omega arith

pub bounds-numbers-i : goal.bounds-numbers-i
bounds-numbers-i c = omega (arith, c.loop-i.invariant.1)

pub loop-i-preserved : goal.loop-i-preserved
loop-i-preserved c = let l = c.loop-i in (laid_more 0 l.i l.i _ _ l.numbers (omega arith) (omega (arith, l.invariant.1)) l.invariant.0 refl, length-set l.numbers l.i _ ∙ l.invariant.1)

pub bounds-numbers-j : goal.bounds-numbers-j
bounds-numbers-j c = omega (arith, c.loop-j.invariant.1)

pub loop-j-preserved : goal.loop-j-preserved
loop-j-preserved c = let l = c.loop-j in (laid_more 21 l.j (21 + l.j) _ _ l.numbers refl (omega (arith, l.invariant.1)) l.invariant.0 c.wide.ensures, length-set l.numbers (21 + l.j) _ ∙ l.invariant.1)

pub bounds-numbers-k : goal.bounds-numbers-k
bounds-numbers-k c = omega (arith, c.loop-k.invariant.1)

pub loop-k-preserved : goal.loop-k-preserved
loop-k-preserved c = let l = c.loop-k in (laid_more 39 l.k (39 + l.k) _ _ l.numbers refl (omega (arith, l.invariant.1)) l.invariant.0 c.wide-in-loop-k.ensures, length-set l.numbers (39 + l.k) _ ∙ l.invariant.1)

pub wide-requires-2 : goal.wide-requires-2
wide-requires-2 c = search rules

pub bounds-numbers-103 : goal.bounds-numbers-103
bounds-numbers-103 c = omega (arith, c.loop-k.invariant.1)

pub wide-requires-3 : goal.wide-requires-3
wide-requires-3 c = search rules

pub bounds-numbers-104 : goal.bounds-numbers-104
bounds-numbers-104 c = rw (length-set _ _ _, c.loop-k.invariant.1) (omega arith)

pub bounds-e-4 : goal.bounds-e-4
bounds-e-4 c = search rules

pub bounds-numbers-105 : goal.bounds-numbers-105
bounds-numbers-105 c = rw (length-set _ _ _, length-set _ _ _, c.loop-k.invariant.1) (omega arith)

pub bounds-e-5 : goal.bounds-e-5
bounds-e-5 c = search rules

pub bounds-numbers-106 : goal.bounds-numbers-106
bounds-numbers-106 c = rw (length-set _ _ _, length-set _ _ _, length-set _ _ _, c.loop-k.invariant.1) (omega arith)

pub shape_of-numbers : goal.shape_of-numbers
shape_of-numbers c = rw (length-set _ _ _, length-set _ _ _, length-set _ _ _, length-set _ _ _, c.loop-k.invariant.1) (sym c.requires)

pub returns : goal.returns
returns c =
    let w = c.before.before.before in
    let v = w.before.before.before.before.before.before.before.before in
    let s = v.args.s in
    all_laid v.settings_of-settings.result s.endpoints s.weights (added_of s) v.requires (omega arith) (omega arith) (omega arith)
    w.loop-i.invariant.0 w.loop-j.invariant.0 w.loop-k.invariant.0
    (laid_4 w.loop-k.numbers (added_of s) w.loop-k.invariant.1 c.wide-2.ensures c.wide-3.ensures)
    ∙ ap (λ (l : List ℕ). tab (flat_at l s.endpoints s.weights (added_of s)) 107) v.settings_of-settings.ensures
    ∙ flat_by_position s

pub loop-i-init : goal.loop-i-init
loop-i-init c = (laid_none 0 _ _, c.requires)

pub loop-j-init : goal.loop-j-init
loop-j-init c = (laid_none 21 _ _, c.loop-i.invariant.1)

pub loop-k-init : goal.loop-k-init
loop-k-init c = (laid_none 39 _ _, c.loop-j.invariant.1)
