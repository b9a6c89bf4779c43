use mathlib.Core.Path.{◌≡◌, sym, ap, ◌∙◌}
use mathlib.Core.List.{[], ◌∷◌}
use Prim.Native.Nat.{◌+◌}
use native.Mathlib.Omega.{arith}
use lib.ListN.{length}
use Rattle.encoding.specs.declared.Encoding.TheVariants.{Trits}
use Rattle.integer_sequence.specs.Writing.{packed, values}
use Rattle.integer_sequence.proofs.Search.{value_at}
use Rattle.sequence_words.proofs.Numbers.{values_length, listed, five_same}
use borrow.Author.Rules.{rules}
use Rattle.sequence_words.proofs.five_trits.Goals as goal
use Rattle.sequence_words.proofs.five_trits.Goals.{Start}

sized : (c : Start) → length c.args.xs ≡ 64
sized c = search rules

pub returns : goal.returns
returns c =
    let a = c.args in
    let xs = values a.xs in
    c.whole_trits.ensures
    ∙ ap (packed Trits a.b)
    (listed xs (c.value-x0.result ∷ c.value-x1.result ∷ c.value-x2.result ∷ c.value-x3.result ∷ c.value-x4.result ∷ []) a.i 5 5 (omega (arith, values_length a.xs (sized c.before.before.before.before.before.before.before.before.before.before.before))) (omega arith)
    (five_same xs a.i (c.value-x0.ensures.0 ∙ sym (value_at a.xs a.i)) (c.value-x1.ensures.0 ∙ sym (value_at a.xs (a.i + 1))) (c.value-x2.ensures.0 ∙ sym (value_at a.xs (a.i + 2))) (c.value-x3.ensures.0 ∙ sym (value_at a.xs (a.i + 3))) (c.value-x4.ensures.0 ∙ sym (value_at a.xs (a.i + 4)))))
