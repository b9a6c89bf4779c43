use mathlib.Core.Path.{◌≡◌, ap, ◌∙◌}
use mathlib.Core.List.{[], ◌∷◌}
use Prim.Native.Nat.{ℕ, ◌+◌, ◌-◌, ◌<◌}
use native.Mathlib.Omega.{arith}
use lib.ListN.{length, get_or, take}
use Rattle.encoding.specs.declared.Encoding.TheVariants.{Quints}
use Rattle.integer_sequence.specs.Writing.{packed, values}
use Rattle.sequence_words.specs.inner.Words.{Absent}
use Rattle.sequence_words.proofs.Numbers.{written_length, listed, three_same, past_absent, past_end}
use borrow.Author.Rules.{rules}
use Rattle.sequence_words.proofs.last_quints.Goals as goal
use Rattle.sequence_words.proofs.last_quints.Goals.{After-number_at-x1, Start}

written : (c : Start) → length (take c.args.n (values c.args.xs)) ≡ c.args.n
written c = written_length c.args.xs c.args.n (search rules) c.requires.2

-- the numbers that are there, and zeros
rest : (c : After-number_at-x1) → let a = c.args in let ds = c.number_at-x0.result ∷ c.number_at-x1.result ∷ 0 ∷ [] in
    ((k : ℕ) → k < 3 → get_or ds k 0 ≡ get_or (take a.n (values a.xs)) (a.i + k) 0) × Absent (a.n - a.i) ds
rest c =
    let a = c.args in
    let xs = take a.n (values a.xs) in
    let len : length xs ≡ a.n = written c.before.before in
    let same = three_same xs a.i c.number_at-x0.ensures.0 c.number_at-x1.ensures.0 (past_end xs (a.i + 2) (omega (arith, len))) in
    (same, past_absent xs (c.number_at-x0.result ∷ c.number_at-x1.result ∷ 0 ∷ []) a.i (a.n - a.i) 3 (omega (arith, len)) (omega arith) same)

pub cut_quints-requires : goal.cut_quints-requires
cut_quints-requires c = (omega arith, omega arith, omega arith, (rest c).1)

pub returns : goal.returns
returns c =
    let a = c.args in
    let xs = take a.n (values a.xs) in
    c.cut_quints.ensures
    ∙ ap (packed Quints a.b)
    (listed xs (c.number_at-x0.result ∷ c.number_at-x1.result ∷ 0 ∷ []) a.i (a.n - a.i) 3 (omega (arith, written c.before.before.before)) (omega arith) (λ k h. (rest c.before).0 k (omega arith)))
