use mathlib.Core.Path.{◌≡◌, ap, ◌∙◌}
use mathlib.Core.List.{[], ◌∷◌}
use Prim.Native.Nat.{ℕ, ◌+◌, ◌-◌, ◌<◌}
use native.Mathlib.Omega.{arith}
use lib.ListN.{length, get_or, take}
use Rattle.encoding.specs.declared.Encoding.TheVariants.{Trits}
use Rattle.integer_sequence.specs.Writing.{packed, values}
use Rattle.sequence_words.specs.inner.Words.{Absent}
use Rattle.sequence_words.proofs.Numbers.{written_length, listed, five_same, past_absent, past_end}
use borrow.Author.Rules.{rules}
use Rattle.sequence_words.proofs.last_trits.Goals as goal
use Rattle.sequence_words.proofs.last_trits.Goals.{After-number_at-x3, Start}

written : (c : Start) → length (take c.args.n (values c.args.xs)) ≡ c.args.n
written c = written_length c.args.xs c.args.n (search rules) c.requires.2

-- the numbers that are there, and zeros
rest : (c : After-number_at-x3) → let a = c.args in let ds = c.number_at-x0.result ∷ c.number_at-x1.result ∷ c.number_at-x2.result ∷ c.number_at-x3.result ∷ 0 ∷ [] in
    ((k : ℕ) → k < 5 → get_or ds k 0 ≡ get_or (take a.n (values a.xs)) (a.i + k) 0) × Absent (a.n - a.i) ds
rest c =
    let a = c.args in
    let xs = take a.n (values a.xs) in
    let len : length xs ≡ a.n = written c.before.before.before.before in
    let same = five_same xs a.i c.number_at-x0.ensures.0 c.number_at-x1.ensures.0 c.number_at-x2.ensures.0 c.number_at-x3.ensures.0 (past_end xs (a.i + 4) (omega (arith, len))) in
    (same, past_absent xs (c.number_at-x0.result ∷ c.number_at-x1.result ∷ c.number_at-x2.result ∷ c.number_at-x3.result ∷ 0 ∷ []) a.i (a.n - a.i) 5 (omega (arith, len)) (omega arith) same)

pub cut_trits-requires : goal.cut_trits-requires
cut_trits-requires c = (omega arith, omega arith, omega arith, (rest c).1)

pub returns : goal.returns
returns c =
    let a = c.args in
    let xs = take a.n (values a.xs) in
    c.cut_trits.ensures
    ∙ ap (packed Trits a.b)
    (listed xs (c.number_at-x0.result ∷ c.number_at-x1.result ∷ c.number_at-x2.result ∷ c.number_at-x3.result ∷ 0 ∷ []) a.i (a.n - a.i) 5 (omega (arith, written c.before.before.before.before.before)) (omega arith) (λ k h. (rest c.before).0 k (omega arith)))
