-- Each arm's words give the levels of its range, by one computed table each.
use mathlib.Core.Path.{refl}
use mathlib.Core.Bool.{false}
use mathlib.Core.List.{List, [], ◌∷◌}
use Prim.Native.Nat.{ℕ}
use native.Mathlib.Decide.{dec_lt}
use native.Mathlib.Omega.{arith}
use Rattle.laws.specs.Table.{tab}
use Rattle.quantization.specs.inner.Words.{by_words}
use Rattle.quantization.specs.Unquantise.{unquant_weight}
use Rattle.quantization.proofs.Arms.{rest}
use Rattle.quantization.proofs.Levels.{right_words, no_words}
use Rattle.quantization.proofs.weight_words.Goals as goal

abbrev keys : List ℕ
keys = 11 ∷ 10 ∷ 9 ∷ 8 ∷ 7 ∷ 6 ∷ 5 ∷ 4 ∷ 3 ∷ 2 ∷ 1 ∷ 0 ∷ []

pub returns-in-0 : goal.returns-in-0
unfolding tab by_words unquant_weight
returns-in-0 c = rw c.in-0.is (right_words 0 _ (omega arith) refl)

pub returns-in-1 : goal.returns-in-1
unfolding tab by_words unquant_weight
returns-in-1 c = rw c.in-1.is (right_words 1 _ (omega arith) refl)

pub returns-in-2 : goal.returns-in-2
unfolding tab by_words unquant_weight
returns-in-2 c = rw c.in-2.is (right_words 2 _ (omega arith) refl)

pub returns-in-3 : goal.returns-in-3
unfolding tab by_words unquant_weight
returns-in-3 c = rw c.in-3.is (right_words 3 _ (omega arith) refl)

pub returns-in-4 : goal.returns-in-4
unfolding tab by_words unquant_weight
returns-in-4 c = rw c.in-4.is (right_words 4 _ (omega arith) refl)

pub returns-in-5 : goal.returns-in-5
unfolding tab by_words unquant_weight
returns-in-5 c = rw c.in-5.is (right_words 5 _ (omega arith) refl)

pub returns-in-6 : goal.returns-in-6
unfolding tab by_words unquant_weight
returns-in-6 c = rw c.in-6.is (right_words 6 _ (omega arith) refl)

pub returns-in-7 : goal.returns-in-7
unfolding tab by_words unquant_weight
returns-in-7 c = rw c.in-7.is (right_words 7 _ (omega arith) refl)

pub returns-in-8 : goal.returns-in-8
unfolding tab by_words unquant_weight
returns-in-8 c = rw c.in-8.is (right_words 8 _ (omega arith) refl)

pub returns-in-9 : goal.returns-in-9
unfolding tab by_words unquant_weight
returns-in-9 c = rw c.in-9.is (right_words 9 _ (omega arith) refl)

pub returns-in-10 : goal.returns-in-10
unfolding tab by_words unquant_weight
returns-in-10 c = rw c.in-10.is (right_words 10 _ (omega arith) refl)

pub returns-in-11 : goal.returns-in-11
unfolding tab by_words unquant_weight
returns-in-11 c = rw c.in-11.is (right_words 11 _ (omega arith) refl)

pub returns-in_default : goal.returns-in_default
returns-in_default c =
    let k = c.args.range in
    elim (dec_lt k 12) [
      | yes p ↦ absurd (rest (λ j. false) keys 12 tt k p c.in_default.in_default-own.rest)
      | no p ↦ no_words k (omega arith)
    ]
