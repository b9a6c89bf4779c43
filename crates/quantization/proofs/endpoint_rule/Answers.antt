-- Each arm's rule gives the levels of its range, by one computed table each.
use mathlib.Core.Path.{refl}
use mathlib.Core.List.{List, [], ◌∷◌}
use Prim.Native.Nat.{ℕ}
use native.Mathlib.Decide.{dec_lt}
use native.Mathlib.Omega.{arith}
use lib.Dec.{ltb, ltb→lt}
use Rattle.laws.specs.Table.{tab}
use Rattle.quantization.specs.inner.Products.{by_rule}
use Rattle.quantization.specs.Unquantise.{unquant_endpoint}
use Rattle.quantization.proofs.Arms.{rest}
use Rattle.quantization.proofs.Levels.{right, no_endpoint_low, no_endpoint_high}
use Rattle.quantization.proofs.endpoint_rule.Goals as goal

abbrev keys : List ℕ
keys = 20 ∷ 19 ∷ 18 ∷ 17 ∷ 16 ∷ 15 ∷ 14 ∷ 13 ∷ 12 ∷ 11 ∷ 10 ∷ 9 ∷ 8 ∷ 7 ∷ 6 ∷ 5 ∷ 4 ∷ []

pub returns-in-4 : goal.returns-in-4
unfolding tab by_rule unquant_endpoint
returns-in-4 c = rw c.in-4.is (right (unquant_endpoint 4) _ refl)

pub returns-in-5 : goal.returns-in-5
unfolding tab by_rule unquant_endpoint
returns-in-5 c = rw c.in-5.is (right (unquant_endpoint 5) _ refl)

pub returns-in-6 : goal.returns-in-6
unfolding tab by_rule unquant_endpoint
returns-in-6 c = rw c.in-6.is (right (unquant_endpoint 6) _ refl)

pub returns-in-7 : goal.returns-in-7
unfolding tab by_rule unquant_endpoint
returns-in-7 c = rw c.in-7.is (right (unquant_endpoint 7) _ refl)

pub returns-in-8 : goal.returns-in-8
unfolding tab by_rule unquant_endpoint
returns-in-8 c = rw c.in-8.is (right (unquant_endpoint 8) _ refl)

pub returns-in-9 : goal.returns-in-9
unfolding tab by_rule unquant_endpoint
returns-in-9 c = rw c.in-9.is (right (unquant_endpoint 9) _ refl)

pub returns-in-10 : goal.returns-in-10
unfolding tab by_rule unquant_endpoint
returns-in-10 c = rw c.in-10.is (right (unquant_endpoint 10) _ refl)

pub returns-in-11 : goal.returns-in-11
unfolding tab by_rule unquant_endpoint
returns-in-11 c = rw c.in-11.is (right (unquant_endpoint 11) _ refl)

pub returns-in-12 : goal.returns-in-12
unfolding tab by_rule unquant_endpoint
returns-in-12 c = rw c.in-12.is (right (unquant_endpoint 12) _ refl)

pub returns-in-13 : goal.returns-in-13
unfolding tab by_rule unquant_endpoint
returns-in-13 c = rw c.in-13.is (right (unquant_endpoint 13) _ refl)

pub returns-in-14 : goal.returns-in-14
unfolding tab by_rule unquant_endpoint
returns-in-14 c = rw c.in-14.is (right (unquant_endpoint 14) _ refl)

pub returns-in-15 : goal.returns-in-15
unfolding tab by_rule unquant_endpoint
returns-in-15 c = rw c.in-15.is (right (unquant_endpoint 15) _ refl)

pub returns-in-16 : goal.returns-in-16
unfolding tab by_rule unquant_endpoint
returns-in-16 c = rw c.in-16.is (right (unquant_endpoint 16) _ refl)

pub returns-in-17 : goal.returns-in-17
unfolding tab by_rule unquant_endpoint
returns-in-17 c = rw c.in-17.is (right (unquant_endpoint 17) _ refl)

pub returns-in-18 : goal.returns-in-18
unfolding tab by_rule unquant_endpoint
returns-in-18 c = rw c.in-18.is (right (unquant_endpoint 18) _ refl)

pub returns-in-19 : goal.returns-in-19
unfolding tab by_rule unquant_endpoint
returns-in-19 c = rw c.in-19.is (right (unquant_endpoint 19) _ refl)

pub returns-in-20 : goal.returns-in-20
unfolding tab by_rule unquant_endpoint
returns-in-20 c = rw c.in-20.is (right (unquant_endpoint 20) _ refl)

pub returns-in_default : goal.returns-in_default
returns-in_default c =
    let k = c.args.range in
    elim (dec_lt k 21) [
      | yes p ↦ no_endpoint_low k (ltb→lt k 4 (rest (λ j. ltb j 4) keys 21 tt k p c.in_default.in_default-own.rest))
      | no p ↦ no_endpoint_high k (omega arith)
    ]
