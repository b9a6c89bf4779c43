use mathlib.Core.Path.{◌≡◌, sym, ap, ◌∙◌}
use mathlib.Core.List.{List, [], ◌∷◌, map}
use Prim.Native.Nat.{ℕ, ◌/◌, ◌^◌}
use native.Mathlib.Omega.{arith}
use lib.ListN.{take}
use Rattle.encoding.specs.declared.Encoding.TheVariants.{Trits}
use Rattle.integer_sequence.specs.Writing.{code_of}
use Rattle.sequence_words.proofs.cut_trit_code.Goals as goal

taken : (b m k : ℕ) (xs : List ℕ) {code : ℕ} → m ≡ k → code ≡ code_of Trits (map (λ x. x / 2 ^ b) (take k xs)) → code ≡ code_of Trits (map (λ x. x / 2 ^ b) (take m xs))
taken b m k xs e q = q ∙ ap (λ (j : ℕ). code_of Trits (map (λ x. x / 2 ^ b) (take j xs))) (sym e)

pub returns-then-m-eq4 : goal.returns-then-m-eq4
returns-then-m-eq4 c = let a = c.args in taken a.b a.m 4 (a.x0 ∷ a.x1 ∷ a.x2 ∷ a.x3 ∷ 0 ∷ []) (omega arith) c.four_trits.ensures

pub returns-then-m-eq3 : goal.returns-then-m-eq3
returns-then-m-eq3 c = let a = c.args in taken a.b a.m 3 (a.x0 ∷ a.x1 ∷ a.x2 ∷ a.x3 ∷ 0 ∷ []) (omega arith) c.three_trits.ensures

pub returns-then-m-eq2 : goal.returns-then-m-eq2
returns-then-m-eq2 c = let a = c.args in taken a.b a.m 2 (a.x0 ∷ a.x1 ∷ a.x2 ∷ a.x3 ∷ 0 ∷ []) (omega arith) c.two_trits.ensures

pub returns : goal.returns
returns c = let a = c.args in taken a.b a.m 1 (a.x0 ∷ a.x1 ∷ a.x2 ∷ a.x3 ∷ 0 ∷ []) (omega arith) c.one_trit.ensures
