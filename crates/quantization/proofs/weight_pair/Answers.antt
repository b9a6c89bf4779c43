use mathlib.Core.Path.{◌≡◌, ap, ◌∙◌}
use mathlib.Core.List.{List}
use Prim.Native.Nat.{ℕ, ◌+◌, ◌*◌}
use native.Mathlib.Omega.{arith}
use lib.Dec.{eqb}
use borrow.Author.Tests.{eq-eqb, ne_eqb}
use borrow.Author.Rules.{rules}
use Rattle.laws.specs.Choice.{pick}
use Rattle.encoding.specs.declared.LevelPair.{LevelPair}
use Rattle.encoding.specs.inner.Levels.{level_pair}
use Rattle.quantization.specs.inner.Words.{by_words, RightWords}
use Rattle.quantization.proofs.weight_pair.Goals as goal

-- by the words, hence by any levels that the words give
both : (ws : List ℕ) (planes a b : ℕ) (r : LevelPair) → r ≡ level_pair (by_words ws a) (pick (eqb planes 2) (by_words ws b) 0)
    → (r ≡ level_pair (by_words ws a) (pick (eqb planes 2) (by_words ws b) 0)) × ((level : ℕ → ℕ) → RightWords level ws → r ≡ level_pair (level a) (pick (eqb planes 2) (level b) 0))
unfolding RightWords
both ws planes a b r e = (e, λ level h. e ∙ rw (h a, h b))

pub returns-then-planes-eq2 : goal.returns-then-planes-eq2
returns-then-planes-eq2 c = let b = c.before.before.before in
    let a = b.args in let it = both a.words.now a.planes a.first.0 a.second.0 _
    (rw (eq-eqb _ _ b.if-planes-eq2.true, ← b.weight_by-low.ensures, ← c.weight_by-high.ensures)) in record { value = it.0; by_index = it.1 }

abbrev one : ℕ → LevelPair
one n = record { 0 = n }

pub returns-else-planes-eq2 : goal.returns-else-planes-eq2
returns-else-planes-eq2 c = let a = c.args in
    let z : c.weight_by-low.result.0 ≡ c.weight_by-low.result.0 + 65536 * 0 = omega arith in let it = both a.words.now a.planes a.first.0 a.second.0 _ (rw (ne_eqb _ _ c.if-planes-eq2.false, ← c.weight_by-low.ensures) (ap one z)) in record { value = it.0; by_index = it.1 }
