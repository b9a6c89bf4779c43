use mathlib.Core.Path.{◌≡◌, ap}
use Prim.Native.Nat.{ℕ}
use Rattle.encoding.specs.declared.Stored.{Stored}
use Rattle.integer_sequence.specs.Reading.{stored}
use borrow.Author.Rules.{rules}
use Rattle.texel_weights.proofs.point_of.Goals as goal

stored_told : {x : Stored} {n : ℕ} → x ≡ stored n → x.0 ≡ n
stored_told e = ap (λ (y : Stored). y.0) e

pub returns : goal.returns
returns c = λ level right. rw (← stored_told c.stored_in-low.ensures, ← stored_told c.stored_in-high.ensures) (c.weight_pair.ensures.by_index level right)
