use mathlib.Core.Path.{◌≡◌, ◌∙◌}
use mathlib.Core.List.{List}
use Prim.Native.Nat.{ℕ, ◌*◌, ◌/◌, ◌%◌, ◌^◌}
use native.Mathlib.Decide.{dec_lt}
use native.Mathlib.Omega.{arith}
use lib.Dec.{ltb}
use lib.ListN.{get_or}
use borrow.Author.Tests.{le-ltb}
use Rattle.laws.specs.Choice.{pick}
use Rattle.quantization.specs.inner.Words.{by_words}
use borrow.Author.Rules.{rules}
use Rattle.quantization.proofs.weight_by.Goals as goal

byte : (ws : List ℕ) (v : ℕ) → pick (ltb v 32) (get_or ws (v / 8 % 4) 0 / 2 ^ (8 * (v % 8)) % 256) 0 ≡ by_words ws v
unfolding by_words
byte ws v =
    elim (dec_lt v 32) [
      | yes p ↦ let q : v / 8 % 4 ≡ v / 8 = omega arith in rw q
      | no p ↦ rw (le-ltb v 32 (omega arith))
    ]

pub returns : goal.returns
returns c = c.chosen.ensures ∙ byte c.args.words.now c.args.s.0
