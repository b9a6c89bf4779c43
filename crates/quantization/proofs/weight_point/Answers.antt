use mathlib.Core.Path.{◌≡◌, ap, ◌∙◌}
use Prim.Native.Nat.{ℕ, ◌+◌, ◌*◌}
use native.Mathlib.Nat.{mod-eq_of_lt}
use native.Mathlib.Omega.{arith}
use lib.ListN.{get_or}
use borrow.Author.Rules.{rules}
use Rattle.encoding.specs.declared.LevelPair.{LevelPair}
use Rattle.quantization.proofs.weight_point.Goals as goal

pub returns : goal.returns
returns c = λ h.
    let a = c.args in
    let x = get_or a.table.now a.s.0 0 in
    let e : c.wide.result ≡ x + 65536 * 0 = c.wide.ensures.0 ∙ ap (λ (n : ℕ). get_or a.table.now n 0) (mod-eq_of_lt h) ∙ omega arith in
    ap (λ (n : ℕ). record { 0 = n }) e
