use mathlib.Core.Path.{◌≡◌, refl}
use Prim.Native.Nat.{◌-◌, ◌*◌, ◌≤◌}
use native.Mathlib.Nat.{mul-le-mul}
use native.Mathlib.Omega.{arith}
use borrow.Author.Rules.{rules}
use Rattle.pvrtc_texel.specs.Texel.{modulated}
use Rattle.pvrtc_word.proofs.modulate.Goals as goal
use Rattle.pvrtc_word.proofs.modulate.Goals.{Start}

-- both products are small
first : (c : Start) → c.args.a * (8 - c.args.weight) ≤ 131072 * 8
first c = mul-le-mul {n₂ = 131072} {m₂ = 8} (omega arith) (omega arith)

second : (c : Start) → c.args.b * c.args.weight ≤ 131072 * 8
second c = mul-le-mul {n₂ = 131072} {m₂ = 8} (omega arith) (omega arith)

pub overflow_cast-result : goal.overflow_cast-result
unfolding modulated
overflow_cast-result c = omega arith

pub returns : goal.returns
unfolding modulated
returns c = refl

pub overflow_mul-result : goal.overflow_mul-result
overflow_mul-result c = omega (arith, first c)

pub overflow_mul-result-2 : goal.overflow_mul-result-2
overflow_mul-result-2 c = omega (arith, second c)

pub overflow_add-result : goal.overflow_add-result
overflow_add-result c = omega (arith, first c, second c)
