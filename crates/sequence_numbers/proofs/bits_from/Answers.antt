use mathlib.Core.Path.{refl, ◌∙◌}
use Prim.Native.Nat.{◌-◌, ◌*◌, ◌≤◌}
use native.Mathlib.Nat.{mul-le-mul}
use native.Mathlib.Omega.{arith}
use Rattle.bits.specs.Block.{block_number}
use Rattle.sequence_numbers.proofs.Alone.{bits_alone, held_none, room, held_more, held_all}
use Rattle.sequence_numbers.proofs.bits_from.Goals as goal
use Rattle.sequence_numbers.proofs.bits_from.Goals.{In-loop-k}

pub overflow_mul-first : goal.overflow_mul-first
overflow_mul-first c = let a = c.args in let m : a.first * a.b ≤ 255 * 8 = mul-le-mul {n₂ = 255} {m₂ = 8} (omega arith) (omega arith) in omega (arith, m)

own : (c : In-loop-k) → (c.loop-k.k - 1) * c.args.b ≤ 7 * 8
own c = mul-le-mul {n₂ = 7} {m₂ = 8} (omega (arith, c.loop-k.invariant.most)) (omega arith)

pub returns : goal.returns
returns c =
    let a = c.args in
    let h = held_all _ _ _ _ (omega arith) c.loop-k.invariant in
    record { at = λ j l. h.at j l ∙ bits_alone a.b (block_number a.s) a.first j (omega arith) (omega arith) refl c.word_at-word.ensures refl }

pub loop-k-init : goal.loop-k-init
loop-k-init c = held_none _ _

pub overflow_mul-out : goal.overflow_mul-out
overflow_mul-out c = omega (arith, room _ _ _ _ (omega arith) (omega arith) c.loop-k.invariant)

pub overflow_mul-k : goal.overflow_mul-k
overflow_mul-k c = omega (arith, own c)

pub cut-requires : goal.cut-requires
cut-requires c = (omega (arith, own c), omega arith)

pub overflow_add-out : goal.overflow_add-out
overflow_add-out c = omega (arith, room _ _ _ _ (omega arith) (omega arith) c.loop-k.invariant)

pub loop-k-preserved : goal.loop-k-preserved
loop-k-preserved c = held_more _ _ _ _ _ _ (omega arith) (omega arith) c.cut.ensures.0 c.loop-k.invariant
