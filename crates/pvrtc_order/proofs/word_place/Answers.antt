use mathlib.Core.Path.{◌≡◌}
use mathlib.Core.Logic.{◌⊎◌, inl, inr}
use Prim.Native.Nat.{◌-◌}
use native.Mathlib.Omega.{arith}
use native.Mathlib.Decide.{dec_lt}
use Rattle.pvrtc_order.proofs.Turns.{start_at, more_fits, more_at, whole_fits, whole, rest_small}
use Rattle.pvrtc_order.proofs.word_place.Goals as goal
use Rattle.pvrtc_order.proofs.word_place.Goals.{In-loop-k, After-loop-k}

-- one of the two has no bits left
ended : (c : After-loop-k) → (c.args.xb - c.loop-k.k ≡ 0) ⊎ (c.args.yb - c.loop-k.k ≡ 0)
ended c = elim (dec_lt c.args.xb c.args.yb) [ yes l ↦ inl (omega arith) | no l ↦ inr (omega arith) ]

pub loop-k-init : goal.loop-k-init
loop-k-init c = start_at _ _ _ _ _ _ _ c.requires.1 c.requires.2 (omega arith) (omega arith) (omega arith)

pub overflow_add-place-in-loop-k : goal.overflow_add-place-in-loop-k
overflow_add-place-in-loop-k c = record { fits = more_fits _ _ _ _ _ _ _ _ _ _ c.loop-k.invariant c.requires.0 (omega arith) (omega arith) }

pub loop-k-preserved : goal.loop-k-preserved
loop-k-preserved c = more_at _ _ _ _ _ _ _ _ _ _ c.loop-k.invariant c.requires.0 (omega arith) (omega arith) _ _ _ (omega arith) (omega arith) (omega arith)

pub overflow_add-result : goal.overflow_add-result
overflow_add-result c = omega (arith, rest_small _ _ _ _ _ _ _ _ _ _ c.loop-k.invariant c.requires.0 (ended c))

pub overflow_add-result-2 : goal.overflow_add-result-2
overflow_add-result-2 c =
    let e : c.min-turns.result ≡ c.loop-k.k = omega arith in
    record { fits = rw e (whole_fits _ _ _ _ _ _ _ _ _ _ c.loop-k.invariant c.requires.0 (ended c)) }

pub returns : goal.returns
returns c =
    let e : c.min-turns.result ≡ c.loop-k.k = omega arith in
    rw e (whole _ _ _ _ _ _ _ _ _ _ c.loop-k.invariant c.requires.0 (ended c))
