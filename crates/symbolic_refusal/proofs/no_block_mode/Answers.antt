use mathlib.Core.Path.{◌≡◌, refl}
use mathlib.Core.Bool.{Bool, true, false, not}
use Prim.Native.Nat.{ℕ}
use native.Mathlib.Omega.{arith}
use Rattle.std.specs.Prelude.{Option, Some, None}
use Rattle.std.specs.Option.{is_some}
use Rattle.symbolic_block.specs.Refusals.{is_no_mode, no_block_mode}
use Rattle.symbolic_refusal.proofs.no_block_mode.Goals as goal

none : (o : Option ℕ) (b : Bool) → is_some o ≡ not b → b ≡ is_no_mode o
none (Some m) false e = refl
none (Some m) true e = absurd (let z : ◌≡◌ {A = ℕ} 0 1 = cc in omega arith)
none None true e = refl
none None false e = absurd (let z : ◌≡◌ {A = ℕ} 0 1 = cc in omega arith)

pub returns : goal.returns
unfolding no_block_mode
returns c = rw (← c.block_mode_of.ensures) (none _ _ c.is_none.ensures)
