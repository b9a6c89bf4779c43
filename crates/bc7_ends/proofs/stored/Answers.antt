use mathlib.Core.Path.{◌≡◌, ◌∙◌}
use Prim.Native.Nat.{ℕ, ◌*◌, ◌≤◌, ◌<◌}
use native.Mathlib.Nat.{mul-le-mul}
use native.Mathlib.Omega.{arith}
use Rattle.bc7_layout.specs.Modes.{subsets}
use Rattle.bc7_layout.proofs.Tables.{subsets_most}
use Rattle.bc7_ends.specs.inner.Frame.{channel_bits}
use Rattle.bc7_ends.proofs.Places.{channel_most, stored_is}
use Rattle.bc7_ends.proofs.stored.Goals as goal

-- the products are small
by_step : (c s : ℕ) → c < 4 → s ≤ 48 → c * s ≤ 3 * 48
by_step c s h l = let k : c ≤ 3 = omega arith in mul-le-mul k l

by_width : (m x c w : ℕ) → m < 8 → x < 2 * subsets m → w ≡ channel_bits m c → x * w ≤ 6 * 8
by_width m x c w h l e = let n = subsets_most m h in let k : x ≤ 6 = omega arith in let q : w ≤ 8 = rw e (channel_most m c h) in mul-le-mul k q

pub overflow_mul-c : goal.overflow_mul-c
overflow_mul-c c = let p = c.requires in omega (arith, by_step _ _ p.2 p.0.step_most)

pub overflow_add-f : goal.overflow_add-f
overflow_add-f c = let p = c.requires in omega (arith, by_step _ _ p.2 p.0.step_most)

pub overflow_mul-x : goal.overflow_mul-x
overflow_mul-x c = let p = c.requires in omega (arith, by_width _ _ _ _ p.0.known p.1 p.3)

pub overflow_add-f-2 : goal.overflow_add-f-2
overflow_add-f-2 c = let p = c.requires in omega (arith, by_step _ _ p.2 p.0.step_most, by_width _ _ _ _ p.0.known p.1 p.3)

pub small_field-requires : goal.small_field-requires
small_field-requires c = let p = c.requires in rw p.3 (channel_most _ _ p.0.known)

pub returns : goal.returns
returns c =
    let p = c.requires in
    (c.wide.ensures.0 ∙ stored_is _ p.0.known _ _ _ _ _ _ p.1 p.2 p.3 p.4 p.0.ends p.0.step c.small_field.ensures, c.wide.ensures.1)
