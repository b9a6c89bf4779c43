-- Bounds of the footprints, by one computed test over the table.
-- Assumes nothing.
use mathlib.Core.Path.{◌≡◌, refl, subst}
use mathlib.Core.Bool.{Bool, true, false}
use mathlib.Core.List.{[]}
use Prim.Native.Nat.{ℕ, ◌+◌, ◌-◌, ◌≤◌, ◌<◌}
use native.Mathlib.Nat.{zero-mul}
use native.Mathlib.Omega.{arith}
use native.Mathlib.Decide.{dec_lt}
use lib.Dec.{T, leb, eqb, leb→le, eqb→eq}
use lib.ListN.{get_or-eq_default}
use borrow.Author.Tests.{lt-ltb, le-ltb}
use Rattle.laws.specs.Choice.{both, all}
use Rattle.laws.proofs.Computed.{both_left, both_right, each}
use Rattle.footprint.specs.Footprint.{footprints, width_of, height_of, depth_of, texels_of, is_volume}

-- sides from `least` to 12, depth 1 to 6, 16 to `most` texels
pub record Bounds (least most fp : ℕ) : Type 0 where
  pub width_least : least ≤ width_of fp
  pub width_most : width_of fp ≤ 12
  pub height_least : least ≤ height_of fp
  pub height_most : height_of fp ≤ 12
  pub depth_least : 1 ≤ depth_of fp
  pub depth_most : depth_of fp ≤ 6
  pub texels_least : 16 ≤ texels_of fp
  pub texels_most : texels_of fp ≤ most

within : ℕ → ℕ → ℕ → Bool
within a b n = both (leb a n) (leb n b)

test : ℕ → ℕ → ℕ → Bool
test a t fp =
    both (within a 12 (width_of fp)) (both (within a 12 (height_of fp)) (both (within 1 6 (depth_of fp)) (within 16 t (texels_of fp))))

low : (a b n : ℕ) → T (within a b n) → a ≤ n
unfolding within
low a b n t = leb→le a n (both_left (leb a n) (leb n b) t)

high : (a b n : ℕ) → T (within a b n) → n ≤ b
unfolding within
high a b n t = leb→le n b (both_right (leb a n) (leb n b) t)

from_test : (a m fp : ℕ) → T (test a m fp) → Bounds a m fp
unfolding test
from_test a m fp t =
    let p = within a 12 (width_of fp) in
    let q = within a 12 (height_of fp) in
    let d = within 1 6 (depth_of fp) in
    let r = within 16 m (texels_of fp) in
    let u : T (both q (both d r)) = both_right p (both q (both d r)) t in
    let v : T (both d r) = both_right q (both d r) u in
    record {
      width_least = low a 12 (width_of fp) (both_left p (both q (both d r)) t);
      width_most = high a 12 (width_of fp) (both_left p (both q (both d r)) t);
      height_least = low a 12 (height_of fp) (both_left q (both d r) u);
      height_most = high a 12 (height_of fp) (both_left q (both d r) u);
      depth_least = low 1 6 (depth_of fp) (both_left d r v);
      depth_most = high 1 6 (depth_of fp) (both_left d r v);
      texels_least = low 16 m (texels_of fp) (both_right d r v);
      texels_most = high 16 m (texels_of fp) (both_right d r v);
    }

tested : T (all (test 3 216) 24)
unfolding test within texels_of width_of height_of depth_of footprints
tested = tt

-- the twenty-four
pub bounds : (fp : ℕ) → fp < 24 → Bounds 3 216 fp
bounds fp h = from_test 3 216 fp (each (test 3 216) 24 tested fp h)

flat_tested : T (all (test 4 144) 14)
unfolding test within texels_of width_of height_of depth_of footprints
flat_tested = tt

-- the fourteen flat ones
pub flat_bounds : (fp : ℕ) → fp < 14 → Bounds 4 144 fp
flat_bounds fp h = from_test 4 144 fp (each (test 4 144) 14 flat_tested fp h)

-- a flat one is one layer thick
flat_test : T (all (λ fp. within 1 1 (depth_of fp)) 14)
unfolding within depth_of footprints
flat_test = tt

pub flat_depth : (fp : ℕ) → fp < 14 → depth_of fp ≡ 1
flat_depth fp h =
    let t = each (λ fp. within 1 1 (depth_of fp)) 14 flat_test fp h in
    omega (arith, low 1 1 (depth_of fp) t, high 1 1 (depth_of fp) t)

pub flat : (fp : ℕ) → fp < 14 → is_volume fp ≡ false
unfolding is_volume
flat fp h = le-ltb 13 fp (omega arith)

pub volume : (fp : ℕ) → 14 ≤ fp → is_volume fp ≡ true
unfolding is_volume
volume fp h = lt-ltb 13 fp (omega arith)

-- a volume has at least three layers
deep_test : T (all (λ k. leb 3 (depth_of (k + 14))) 10)
unfolding depth_of footprints
deep_test = tt

pub volume_depth : (fp : ℕ) → 14 ≤ fp → fp < 24 → 3 ≤ depth_of fp
volume_depth fp a b =
    let e : fp - 14 + 14 ≡ fp = omega arith in
    subst (λ (n : ℕ). 3 ≤ depth_of n) e (leb→le 3 (depth_of (fp - 14 + 14)) (each (λ k. leb 3 (depth_of (k + 14))) 10 deep_test (fp - 14) (omega arith)))

-- above 23 there is no footprint
pub record None (fp : ℕ) : Type 0 where
  pub width : width_of fp ≡ 0
  pub height : height_of fp ≡ 0
  pub depth : depth_of fp ≡ 0

pub past : (fp : ℕ) → 24 ≤ fp → None fp
unfolding width_of height_of depth_of footprints
past fp h = let e = get_or-eq_default footprints [] {n = fp} h in record { width = rw e refl; height = rw e refl; depth = rw e refl }

pub texels_le : (fp : ℕ) → texels_of fp ≤ 216
unfolding texels_of
texels_le fp =
    elim (dec_lt fp 24) [
      | yes p ↦ (bounds fp p).texels_most
      | no p ↦ rw (past fp (omega arith)).width (omega (arith, zero-mul (height_of fp), zero-mul (depth_of fp)))
    ]

-- whatever the number
pub width_le : (fp : ℕ) → width_of fp ≤ 12
width_le fp = elim (dec_lt fp 24) [ yes p ↦ (bounds fp p).width_most | no p ↦ omega (arith, (past fp (omega arith)).width) ]

pub height_le : (fp : ℕ) → height_of fp ≤ 12
height_le fp = elim (dec_lt fp 24) [ yes p ↦ (bounds fp p).height_most | no p ↦ omega (arith, (past fp (omega arith)).height) ]

pub depth_le : (fp : ℕ) → depth_of fp ≤ 6
depth_le fp = elim (dec_lt fp 24) [ yes p ↦ (bounds fp p).depth_most | no p ↦ omega (arith, (past fp (omega arith)).depth) ]
