use mathlib.Core.Path.{◌≡◌, ap, ◌∙◌}
use Prim.Native.Nat.{ℕ, ◌+◌, ◌*◌, ◌/◌, ◌%◌, ◌^◌, ◌≤◌, ◌<◌}
use native.Mathlib.Nat.{mod-lt, mul-le-mul, lt_of_lt_of_le}
use native.Mathlib.Omega.{arith}
use mathlib.Core.Bool.{Bool, true, false}
use lib.Dec.{eqb}
use lib.Pow.{pow_pos, pow_mono}
use Rattle.laws.specs.Choice.{pick}
use Rattle.bits.proofs.Halves.{one_shl}
use Rattle.bc7_block.specs.Picture.{factor_of}
use Rattle.bc7_block.proofs.Bounds.{factor_most}
use Rattle.bc7_core.proofs.Indices.{factor_is}
use Rattle.bc7_core.proofs.factor.Goals as goal

power : (w : ℕ) → w ≤ 4 → 1 * 2 ^ w % 18446744073709551616 ≡ 2 ^ w
power w h = one_shl w (omega arith)

slope_most : (b : ℕ) (r : ℕ) → r ≡ pick (eqb b 2) 5461 (pick (eqb b 3) 2341 1092) → r ≤ 5461
slope_most b r e = rw e (go (eqb b 2) (eqb b 3)) where
  go : (s t : Bool) → pick s 5461 (pick t 2341 1092) ≤ 5461
  go true t = omega arith
  go false true = omega arith
  go false false = omega arith

index_lt : (x w b : ℕ) → w ≤ b → x % 2 ^ w < 2 ^ b
index_lt x w b h = lt_of_lt_of_le (mod-lt x (pow_pos w)) (pow_mono h)

module _ (x w b s : ℕ) (hw : w ≤ b) (hb : b ≤ 4) (es : s ≡ pick (eqb b 2) 5461 (pick (eqb b 3) 2341 1092)) where
  whole : x % (1 * 2 ^ w % 18446744073709551616) ≡ x % 2 ^ w
  whole = ap (λ (n : ℕ). x % n) (power w (omega arith))

  product_most : x % (1 * 2 ^ w % 18446744073709551616) * s ≤ 16 * 5461
  product_most =
      let l : x % 2 ^ w < 2 ^ 4 = index_lt x w 4 (omega arith) in
      let q : x % (1 * 2 ^ w % 18446744073709551616) ≤ 16 = rw whole (omega arith) in
      mul-le-mul q (slope_most b s es)

  factor_told : 2 ≤ b → (x % (1 * 2 ^ w % 18446744073709551616) * s + 128) / 256 ≡ factor_of b (x % 2 ^ w)
  factor_told h = (λ t. (whole t * es t + 128) / 256) ∙ factor_is b (x % 2 ^ w) h hb (index_lt x w b hw)

pub nonzero_rem-result : goal.nonzero_rem-result
nonzero_rem-result c = let p = c.requires in rw (power c.args.w (omega arith)) (pow_pos c.args.w)

pub overflow_mul-result : goal.overflow_mul-result
overflow_mul-result c = let p = c.requires in omega (arith, product_most c.args.word _ _ _ p.2 p.1 c.slope.ensures)

pub overflow_add-result : goal.overflow_add-result
overflow_add-result c = let p = c.requires in omega (arith, product_most c.args.word _ _ _ p.2 p.1 c.slope.ensures)

pub returns : goal.returns
returns c =
    let p = c.requires in
    let e = factor_told c.args.word _ _ _ p.2 p.1 c.slope.ensures p.0 in
    (e, rw e (factor_most _ _))
