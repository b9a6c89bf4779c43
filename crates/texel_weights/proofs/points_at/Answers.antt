use mathlib.Core.Path.{refl, sym}
use Prim.Native.Nat.{◌+◌, ◌*◌}
use native.Mathlib.Nat.{add-mul, zero-mul, mul-le-mul_right}
use native.Mathlib.Omega.{arith}
use Rattle.bits.specs.Block.{block_number}
use Rattle.quantization.specs.Unquantise.{unquant_weight}
use Rattle.block_levels.proofs.Levels.{points_le}
use Rattle.texel_weights.proofs.Read.{small, point_in}
use borrow.Author.Rules.{rules}
use Rattle.texel_weights.proofs.points_at.Goals as goal

pub overflow_mul-first : goal.overflow_mul-first
overflow_mul-first c = let s = c.before.before in let a = s.args in let m = points_le a.h.grid s.requires.limits.0 s.requires.limits.1 in omega (arith, s.requires.right_bound.0, m, small a.n a.h.grid.planes (omega (arith, s.requires.right_bound.0, m)) s.requires.limits.0.planes_most)

pub overflow_cast-first : goal.overflow_cast-first
overflow_cast-first c = let s = c.before.before in let a = s.args in let m = points_le a.h.grid s.requires.limits.0 s.requires.limits.1 in omega (arith, s.requires.right_bound.0, m, small a.n a.h.grid.planes (omega (arith, s.requires.right_bound.0, m)) s.requires.limits.0.planes_most)

pub overflow_mul-across : goal.overflow_mul-across
overflow_mul-across c = let s = c.before.before in let a = s.args in let m = points_le a.h.grid s.requires.limits.0 s.requires.limits.1 in omega (arith, s.requires.right_bound.0, m, small a.right a.h.grid.planes (omega (arith, s.requires.right_bound.0, m)) s.requires.limits.0.planes_most)

pub overflow_cast-across : goal.overflow_cast-across
overflow_cast-across c = let s = c.before.before in let a = s.args in let m = points_le a.h.grid s.requires.limits.0 s.requires.limits.1 in omega (arith, s.requires.right_bound.0, m, small a.right a.h.grid.planes (omega (arith, s.requires.right_bound.0, m)) s.requires.limits.0.planes_most)

pub overflow_mul-down : goal.overflow_mul-down
overflow_mul-down c = let s = c.before.before in let a = s.args in let m = points_le a.h.grid s.requires.limits.0 s.requires.limits.1 in omega (arith, s.requires.right_bound.0, m, small a.below a.h.grid.planes (omega (arith, s.requires.right_bound.0, m)) s.requires.limits.0.planes_most)

pub overflow_cast-down : goal.overflow_cast-down
overflow_cast-down c = let s = c.before.before in let a = s.args in let m = points_le a.h.grid s.requires.limits.0 s.requires.limits.1 in omega (arith, s.requires.right_bound.0, m, small a.below a.h.grid.planes (omega (arith, s.requires.right_bound.0, m)) s.requires.limits.0.planes_most)

pub rows_from-rows-requires : goal.rows_from-rows-requires
rows_from-rows-requires c =
    let s = c.before.before in
    let a = s.args in
    let l = s.requires.limits.0 in
    let m = points_le a.h.grid l s.requires.limits.1 in
    let p = a.h.grid.planes in
    (omega (arith, small (a.n + a.below) p (omega (arith, s.requires.right_bound.0, m)) l.planes_most, add-mul a.n a.below p), omega (arith, mul-le-mul_right p s.requires.right_bound.1, l.planes_most))

pub point_of-p01-requires : goal.point_of-p01-requires
point_of-p01-requires c = let s = c.before.before.before.before.before.before.before in omega (arith, mul-le-mul_right s.args.h.grid.planes s.requires.right_bound.1, s.requires.limits.0.planes_most)

pub point_of-p11-requires : goal.point_of-p11-requires
point_of-p11-requires c = let s = c.before.before.before.before.before.before.before.before.before.before.before in omega (arith, mul-le-mul_right s.args.h.grid.planes s.requires.right_bound.1, s.requires.limits.0.planes_most)

pub returns : goal.returns
returns c =
    let p10 = c.before.before in
    let p01 = p10.before.before in
    let p00 = p01.before.before in
    let w = p00.before.before in
    let s = w.before.before.before.before in
    let a = s.args in
    let p = a.h.grid.planes in
    let f = unquant_weight a.h.grid.range in
    let upper = point_in (block_number a.block) a.h s.requires.limits.0 s.requires.limits.1 a.n _ _ (a.right * p + p) w.rows_from-rows.result.upper refl w.weight_sequence-s.ensures w.rows_from-rows.ensures.eight in
    let lower = point_in (block_number a.block) a.h s.requires.limits.0 s.requires.limits.1 (a.n + a.below) _ _ (a.right * p + p) w.rows_from-rows.result.lower (sym (add-mul a.n a.below p)) w.weight_sequence-s.ensures w.rows_from-rows.ensures.eight_2 in
    rw (
      upper 0 a.n 0 _ (omega arith) (omega arith) (sym (zero-mul p)) (omega (arith, s.requires.right_bound.0)) (p00.point_of-p00.ensures f w.weight_words-words.ensures),
      upper a.right (a.n + a.right) _ _ (omega arith) refl refl (omega (arith, s.requires.right_bound.0)) (p01.point_of-p01.ensures f w.weight_words-words.ensures),
      lower 0 (a.n + a.below) 0 _ (omega arith) (omega arith) (sym (zero-mul p)) (omega (arith, s.requires.right_bound.0)) (p10.point_of-p10.ensures f w.weight_words-words.ensures),
      lower a.right (a.n + a.below + a.right) _ _ (omega arith) refl refl s.requires.right_bound.0 (c.point_of-p11.ensures f w.weight_words-words.ensures),
    )

pub overflow_add-across : goal.overflow_add-across
overflow_add-across c = let s = c.before.before in omega (arith, mul-le-mul_right s.args.h.grid.planes s.requires.right_bound.1, s.requires.limits.0.planes_most)
