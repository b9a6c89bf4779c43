use mathlib.Core.Path.{refl}
use mathlib.Core.List.{[], ◌∷◌}
use Prim.Native.Nat.{◌+◌, ◌*◌}
use native.Mathlib.Omega.{arith}
use Rattle.bits.specs.Field.{field}
use Rattle.bits.proofs.Halves.{low_is}
use Rattle.encoding.specs.declared.Encoding.TheVariants.{Trits}
use Rattle.encoding.specs.Encoding.{sequence_bits}
use Rattle.sequence_words.proofs.Words.{piece_laid, five_laid}
use Rattle.sequence_words.proofs.trit_word.Goals as goal

pub returns : goal.returns
unfolding field sequence_bits
returns c =
    let a = c.args in
    let xs = (a.x0 ∷ a.x1 ∷ a.x2 ∷ a.x3 ∷ a.x4 ∷ []) in
    five_laid Trits a.b a.code xs
    (piece_laid Trits a.b a.code xs 0 0 c.placed-i0.ensures.0 (low_is a.code 2) refl (omega arith))
    (piece_laid Trits a.b a.code xs 1 (a.b + 2) c.placed-i1.ensures.0 refl refl (omega arith))
    (piece_laid Trits a.b a.code xs 2 (2 * a.b + 4) c.placed-i2.ensures.0 refl refl (omega arith))
    (piece_laid Trits a.b a.code xs 3 (3 * a.b + 5) c.placed-i3.ensures.0 refl refl (omega arith))
    (piece_laid Trits a.b a.code xs 4 (4 * a.b + 7) c.placed-i4.ensures.0 refl refl (omega arith))
