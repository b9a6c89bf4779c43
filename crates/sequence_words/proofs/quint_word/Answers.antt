use mathlib.Core.Path.{refl}
use mathlib.Core.List.{[], ◌∷◌}
use Prim.Native.Nat.{◌+◌, ◌*◌}
use native.Mathlib.Omega.{arith}
use Rattle.bits.specs.Field.{field}
use Rattle.bits.proofs.Halves.{low_is}
use Rattle.encoding.specs.declared.Encoding.TheVariants.{Quints}
use Rattle.encoding.specs.Encoding.{sequence_bits}
use Rattle.sequence_words.proofs.Words.{piece_laid, three_laid}
use Rattle.sequence_words.proofs.quint_word.Goals as goal

pub returns : goal.returns
unfolding field sequence_bits
returns c =
    let a = c.args in
    let xs = (a.x0 ∷ a.x1 ∷ a.x2 ∷ []) in
    three_laid Quints a.b a.code xs
    (piece_laid Quints a.b a.code xs 0 0 c.placed-i0.ensures.0 (low_is a.code 3) refl (omega arith))
    (piece_laid Quints a.b a.code xs 1 (a.b + 3) c.placed-i1.ensures.0 refl refl (omega arith))
    (piece_laid Quints a.b a.code xs 2 (2 * a.b + 5) c.placed-i2.ensures.0 refl refl (omega arith))
