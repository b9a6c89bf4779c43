use mathlib.Core.Path.{refl}
use native.Mathlib.Omega.{arith}
use Rattle.interpolation.specs.declared.Kind.TheVariants.{Unorm16}
use Rattle.interpolation.specs.Expansion.{shown_of}
use Rattle.texel_fill.proofs.Filling.{four_texels}
use Rattle.texel_fill.proofs.four_numbers.Goals as goal

pub returns : goal.returns
returns c =
    rw (c.put_numbers-4.ensures, c.put_numbers-3.ensures, c.put_numbers-2.ensures, c.put_numbers.ensures)
    (four_texels (shown_of Unorm16) _ _ _ (omega (arith, c.requires)) refl refl refl refl)
