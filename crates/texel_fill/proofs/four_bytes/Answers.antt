use native.Mathlib.Omega.{arith}
use Rattle.interpolation.specs.declared.Kind.TheVariants.{Srgb8}
use Rattle.interpolation.specs.Expansion.{shown_of}
use Rattle.texel_fill.proofs.Filling.{four_texels}
use Rattle.texel_fill.proofs.four_bytes.Goals as goal

pub returns : goal.returns
returns c = let q = c.byte_word-w.ensures in
    rw (c.put_bytes-4.ensures, c.put_bytes-3.ensures, c.put_bytes-2.ensures, c.put_bytes.ensures)
    (four_texels (shown_of Srgb8) _ _ _ (omega (arith, c.requires)) q.0 q.1 q.2 q.3)
