-- What a kind shows of a texel, and that kind 1's fits bytes.
-- Assumes nothing.
use Rattle.std.specs.Prelude.{◌≡◌, ◌≤◌}
use Rattle.interpolation.specs.declared.Kind.{Kind}
use Rattle.interpolation.specs.declared.Kind.TheVariants.{Srgb8}
use Rattle.interpolation.specs.declared.Texel.{Texel}
use Rattle.interpolation.specs.Expansion.{shown_of}

pub record Fits (kind : Kind) (t : Texel) : Type 0 where
  pub bytes : kind ≡ Srgb8 → (t.r ≤ 255) × (t.g ≤ 255) × (t.b ≤ 255) × (t.a ≤ 255)

-- what a kind shows of a texel's numbers
unfoldable pub shown_texel : Kind → Texel → Texel
shown_texel kind t = record { r = shown_of kind t.r; g = shown_of kind t.g; b = shown_of kind t.b; a = shown_of kind t.a }
