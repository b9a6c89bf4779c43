-- 01, "What is covered", and 02, i: the kinds of output by their numbers.
-- Assumes nothing.
use Rattle.std.specs.Prelude.{ℕ, eqb}
use Rattle.laws.specs.Choice.{pick}
use Rattle.interpolation.specs.declared.Kind.{Kind}
use Rattle.interpolation.specs.declared.Kind.TheVariants.{Unorm16, Srgb8, Float16}

-- 01, "Kind 0, plain", "Kind 1, sRGB"; 02, i, "kind 2: four 16-bit patterns of half floats"; a number above 2 is refused wherever a call
-- takes one
unfoldable pub kind_of : ℕ → Kind
kind_of n = pick (eqb n 0) Unorm16 (pick (eqb n 1) Srgb8 Float16)
