use mathlib.Core.Path.{◌≡◌}
use native.Mathlib.Omega.{arith}
use Rattle.interpolation.specs.declared.Kind.TheVariants.{Srgb8}
use Rattle.interpolation.specs.Expansion.{shown_of}
use Rattle.texel_fill.proofs.Filling.{pasted_last}
use Rattle.texel_fill.proofs.fill_bytes.Goals as goal

pub returns-then-n-eq4 : goal.returns-then-n-eq4
returns-then-n-eq4 c = let e : c.args.n ≡ 4 = omega arith in rw e c.four_bytes.ensures

pub returns-then-n-le8 : goal.returns-then-n-le8
returns-then-n-le8 c = pasted_last (shown_of Srgb8) _ _ _ _ 16 _ _ (omega arith) (omega arith) (omega arith) (omega arith) c.four_bytes.ensures c.four_bytes-then-n-le8.ensures

pub returns : goal.returns
returns c =
    pasted_last (shown_of Srgb8) _ _ _ _ 32 _ _ (omega arith) (omega arith) (omega arith) (omega arith)
    (pasted_last (shown_of Srgb8) _ _ _ 8 16 _ _ (omega arith) (omega arith) (omega arith) (omega arith) c.four_bytes.ensures c.four_bytes-2.ensures)
    c.four_bytes-3.ensures
