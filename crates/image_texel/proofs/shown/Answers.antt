use native.Mathlib.Omega.{arith}
use Rattle.image_texel.proofs.Ask.{shown_0, shown_1, shown_2}
use Rattle.image_texel.proofs.shown.Goals as goal

pub returns-in-Unorm16 : goal.returns-in-Unorm16
returns-in-Unorm16 c = rw c.in-Unorm16.is (shown_0 _)

pub returns-in-Srgb8 : goal.returns-in-Srgb8
returns-in-Srgb8 c = let k = c in rw k.in-Srgb8.is (shown_1 _ _ _ _ (omega arith) (omega arith) (omega arith) (omega arith))

pub returns-in-Float16 : goal.returns-in-Float16
returns-in-Float16 c = rw c.in-Float16.is (shown_2 _)
