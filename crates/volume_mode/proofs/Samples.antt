-- All 2,048 modes and the bits of all 3,000 grids, as one number each, as a second reckoning has them (outside/tables/make_volumes.py).
-- Assumes nothing.
use Rattle.std.specs.Prelude.{None, Option, Some}
use mathlib.Core.Path.{◌≡◌, refl}
use Prim.Native.Nat.{ℕ, zero, suc, ◌+◌, ◌*◌, ◌/◌, ◌%◌}
use Rattle.block_mode.specs.declared.BlockMode.{BlockMode}
use Rattle.block_mode.specs.declared.BlockMode.TheVariants.{VoidExtent, Reserved, Grid}
use Rattle.volume_mode.specs.Mode3D.{volume_mode}
use Rattle.volume_mode.specs.Back3D.{volume_bits}

unfoldable pub digest : (ℕ → ℕ) → ℕ → ℕ
digest f zero = 0
digest f (suc n) = (31 * digest f n + f n) % 1000003

unfoldable pub said : BlockMode → ℕ
said VoidExtent = 1
said Reserved = 2
said (Grid g) = 3 + g.width + 7 * (g.height + 7 * (g.depth + 7 * (g.range + 12 * g.planes)))

unfoldable pub written : Option ℕ → ℕ
written (Some m) = 1 + m
written None = 0

-- grid k, width first, then height, depth, range and planes
unfoldable pub bits : ℕ → ℕ
bits k = written (volume_bits (record { width = 2 + k % 5; height = 2 + k / 5 % 5; depth = 2 + k / 25 % 5; range = k / 125 % 12; planes = 1 + k / 1500 }))

pub modes_said : digest (λ m. said (volume_mode m)) 2048 ≡ 859278
unfolding digest said volume_mode
modes_said = refl

pub bits_written : digest bits 3000 ≡ 31015
unfolding digest bits written volume_bits
bits_written = refl
