-- What a block's mode and partition fix, read once for each block.
-- Assumes nothing.
use Rattle.std.specs.Prelude.{◌≡◌, ℕ, ◌*◌, ◌≤◌, ◌<◌, eqb}
use Rattle.laws.specs.Choice.{pick}
use Rattle.bc7_layout.specs.Modes.{mode_row, subsets, colour_bits, alpha_bits}
use Rattle.bc7_layout.specs.Layout.{place_of, mode_at, partition_field_at}
use Rattle.bc7_layout.specs.inner.Plan.{plan_of}
use Rattle.bc7_ends.specs.declared.Bc7Frame.{Bc7Frame}

-- the frame of a block that has a mode; the places do not depend on the partition
pub record Framed (B : ℕ) (f : Bc7Frame) : Type 0 where
  pub known : mode_at B < 8
  pub mode : f.mode ≡ mode_at B
  pub row : f.row ≡ mode_row (mode_at B)
  pub plan : f.plan ≡ plan_of (subsets (mode_at B)) (partition_field_at B)
  pub ends : f.ends ≡ place_of (mode_at B) 0 4
  pub ends_most : f.ends ≤ 128
  pub step : f.step ≡ 2 * subsets (mode_at B) * colour_bits (mode_at B)
  pub step_most : f.step ≤ 48
  pub p_bits_lem : f.pbits ≡ place_of (mode_at B) 0 22
  pub p_bits_most : f.pbits ≤ 128
  pub indices : f.indices ≡ place_of (mode_at B) 0 28
  pub indices_most : f.indices ≤ 128

-- the bits of a channel of an end, without its P bit
unfoldable pub channel_bits : ℕ → ℕ → ℕ
unfolding colour_bits alpha_bits
channel_bits m c = pick (eqb c 3) (alpha_bits m) (colour_bits m)
