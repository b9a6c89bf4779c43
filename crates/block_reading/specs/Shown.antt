-- 02, b: "demand 2 speaks of each reading with its own list, and 21 shows magenta and a sheet of zeros like any fault." What a block shows, by the
-- reading: one text for both. With Ordinary these are `block_texel`, `block_number_at`, `block_channel`, `block_numbers` and `block_into` of the crate
-- texel, by computation.
-- Assumes nothing.
use Rattle.std.specs.Prelude.{ℕ, ◌*◌, ◌/◌, ◌%◌, List, eqb}
use Rattle.laws.specs.Choice.{pick}
use Rattle.laws.specs.Table.{tab, replaced}
use Rattle.footprint.specs.Footprint.{width_of, texels_of}
use Rattle.interpolation.specs.declared.Kind.{Kind}
use Rattle.interpolation.specs.declared.Texel.{Texel}
use Rattle.interpolation.specs.Expansion.{shown_of, takes_hdr}
use Rattle.texel.specs.Meaning.{error_texel, channel, shown_channel}
use Rattle.texel.specs.BlockTexel.{block_texel, in_row}
use Rattle.block_reading.specs.declared.Reading.{Reading}
use Rattle.block_reading.specs.declared.Reading.TheVariants.{Ordinary, Strict}
use Rattle.block_reading.specs.Faults.{strict_fault}

-- the texel at x, y, z of a block, in 16 bits: its own, or the kind's error colour where the strict reading has a fault
abbrev pub texel_in : Reading → ℕ → Kind → ℕ → ℕ → ℕ → ℕ → Texel
texel_in Ordinary fp kind B x y z = block_texel fp kind B x y z
texel_in Strict fp kind B x y z = pick (eqb (strict_fault (takes_hdr kind) fp B) 0) (block_texel fp kind B x y z) (error_texel kind)

-- the number that a call writes for channel c of that texel
unfoldable pub number_at_in : Reading → ℕ → Kind → ℕ → ℕ → ℕ → ℕ → ℕ → ℕ
number_at_in reading fp kind B x y z c = shown_channel kind (texel_in reading fp kind B x y z) c

-- number k of a block, in 16 bits, is channel k % 4 of texel k / 4
unfoldable pub channel_in : Reading → ℕ → Kind → ℕ → ℕ → ℕ
channel_in reading fp kind B k = channel (in_row fp (texel_in reading fp kind B) (k / 4 % width_of fp) (k / 4 / width_of fp)) (k % 4)

-- all numbers that a one-block call writes
unfoldable pub numbers_in : Reading → ℕ → Kind → ℕ → List ℕ
unfolding channel_in tab
numbers_in reading fp kind B = tab (λ k. shown_of kind (channel_in reading fp kind B k)) (4 * texels_of fp)

-- a lent buffer once a block is decoded into it: its first numbers are the block's, in 16 bits, the others as they were
unfoldable pub into_in : Reading → ℕ → Kind → ℕ → List ℕ → List ℕ
unfolding channel_in replaced
into_in reading fp kind B old = replaced 0 (channel_in reading fp kind B) (4 * texels_of fp) old
