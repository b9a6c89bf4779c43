-- What a block shows at a place: 000's stages from its bits, the kind's error colour for a fault. B is the number of its 128 bits.
-- Assumes nothing.
use Rattle.std.specs.Prelude.{ℕ, ◌*◌, ◌/◌, ◌%◌, List, eqb}
use Rattle.laws.specs.Choice.{pick}
use Rattle.laws.specs.Table.{tab, replaced, by_rows}
use Rattle.footprint.specs.Footprint.{width_of, height_of, texels_of}
use Rattle.interpolation.specs.declared.Kind.{Kind}
use Rattle.interpolation.specs.declared.Texel.{Texel}
use Rattle.interpolation.specs.Expansion.{shown_of, takes_hdr}
use Rattle.block_fault.specs.Bits.{mode_at, is_void, header_at, endpoint_at, weight_at}
use Rattle.block_fault.specs.Faults.{fault_of}
use Rattle.void_extent.specs.Layout.{colour_at, hdr_void_extent}
use Rattle.texel.specs.Meaning.{texel_from, solid_texel, error_texel, channel, shown_channel}

-- the texel of a block without fault
unfoldable pub sound_texel : ℕ → Kind → ℕ → ℕ → ℕ → ℕ → Texel
sound_texel fp kind B x y z =
    pick (is_void (mode_at fp B)) (solid_texel kind (hdr_void_extent B) (colour_at B))
    (texel_from fp kind (header_at fp B) (endpoint_at B (header_at fp B)) (weight_at B (header_at fp B)) x y z)

-- the texel at x, y, z of a block, in 16 bits; z is 0 in a flat one
unfoldable pub block_texel : ℕ → Kind → ℕ → ℕ → ℕ → ℕ → Texel
unfolding sound_texel
block_texel fp kind B x y z = pick (eqb (fault_of (takes_hdr kind) fp B) 0) (sound_texel fp kind B x y z) (error_texel kind)

-- the number that a call writes for channel c of that texel
unfoldable pub block_number_at : ℕ → Kind → ℕ → ℕ → ℕ → ℕ → ℕ → ℕ
unfolding block_texel
block_number_at fp kind B x y z c = shown_channel kind (block_texel fp kind B x y z) c

-- what column x of row q of a block is
abbrev pub in_row : {A : Type 0} → ℕ → (ℕ → ℕ → ℕ → A) → ℕ → ℕ → A
in_row fp f x q = by_rows (height_of fp) f x q

-- 01: "Channels are R, G, B, A, rows first": number k of a block, in 16 bits, is channel k % 4 of texel k / 4
unfoldable pub block_channel : ℕ → Kind → ℕ → ℕ → ℕ
unfolding block_texel
block_channel fp kind B k = channel (in_row fp (block_texel fp kind B) (k / 4 % width_of fp) (k / 4 / width_of fp)) (k % 4)

-- all numbers that a one-block call writes
unfoldable pub block_numbers : ℕ → Kind → ℕ → List ℕ
unfolding block_channel tab
block_numbers fp kind B = tab (λ k. shown_of kind (block_channel fp kind B k)) (4 * texels_of fp)

-- a lent buffer once a block is decoded into it: its first numbers are the block's, in 16 bits, the others as they were
unfoldable pub block_into : ℕ → Kind → ℕ → List ℕ → List ℕ
unfolding block_channel replaced
block_into fp kind B old = replaced 0 (block_channel fp kind B) (4 * texels_of fp) old
