-- 01, "Bench samples": the samples marked P, as one table, and behind them those of solid blocks, which 02, i, shows in kind 2. Each entry is 01's
-- words, what the definitions compute, and what 01 wants.
-- Assumes nothing.
use Rattle.std.specs.Prelude.{◌≡◌, true, false, ℕ, ◌-◌, ◌/◌, ◌%◌, ◌^◌, List, [], ◌∷◌, map, ℤ, pos, neg_ℤ}
use Rattle.encoding.specs.declared.Encoding.TheVariants.{Trits}
use Rattle.quantization.specs.Ranges.{most_at, range_bits}
use Rattle.quantization.specs.Unquantise.{unquant_endpoint, unquant_weight}
use Rattle.integer_sequence.specs.Codes.{trits_of, quints_of}
use Rattle.integer_sequence.specs.Writing.{code_of}
use Rattle.footprint.specs.Footprint.{width_of}
use Rattle.weight_grid.specs.Place.{scale_of, grid_place}
use Rattle.weight_grid.specs.Cell.{level}
use Rattle.endpoint_arithmetic.specs.declared.EndpointPair.{EndpointPair}
use Rattle.endpoint_arithmetic.specs.Signed.{bit_transfer}
use Rattle.color_endpoint.specs.Modes.{pair_of}
use Rattle.interpolation.specs.declared.Kind.{Kind}
use Rattle.interpolation.specs.declared.Kind.TheVariants.{Unorm16, Srgb8, Float16}
use Rattle.interpolation.specs.declared.Texel.{Texel}
use Rattle.interpolation.specs.Expansion.{expanded_pair, shown_of}
use Rattle.interpolation.specs.Texel.{texel_of}
use Rattle.bits.specs.Block.{number_of}
use Rattle.block_fault.specs.Faults.{fault_of}
use Rattle.texel.specs.BlockTexel.{block_number_at}

-- an entry: the numbers that the definitions compute and those that 01 wants
pub record Sample : Type 0 where
  pub computed : List ℤ
  pub wanted : List ℤ

-- every entry computes to what is wanted: 01, "proved against the definitions by a single statement". Theorems: proofs/Hold.antt, `samples_hold`;
-- proofs/Volumes.antt, `volumes_hold`.
abbrev pub Hold : List Sample → Type 0
Hold l = map (λ (s : Sample). s.computed) l ≡ map (λ (s : Sample). s.wanted) l

-- an entry whose numbers are all natural
abbrev pub sample : List ℕ → List ℕ → Sample
sample computed wanted = record { computed = map pos computed; wanted = map pos wanted }

-- the four numbers that a kind shows of a texel
abbrev pub shown : Kind → Texel → List ℕ
shown kind t = map (shown_of kind) (t.r ∷ t.g ∷ t.b ∷ t.a ∷ [])

abbrev sample_pair : EndpointPair
sample_pair = record { e0 = 0 ∷ 0 ∷ 0 ∷ 0 ∷ []; e1 = 1 ∷ 1 ∷ 1 ∷ 1 ∷ [] }

-- the endpoints 0 and 1 at weight 32
abbrev halfway : Kind → List ℕ
halfway kind = shown kind (texel_of (expanded_pair kind sample_pair) (level 32) (level 32) 0)

-- 01, "The program": the block of its sample
abbrev pub program_block : ℕ
program_block = number_of (0x42 ∷ 0x00 ∷ 0x00 ∷ 0xFE ∷ 0x01 ∷ 0 ∷ 0 ∷ 0 ∷ 0 ∷ 0 ∷ 0 ∷ 0 ∷ 0 ∷ 0 ∷ 0 ∷ 0x80 ∷ [])

-- the block whose bits are all 1
abbrev pub all_ones : ℕ
all_ones = 2 ^ 128 - 1

-- "FC FD and six FF, then colours": a solid block by its second byte, with colours that are infinity, a NaN, all ones and 0 as half floats
abbrev pub solid : ℕ → ℕ
solid second = number_of (0xFC ∷ second ∷ 0xFF ∷ 0xFF ∷ 0xFF ∷ 0xFF ∷ 0xFF ∷ 0xFF ∷ 0x00 ∷ 0x7C ∷ 0x01 ∷ 0x7E ∷ 0xFF ∷ 0xFF ∷ 0x00 ∷ 0x00 ∷ [])

-- the table: a new sample is one more entry
abbrev pub samples : List Sample
samples =
    -- "Trit codes 0, 28, 255: 0,0,0,0,0; 0,0,0,2,2; 2,1,2,2,2."
    sample (trits_of 0) (0 ∷ 0 ∷ 0 ∷ 0 ∷ 0 ∷ [])
    ∷ sample (trits_of 28) (0 ∷ 0 ∷ 0 ∷ 2 ∷ 2 ∷ [])
    ∷ sample (trits_of 255) (2 ∷ 1 ∷ 2 ∷ 2 ∷ 2 ∷ [])
    -- "Codes 11 and 15 both give 2,0,2,0,0; the writer uses 11."
    ∷ sample (trits_of 11) (2 ∷ 0 ∷ 2 ∷ 0 ∷ 0 ∷ [])
    ∷ sample (trits_of 15) (2 ∷ 0 ∷ 2 ∷ 0 ∷ 0 ∷ [])
    ∷ sample (code_of Trits (2 ∷ 0 ∷ 2 ∷ 0 ∷ 0 ∷ []) ∷ []) (11 ∷ [])
    -- "Quint codes 5, 6, 7, 127: 0,4,0; 4,4,0; 4,4,4; 1,3,4."
    ∷ sample (quints_of 5) (0 ∷ 4 ∷ 0 ∷ [])
    ∷ sample (quints_of 6) (4 ∷ 4 ∷ 0 ∷ [])
    ∷ sample (quints_of 7) (4 ∷ 4 ∷ 4 ∷ [])
    ∷ sample (quints_of 127) (1 ∷ 3 ∷ 4 ∷ [])
    -- "Bits: 6 numbers to 5 take 16; 18 take 47": range 4 reaches 5
    ∷ sample (most_at 4 ∷ range_bits 4 6 ∷ range_bits 4 18 ∷ []) (5 ∷ 16 ∷ 47 ∷ [])
    -- "one quint takes 3": range 3 is a quint with no bits, and reaches 4
    ∷ sample (most_at 3 ∷ range_bits 3 1 ∷ []) (4 ∷ 3 ∷ [])
    -- "Weight 3 of 0..5 is 52."
    ∷ sample (most_at 4 ∷ unquant_weight 4 3 ∷ []) (5 ∷ 52 ∷ [])
    -- "Endpoint 2 of 0..5 is 51, of 0..11 is 69."
    ∷ sample (most_at 4 ∷ unquant_endpoint 4 2 ∷ []) (5 ∷ 51 ∷ [])
    ∷ sample (most_at 7 ∷ unquant_endpoint 7 2 ∷ []) (11 ∷ 69 ∷ [])
    -- "Transfer of 192 onto 100: offset -32, base 178."
    ∷ record { computed = (bit_transfer 192 100).offset ∷ pos (bit_transfer 192 100).base ∷ []; wanted = neg_ℤ (pos 32) ∷ pos 178 ∷ [] }
    -- "Mode 1 with 255, 255: both 255."
    ∷ sample (pair_of 1 (level 255 ∷ level 255 ∷ [])).e0 (255 ∷ 255 ∷ 255 ∷ 255 ∷ [])
    ∷ sample (pair_of 1 (level 255 ∷ level 255 ∷ [])).e1 (255 ∷ 255 ∷ 255 ∷ 255 ∷ [])
    -- "Endpoints 0 and 1, weight 32: kind 0 gives 129; kind 1 gives colour 1", and by 02, d, "alpha 1"
    ∷ sample (halfway Unorm16) (129 ∷ 129 ∷ 129 ∷ 129 ∷ [])
    ∷ sample (halfway Srgb8) (1 ∷ 1 ∷ 1 ∷ 1 ∷ [])
    -- "Footprint width 8, grid 8, s = 7: column 7, fraction 0." Footprint 7 is 8x8.
    ∷ sample (width_of 7 ∷ grid_place (scale_of (width_of 7)) 7 8 / 16 ∷ grid_place (scale_of (width_of 7)) 7 8 % 16 ∷ []) (8 ∷ 7 ∷ 0 ∷ [])
    -- "The program's block above, texel 0,0, kind 0: 21504, 21504, 21504, 65535." Footprint 0 is 4x4.
    ∷ sample (map (block_number_at 0 Unorm16 program_block 0 0 0) (0 ∷ 1 ∷ 2 ∷ 3 ∷ [])) (21504 ∷ 21504 ∷ 21504 ∷ 65535 ∷ [])
    -- "All-zero block: 11."
    ∷ sample (fault_of false 0 0 ∷ []) (11 ∷ [])
    -- "All-one block: 14 at 4x4, 16 at 5x5." Footprint 2 is 5x5.
    ∷ sample (fault_of false 0 all_ones ∷ fault_of false 2 all_ones ∷ []) (14 ∷ 16 ∷ [])
    -- "FC FD and six FF, then colours: fine. The same block beginning FC FF: 13; beginning FC F9: 12." 02, i: "In kind 2 faults 13 and 20
    -- don't exist"
    ∷ sample (map (λ b. fault_of false 0 (solid b)) (0xFD ∷ 0xFF ∷ 0xF9 ∷ [])) (0 ∷ 13 ∷ 12 ∷ [])
    ∷ sample (map (λ b. fault_of true 0 (solid b)) (0xFD ∷ 0xFF ∷ 0xF9 ∷ [])) (0 ∷ 0 ∷ 12 ∷ [])
    -- 02, i: "An HDR solid block shows its four colours as stored, infinities and NaN too. What is LDR .. the half floats that 000 makes of it"
    ∷ sample (map (block_number_at 0 Float16 (solid 0xFF) 0 0 0) (0 ∷ 1 ∷ 2 ∷ 3 ∷ [])) (0x7C00 ∷ 0x7E01 ∷ 0xFFFF ∷ 0 ∷ [])
    ∷ sample (map (block_number_at 0 Float16 (solid 0xFD) 0 0 0) (0 ∷ 1 ∷ 2 ∷ 3 ∷ [])) (0x37C0 ∷ 0x37E0 ∷ 0x3C00 ∷ 0 ∷ [])
    ∷ []
