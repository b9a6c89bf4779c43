-- Kind 2: from any of 000's sixteen endpoint modes and its unquantised numbers to two ends of 16 bits, and which channels are HDR.
-- Assumes nothing.
use Rattle.std.specs.Prelude.{ℕ, ◌*◌, Bool, true, false, not, List, [], ◌∷◌, eqb, get_or}
use Rattle.laws.specs.Choice.{pick}
use Rattle.encoding.specs.declared.Level.{Level}
use Rattle.endpoint_arithmetic.specs.declared.EndpointPair.{EndpointPair}
use Rattle.hdr_endpoint.specs.declared.HdrPair.{HdrPair}
use Rattle.hdr_endpoint.specs.Parts.{one_hdr}
use Rattle.hdr_endpoint.specs.Luminance.{large_range, small_range}
use Rattle.hdr_endpoint.specs.Scale.{base_scale}
use Rattle.hdr_endpoint.specs.Direct.{direct, alphas_of}
use Rattle.color_endpoint.specs.Modes.{level_at, pair_of, is_hdr}
use Rattle.color_endpoint.specs.Table.{table_by}
use Rattle.endpoint_arithmetic.specs.Pair.{zero_pair}
use Rattle.interpolation.specs.Expansion.{replicated}
use Rattle.half_pair.specs.declared.HalfPair.{HalfPair}

-- 000, "HDR Endpoint Mode 14": "fill in the alphas", e0.alpha = v6, e1.alpha = v7
unfoldable pub mode14 : List Level → HdrPair
mode14 v = direct (level_at v 0) (level_at v 1) (level_at v 2) (level_at v 3) (level_at v 4) (level_at v 5) (level_at v 6) (level_at v 7)

-- 000, "HDR Endpoint Mode 15": mode 11's RGB, and alphas of their own
unfoldable pub mode15 : List Level → HdrPair
mode15 v =
    direct (level_at v 0) (level_at v 1) (level_at v 2) (level_at v 3) (level_at v 4) (level_at v 5)
    (alphas_of (level_at v 6) (level_at v 7)).0 (alphas_of (level_at v 6) (level_at v 7)).1

-- 000, "HDR Endpoint Mode 11": alphas of 1.0
unfoldable pub mode11 : List Level → HdrPair
mode11 v = direct (level_at v 0) (level_at v 1) (level_at v 2) (level_at v 3) (level_at v 4) (level_at v 5) one_hdr one_hdr

-- the pair of an HDR mode, 15 the last of them
unfoldable pub hdr_pair_of : ℕ → List Level → HdrPair
hdr_pair_of mode v =
    pick (eqb mode 2) (large_range (level_at v 0) (level_at v 1))
    (pick (eqb mode 3) (small_range (level_at v 0) (level_at v 1))
    (pick (eqb mode 7) (base_scale (level_at v 0) (level_at v 1) (level_at v 2) (level_at v 3))
    (pick (eqb mode 11) (mode11 v)
    (pick (eqb mode 14) (mode14 v)
    (mode15 v)))))

-- an endpoint's channel in 16 bits: HDR "shifted left 4 bits to become 16-bit integer values", LDR replicated
unfoldable pub expand_half : Bool → ℕ → ℕ
expand_half hdr c = pick hdr (16 * c) (replicated c)

-- an end, given whether its colours and its alpha are HDR
unfoldable pub half_end : Bool → Bool → List ℕ → List ℕ
half_end colour alpha e = expand_half colour (get_or e 0 0) ∷ expand_half colour (get_or e 1 0) ∷ expand_half colour (get_or e 2 0) ∷ expand_half alpha (get_or e 3 0) ∷ []

-- the pair of an HDR mode, given whether its alpha is HDR, and that of an LDR mode
unfoldable pub expanded_hdr : Bool → HdrPair → HalfPair
expanded_hdr alpha p = record { c0 = half_end true alpha p.e0; c1 = half_end true alpha p.e1; colour = true; alpha = alpha }

unfoldable pub expanded_ldr : EndpointPair → HalfPair
expanded_ldr p = record { c0 = half_end false false p.e0; c1 = half_end false false p.e1; colour = false; alpha = false }

-- the pair of a mode in kind 2; 02, i: "Mode 14 keeps alpha linear."
unfoldable pub half_pair_of : ℕ → List Level → HalfPair
half_pair_of mode v = pick (is_hdr mode) (expanded_hdr (not (eqb mode 14)) (hdr_pair_of mode v)) (expanded_ldr (pair_of mode v))

-- what stands for no partition: the pair of zeros
abbrev pub zero_half : HalfPair
zero_half = expanded_ldr zero_pair

-- what stands past the last pair
abbrev pub no_half : HalfPair
no_half = record { c0 = []; c1 = []; colour = false; alpha = false }

-- the pairs of four partitions
abbrev pub half_table_of : List ℕ → ℕ → List Level → List HalfPair
half_table_of modes count levels = table_by half_pair_of zero_half modes count levels
