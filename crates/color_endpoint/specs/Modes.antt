-- 000, "LDR Endpoint Decoding": from a colour endpoint mode (CEM) and its unquantised numbers v0, v1, .. to the ends e0 and e1.
-- 01: "Endpoint modes as printed in 003.", which prints the same.
-- Assumes nothing.
use Rattle.std.specs.Prelude.{ℕ, ◌+◌, ◌*◌, ◌/◌, ◌%◌, min, Bool, List, [], ◌∷◌, eqb, pos, get_or}
use Rattle.laws.specs.Choice.{pick, either}
use Rattle.encoding.specs.declared.Level.{Level}
use Rattle.endpoint_arithmetic.specs.declared.BaseOffset.{BaseOffset}
use Rattle.endpoint_arithmetic.specs.declared.EndpointPair.{EndpointPair}
use Rattle.endpoint_arithmetic.specs.Signed.{bit_transfer}
use Rattle.endpoint_arithmetic.specs.Pair.{zero_pair, luminance_pair, scaled_pair, direct_pair, raised_pair, offset_pair}

-- what stands past the last number
abbrev pub no_level : Level
no_level = record { 0 = 0 }

-- the number v(i), 0 past the last
abbrev pub level_at : List Level → ℕ → ℕ
level_at v i = (get_or v i no_level).0

-- "Mode 0 LDR Luminance, direct"
unfoldable pub mode0 : List Level → EndpointPair
mode0 v = luminance_pair (level_at v 0) (level_at v 1) 255 255

-- mode 1's L0 = (v0 >> 2) | (v1 & 0xC0)
unfoldable pub low_luminance : ℕ → ℕ → ℕ
low_luminance v0 v1 = v1 / 64 * 64 + v0 / 4

-- mode 1's L1 = L0 + (v1 & 0x3F), at most 0xFF
unfoldable pub high_luminance : ℕ → ℕ → ℕ
high_luminance v0 v1 = min (low_luminance v0 v1 + v1 % 64) 255

-- "Mode 1 LDR Luminance, base+offset"
unfoldable pub mode1 : List Level → EndpointPair
mode1 v = luminance_pair (low_luminance (level_at v 0) (level_at v 1)) (high_luminance (level_at v 0) (level_at v 1)) 255 255

-- "Mode 4 LDR Luminance+Alpha,direct"
unfoldable pub mode4 : List Level → EndpointPair
mode4 v = luminance_pair (level_at v 0) (level_at v 1) (level_at v 2) (level_at v 3)

-- bit_transfer_signed(v(i+1), vi)
abbrev pub transfer : List Level → ℕ → BaseOffset
transfer v i = bit_transfer (level_at v (i + 1)) (level_at v i)

-- "Mode 5 LDR Luminance+Alpha, base+offset"
unfoldable pub mode5 : List Level → EndpointPair
mode5 v = raised_pair (transfer v 0) (transfer v 0) (transfer v 0) (transfer v 2)

-- "Mode 6 LDR RGB, base+scale"
unfoldable pub mode6 : List Level → EndpointPair
mode6 v = scaled_pair (level_at v 0) (level_at v 1) (level_at v 2) (level_at v 3) 255 255

-- "Mode 8 LDR RGB, Direct"
unfoldable pub mode8 : List Level → EndpointPair
mode8 v = direct_pair (level_at v 0 ∷ level_at v 2 ∷ level_at v 4 ∷ 255 ∷ []) (level_at v 1 ∷ level_at v 3 ∷ level_at v 5 ∷ 255 ∷ [])

-- an alpha of 0xFF that has no offset
abbrev pub opaque : BaseOffset
opaque = record { base = 255; offset = pos 0 }

-- "Mode 9 LDR RGB, base+offset"
unfoldable pub mode9 : List Level → EndpointPair
mode9 v = offset_pair (transfer v 0) (transfer v 2) (transfer v 4) opaque

-- "Mode 10 LDR RGB, base+scale plus two A"
unfoldable pub mode10 : List Level → EndpointPair
mode10 v = scaled_pair (level_at v 0) (level_at v 1) (level_at v 2) (level_at v 3) (level_at v 4) (level_at v 5)

-- "Mode 12 LDR RGBA, direct"
unfoldable pub mode12 : List Level → EndpointPair
mode12 v = direct_pair (level_at v 0 ∷ level_at v 2 ∷ level_at v 4 ∷ level_at v 6 ∷ []) (level_at v 1 ∷ level_at v 3 ∷ level_at v 5 ∷ level_at v 7 ∷ [])

-- "Mode 13 LDR RGBA, base+offset"
unfoldable pub mode13 : List Level → EndpointPair
mode13 v = offset_pair (transfer v 0) (transfer v 2) (transfer v 4) (transfer v 6)

-- the pair of a mode; of one that is not LDR, or no mode, the pair of zeros
unfoldable pub pair_of : ℕ → List Level → EndpointPair
pair_of mode v =
    pick (eqb mode 0) (mode0 v)
    (pick (eqb mode 1) (mode1 v)
    (pick (eqb mode 4) (mode4 v)
    (pick (eqb mode 5) (mode5 v)
    (pick (eqb mode 6) (mode6 v)
    (pick (eqb mode 8) (mode8 v)
    (pick (eqb mode 9) (mode9 v)
    (pick (eqb mode 10) (mode10 v)
    (pick (eqb mode 12) (mode12 v)
    (pick (eqb mode 13) (mode13 v)
    zero_pair)))))))))

-- modes 2, 3, 7, 11, 14 and 15 are HDR
unfoldable pub is_hdr : ℕ → Bool
is_hdr m = either (eqb m 2) (either (eqb m 3) (either (eqb m 7) (either (eqb m 11) (either (eqb m 14) (eqb m 15)))))
