-- 000, "LDR Endpoint Decoding": the procedures that its modes share, over signed numbers. 01: "Transfers give an offset from -32 to 31; blue
-- contraction halves sums that may be negative, rounding down, and clamping comes last."
-- Assumes nothing.
use Rattle.std.specs.Prelude.{ℕ, ◌+◌, ◌*◌, ◌/◌, ◌%◌, min, List, [], ◌∷◌, ltb, ℤ, pos, negsuc, ◌+ℤ◌, ◌-ℤ◌}
use Rattle.std.specs.Int.Signed.{shr_z}
use Rattle.laws.specs.Choice.{pick}
use Rattle.endpoint_arithmetic.specs.declared.BaseOffset.{BaseOffset}

-- bit_transfer_signed(a, b), what it leaves in b: b >> 1, and above it the top bit of a
unfoldable pub base_of : ℕ → ℕ → ℕ
base_of a b = a / 128 * 128 + b / 2

-- bit_transfer_signed(a, b), what it leaves in a: the low six bits of a >> 1, less 64 where the highest of the six is set
unfoldable pub offset_of : ℕ → ℤ
offset_of a = pick (ltb (a / 2 % 64) 32) (pos (a / 2 % 64)) (pos (a / 2 % 64) -ℤ pos 64)

-- bit_transfer_signed(a, b)
unfoldable pub bit_transfer : ℕ → ℕ → BaseOffset
bit_transfer a b = record { base = base_of a b; offset = offset_of a }

-- a base with its offset added
unfoldable pub raised : BaseOffset → ℤ
raised t = pos t.base +ℤ t.offset

-- blue_contract, red or green: (x + blue) >> 1, which rounds down
unfoldable pub contracted : ℤ → ℤ → ℤ
contracted x blue = shr_z (x +ℤ blue) 2

-- clamp_unorm8, one channel
unfoldable pub clamped : ℤ → ℕ
clamped (pos n) = min n 255
clamped (negsuc n) = 0

-- an end (r, g, b, a) after clamp_unorm8
unfoldable pub plain_end : ℤ → ℤ → ℤ → ℤ → List ℕ
plain_end r g b a = clamped r ∷ clamped g ∷ clamped b ∷ clamped a ∷ []

-- an end (r, g, b, a) after blue_contract and then clamp_unorm8
unfoldable pub blue_end : ℤ → ℤ → ℤ → ℤ → List ℕ
blue_end r g b a = plain_end (contracted r b) (contracted g b) b a
