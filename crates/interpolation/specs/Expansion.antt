-- 000, "Weight Application": endpoints expanded to 16 bits (01: widened), and what a kind shows of a 16-bit number.
-- Assumes nothing.
use Rattle.std.specs.Prelude.{ℕ, ◌+◌, ◌*◌, ◌/◌, Bool, true, false, List, [], ◌∷◌, slice_index}
use Rattle.endpoint_arithmetic.specs.declared.EndpointPair.{EndpointPair}
use Rattle.interpolation.specs.declared.ExpandedPair.{ExpandedPair}
use Rattle.interpolation.specs.declared.Kind.{Kind}
use Rattle.interpolation.specs.declared.Kind.TheVariants.{Unorm16, Srgb8, Float16}

-- C = (C << 8) | C
unfoldable pub replicated : ℕ → ℕ
replicated c = 257 * c

-- C = (C << 8) | 0x80
unfoldable pub centred : ℕ → ℕ
centred c = 256 * c + 128

-- a channel of an LDR endpoint, 01: "257c in kind 0"; 02, d: "in kind 1, all four channels widen to 256c+128"; in kind 2 as 000 does for
-- decode_float16, C = (C << 8) | C
abbrev pub expand_of : Kind → ℕ → ℕ
expand_of Unorm16 c = replicated c
expand_of Srgb8 c = centred c
expand_of Float16 c = replicated c

-- an endpoint
unfoldable pub expanded_end : Kind → List ℕ → List ℕ
expanded_end kind e = expand_of kind (slice_index e 0) ∷ expand_of kind (slice_index e 1) ∷ expand_of kind (slice_index e 2) ∷ expand_of kind (slice_index e 3) ∷ []

-- an endpoint pair
unfoldable pub expanded_pair : Kind → EndpointPair → ExpandedPair
expanded_pair kind p = record { c0 = expanded_end kind p.e0; c1 = expanded_end kind p.e1 }

-- what stands past the last pair
abbrev pub no_pair : EndpointPair
no_pair = record { e0 = []; e1 = [] }

-- what is shown of a 16-bit number: itself in kind 0, its top byte in kind 1; in kind 2 it is a half float's pattern already
abbrev pub shown_of : Kind → ℕ → ℕ
shown_of Unorm16 n = n
shown_of Srgb8 n = n / 256
shown_of Float16 n = n

-- 02, i: "In kind 2 faults 13 and 20 don't exist": whether HDR is taken in a kind
abbrev pub takes_hdr : Kind → Bool
takes_hdr Unorm16 = false
takes_hdr Srgb8 = false
takes_hdr Float16 = true
