-- What was packed is read back. 01, "How strict each statement must be": "Packing facts are shown once over the digit count and bit width."
-- Assumes nothing.
use Rattle.std.specs.Prelude.{◌≡◌, List, ℕ, ◌+◌, ◌*◌, ◌^◌, ◌<◌, length, get_or}
use Rattle.encoding.specs.declared.Encoding.{Encoding}
use Rattle.encoding.specs.Encoding.{sequence_bits}
use Rattle.integer_sequence.specs.Reading.{number, sequence_at}
use Rattle.integer_sequence.specs.Writing.{packed, InRange}

-- the numbers xs, laid from bit `from` on, are read back, whatever lies below bit `from` and above their end. Theorem: proofs/RoundTrip.antt,
-- `round_trip_at`.
abbrev pub PackedReadBack : Type 0
PackedReadBack =
    (e : Encoding) (b : ℕ) (xs : List ℕ) → InRange e b xs → (hi lo from : ℕ) → lo < 2 ^ from → (i : ℕ) → i < length xs
    → number e b (sequence_at e b ((hi * 2 ^ sequence_bits e b (length xs) + packed e b xs) * 2 ^ from + lo) from (length xs)) i ≡ get_or xs i 0
