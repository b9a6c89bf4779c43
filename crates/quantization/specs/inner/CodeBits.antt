-- The code bits of a count of numbers, for each encoding: made once for the search of a range.
-- Assumes nothing.
use Rattle.std.specs.Prelude.{ℕ, List, [], ◌∷◌}
use Rattle.encoding.specs.declared.Encoding.TheVariants.{Bits, Trits, Quints}
use Rattle.encoding.specs.Encoding.{code_bits}

-- the code bits of n numbers without a digit, with trits and with quints
abbrev pub codes_of : ℕ → List ℕ
codes_of n = code_bits Bits n ∷ code_bits Trits n ∷ code_bits Quints n ∷ []
