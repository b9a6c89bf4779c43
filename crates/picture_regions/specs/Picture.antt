-- Where the numbers of a picture stand.
-- Assumes nothing.
use Rattle.std.specs.Prelude.{ℕ, ◌+◌, ◌*◌}

-- 01: "Channels are R, G, B, A, rows first": where channel c of the texel in column x of row q stands, in rows of w texels
abbrev pub place : ℕ → ℕ → ℕ → ℕ → ℕ
place w x q c = 4 * (q * w + x) + c
