-- 01, "The program": what it refuses, and its text, as bytes.
-- Assumes nothing.
use Rattle.std.specs.Prelude.{ℕ, not, List, [], ◌∷◌, ◌++◌, eqb, ltb, length, get_or, take, drop}
use Rattle.laws.specs.Choice.{pick}
use Rattle.laws.specs.Reasons.{when, first_of}
use Rattle.bits.specs.Block.{number_of}
use Rattle.footprint.specs.Footprint.{width_of, texels_of}
use Rattle.interpolation.specs.declared.Kind.{Kind}
use Rattle.interpolation.specs.Expansion.{takes_hdr}
use Rattle.kind_number.specs.Kinds.{kind_of}
use Rattle.block_fault.specs.Faults.{fault_of}
use Rattle.texel.specs.BlockTexel.{block_numbers}
use Rattle.line_text.specs.Lines.{spaced, texel_line, lines_of}

-- the line "fault N", and the line "refused 4" with any refusal for 4
unfoldable pub fault_line : ℕ → List ℕ
fault_line n = (102 ∷ 97 ∷ 117 ∷ 108 ∷ 116 ∷ []) ++ spaced (n ∷ [])

unfoldable pub refused_line : ℕ → List ℕ
refused_line n = (114 ∷ 101 ∷ 102 ∷ 117 ∷ 115 ∷ 101 ∷ 100 ∷ []) ++ spaced (n ∷ [])

-- "fault N" (0 for none) and a line "x y r g b a" per texel
unfoldable pub block_text : ℕ → Kind → ℕ → List ℕ
block_text fp kind B =
    fault_line (fault_of (takes_hdr kind) fp B) ++ lines_of (texel_line (width_of fp) (λ k. get_or (block_numbers fp kind B) k 0)) (texels_of fp)

-- "It reads 18 bytes: footprint, kind, block. Any other length prints "refused 4"; then 1, then 2"; 02, i: "Refusal 2 moves to kinds above
-- 2". 0 where it does not refuse.
unfoldable pub program_refusal : ℕ → ℕ → ℕ → ℕ
program_refusal bytes fp kind = first_of (when (not (eqb bytes 18)) 4 ∷ when (ltb 13 fp) 1 ∷ when (ltb 2 kind) 2 ∷ [])

-- what the program writes for the bytes that it was given
unfoldable pub program_text : List ℕ → List ℕ
program_text s =
    let e = program_refusal (length s) (get_or s 0 0) (get_or s 1 0) in
    pick (eqb e 0) (block_text (get_or s 0 0) (kind_of (get_or s 1 0)) (number_of (take 16 (drop 2 s)))) (refused_line e)
