-- 01, "Numbers told to the caller": what a one-block call refuses, and the numbers of answers.
-- Assumes nothing.
use Rattle.std.specs.Prelude.{ℕ, ◌*◌, not, [], ◌∷◌, eqb, ltb}
use Rattle.laws.specs.Choice.{pick}
use Rattle.laws.specs.Reasons.{when, first_of}
use Rattle.footprint.specs.Footprint.{texels_of}
use Rattle.block_answer.specs.declared.Answer.{Answer}
use Rattle.block_answer.specs.declared.Answer.TheVariants.{Refused, Faulty, Done}

-- "The one-block call refuses 1, 4, 5": 1 footprint above 13 (02, h: 23); 4 block bytes not exactly 16; 5 result buffer not exactly 4 numbers for
-- each texel. 0 where it does not refuse.
unfoldable pub block_refusal : ℕ → ℕ → ℕ → ℕ
block_refusal fp bytes numbers =
    first_of (when (ltb 23 fp) 1 ∷ when (not (eqb bytes 16)) 4 ∷ when (not (eqb numbers (4 * texels_of fp))) 5 ∷ [])

-- 01's number of an answer: the refusal, the fault, or 0
abbrev pub number_told : Answer → ℕ
number_told (Refused n) = n
number_told (Faulty n) = n
number_told Done = 0

-- the answer of a block that is not refused, by its fault
unfoldable pub answer_for : ℕ → Answer
answer_for fault = pick (eqb fault 0) Done (Faulty fault)
