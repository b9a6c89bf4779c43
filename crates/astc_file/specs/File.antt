-- 02, a: what a call that decodes a whole .astc file answers and leaves in the result buffer, for every file.
-- Assumes nothing.
use Rattle.std.specs.Prelude.{ℕ, ◌*◌, ◌≡◌, not, List, [], ◌∷◌, eqb, length, drop, Result}
use Rattle.laws.specs.Choice.{pick, either}
use Rattle.laws.specs.Reasons.{when, first_of}
use Rattle.interpolation.specs.declared.Kind.{Kind}
use Rattle.image_size.specs.Sides.{bad_side}
use Rattle.reason.specs.declared.Refusal.{Refusal}
use Rattle.reason.specs.Answers.{Answers}
use Rattle.image_layout.specs.declared.Tally.{Tally}
use Rattle.image_layout.specs.Call.{Told, image_refusal, image_tally, image_told, image_out}
use Rattle.astc_header.specs.Header.{header_in, blocks_in, file_reasons, header_refusal}

-- a file is refused by its header; any other as the image call refuses what its header says and the bytes behind it, and answers that call's faults
abbrev pub file_answer : Kind → List ℕ → ℕ → Result Tally Refusal → Type 0
file_answer kind s places =
    let h = header_in s in
    Answers (pick (eqb (header_refusal s) 0) (image_refusal h.footprint h.width h.height (length (drop 16 s)) places) (header_refusal s))
    (image_tally h.footprint kind h.width h.height (drop 16 s))

-- the numbers told, alike
unfoldable pub file_told : Kind → List ℕ → ℕ → Told
file_told kind s places =
    let h = header_in s in
    pick (eqb (header_refusal s) 0) (image_told h.footprint kind h.width h.height (drop 16 s) places)
    (record { refusal = header_refusal s; count = 0; first = 0; fault = 0 })

-- the result buffer, in each kind: what the image call leaves; "nothing is written" on a refusal
unfoldable pub file_out : Kind → List ℕ → List ℕ → List ℕ
file_out kind s old =
    let h = header_in s in
    pick (eqb (header_refusal s) 0) (image_out h.footprint kind h.width h.height (drop 16 s) old) old

-- ---- what is proved of it (theorem: proofs/Refusals.antt, `five_last`)

-- "tested in this order before 01's": 41, 42, 43, then 3, 4 and 5; 0 for none
unfoldable pub file_refusal : List ℕ → ℕ → ℕ
file_refusal s places =
    let h = header_in s in
    first_of
    (file_reasons s
    (when (either (bad_side h.width) (bad_side h.height)) 3
    ∷ when (not (eqb (length (drop 16 s)) (16 * blocks_in h))) 4
    ∷ when (not (eqb places (4 * (h.height * h.width)))) 5
    ∷ []))

-- the number that is told is the first in that order, in every kind
abbrev pub FiveLast : Kind → List ℕ → ℕ → Type 0
FiveLast kind s places = (file_told kind s places).refusal ≡ file_refusal s places
