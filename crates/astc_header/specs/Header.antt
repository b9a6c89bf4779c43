-- 02, a: the 16-byte header of .astc files: what it says, and why a reader and a writer refuse it.
-- Assumes nothing.
use Rattle.std.specs.Prelude.{ℕ, zero, suc, ◌+◌, ◌*◌, ◌/◌, ◌%◌, Bool, not, List, [], ◌∷◌, ◌++◌, eqb, ltb, length, get_or, drop, Result, Ok, Err}
use Rattle.laws.specs.Choice.{pick, both, either}
use Rattle.laws.specs.Reasons.{Reason, when, first_of}
use Rattle.footprint.specs.Footprint.{width_of, height_of}
use Rattle.image_size.specs.Sides.{bad_side, blocks_of, size_refusal}
use Rattle.astc_header.specs.declared.FileHeader.{FileHeader}
use Rattle.reason.specs.declared.Refusal.{Refusal}
use Rattle.reason.specs.Numbers.{refusal_number}
use Rattle.reason.specs.Answers.{Answers}

-- ---- the header's parts

-- "must begin with the bytes 13 AB A1 5C"
abbrev pub start_bytes : List ℕ
start_bytes = 0x13 ∷ 0xAB ∷ 0xA1 ∷ 0x5C ∷ []

-- two lists begin with the same four numbers
abbrev pub same_four : List ℕ → List ℕ → Bool
same_four s t =
    both (eqb (get_or s 0 0) (get_or t 0 0)) (both (eqb (get_or s 1 0) (get_or t 1 0)) (both (eqb (get_or s 2 0) (get_or t 2 0)) (eqb (get_or s 3 0) (get_or t 3 0))))

-- a file's first four bytes are these
unfoldable pub has_start : List ℕ → Bool
has_start s = same_four s start_bytes

-- "then one byte each for block width, height and depth": the least of the n footprints from fp on that has these sides, 14 for none
unfoldable pub footprint_from : ℕ → ℕ → ℕ → ℕ → ℕ
footprint_from w h fp zero = 14
footprint_from w h fp (suc n) = pick (both (eqb (width_of fp) w) (eqb (height_of fp) h)) fp (footprint_from w h (suc fp) n)

-- the footprint with these sides, 14 where it is "not in the list"
unfoldable pub footprint_for : ℕ → ℕ → ℕ
footprint_for w h = footprint_from w h 0 14

-- "then three sizes of 3 bytes, low byte first": the one that begins at byte k
unfoldable pub size_at : List ℕ → ℕ → ℕ
size_at s k = get_or s k 0 + 256 * (get_or s (k + 1) 0 + 256 * get_or s (k + 2) 0)

-- what a header says
unfoldable pub header_in : List ℕ → FileHeader
header_in s = record { footprint = footprint_for (get_or s 4 0) (get_or s 5 0); width = size_at s 7; height = size_at s 10 }

-- how many blocks its sides ask for
abbrev pub blocks_in : FileHeader → ℕ
blocks_in h = blocks_of h.footprint h.width h.height

-- ---- reading

-- 43, the other way round: a footprint in the list, "depth and third size must be 1"
unfoldable pub known_shape : List ℕ → Bool
known_shape s = both (ltb (header_in s).footprint 14) (both (eqb (get_or s 6 0) 1) (eqb (size_at s 13) 1))

-- "tested in this order before 01's: 41 for fewer than 16 bytes, 42 for a wrong start, 43 for a footprint not in the list or a depth or
-- third size other than 1". In front of others
abbrev pub file_reasons : List ℕ → List Reason → List Reason
file_reasons s rest = when (ltb (length s) 16) 41 ∷ when (not (has_start s)) 42 ∷ when (not (known_shape s)) 43 ∷ rest

-- "Sizes and remaining length fall under refusals 3 and 4"; 0 for none
unfoldable pub header_refusal : List ℕ → ℕ
header_refusal s =
    let h = header_in s in
    first_of
    (file_reasons s
    (when (either (bad_side h.width) (bad_side h.height)) 3
    ∷ when (not (eqb (length (drop 16 s)) (16 * blocks_in h))) 4
    ∷ []))

-- what is answered for every file, lent whole: the refusal, or what the header says
abbrev pub header_answer : List ℕ → Result FileHeader Refusal → Type 0
header_answer s = Answers (header_refusal s) (header_in s)

-- the blocks' bytes: all that stands behind the header; none on a refusal
unfoldable pub file_blocks : List ℕ → List ℕ
file_blocks s = pick (eqb (header_refusal s) 0) (drop 16 s) []

-- the numbers told
pub record HeaderTold : Type 0 where
  pub refusal : ℕ
  pub footprint : ℕ
  pub width : ℕ
  pub height : ℕ

abbrev pub told_accepted : FileHeader → HeaderTold
told_accepted h = record { refusal = 0; footprint = h.footprint; width = h.width; height = h.height }

-- on a refusal "all other numbers told are 0"
abbrev pub told_refused : ℕ → HeaderTold
told_refused e = record { refusal = e; footprint = 0; width = 0; height = 0 }

-- the numbers of each case of the answer
abbrev pub told_of : Result FileHeader Refusal → HeaderTold
told_of (Err refusal) = told_refused (refusal_number refusal)
told_of (Ok h) = told_accepted h

-- what the reader tells of a file
unfoldable pub header_told : List ℕ → HeaderTold
header_told s = pick (eqb (header_refusal s) 0) (told_accepted (header_in s)) (told_refused (header_refusal s))

-- ---- writing

-- a size, low byte first
abbrev pub size_bytes : ℕ → List ℕ
size_bytes n = n % 256 ∷ n / 256 % 256 ∷ n / 256 / 256 ∷ []

-- the header of these blocks and sides; depth and third size are 1
abbrev pub header_bytes : ℕ → ℕ → ℕ → List ℕ
header_bytes fp w h = start_bytes ++ (width_of fp ∷ height_of fp ∷ 1 ∷ []) ++ size_bytes w ++ size_bytes h ++ size_bytes 1

-- what the writer answers: refused by 1 and 3, or the header's bytes
abbrev pub written_header : ℕ → ℕ → ℕ → Result (List ℕ) Refusal → Type 0
written_header fp w h = Answers (size_refusal fp w h) (header_bytes fp w h)
