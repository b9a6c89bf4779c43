-- 02, j: a frame of a clip, its bytes both ways, and why a reader and a writer refuse it.
-- Assumes nothing.
use Rattle.std.specs.Prelude.{ℕ, ◌+◌, ◌*◌, ◌/◌, ◌%◌, ◌≡◌, not, List, [], ◌∷◌, ◌++◌, eqb, ltb, length, get_or}
use Rattle.laws.specs.Choice.{pick, either}
use Rattle.laws.specs.Reasons.{Reason, when, first_of}
use Rattle.image_size.specs.Sides.{bad_side, blocks_of}
use Rattle.clip_frame.specs.declared.Frame.{Frame}

-- how many blocks a frame has
abbrev pub blocks_in : Frame → ℕ
blocks_in f = blocks_of f.footprint f.width f.height

-- ---- the ten bytes before a frame's blocks

-- "a 4-byte length, high byte first, of the rest"
abbrev pub length_in : List ℕ → ℕ
length_in s = ((get_or s 0 0 * 256 + get_or s 1 0) * 256 + get_or s 2 0) * 256 + get_or s 3 0

-- "one byte each for flat footprint and kind, width and height of 2 bytes each, high byte first"
abbrev pub frame_in : List ℕ → Frame
frame_in s = record {
  footprint = get_or s 4 0;
  kind = get_or s 5 0;
  width = get_or s 6 0 * 256 + get_or s 7 0;
  height = get_or s 8 0 * 256 + get_or s 9 0;
}

-- the same written: n is the length
abbrev pub head_bytes : ℕ → Frame → List ℕ
head_bytes n f =
    n / 256 / 256 / 256 ∷ n / 256 / 256 % 256 ∷ n / 256 % 256 ∷ n % 256 ∷ f.footprint ∷ f.kind
    ∷ f.width / 256 ∷ f.width % 256 ∷ f.height / 256 ∷ f.height % 256 ∷ []

-- a whole frame, "then the blocks"; the rest past the length is six bytes and the blocks
unfoldable pub frame_bytes : Frame → List ℕ → List ℕ
frame_bytes f blocks = head_bytes (6 + length blocks) f ++ blocks

-- ---- refusals, the first reason that holds; 0 for none

-- "1, 2 and 3 with the limits then in force", which speak of the frame alone: flat footprints are 0 to 13, kinds 0 to 2 (02, i). In front of others
abbrev pub frame_reasons : Frame → List Reason → List Reason
frame_reasons f rest =
    when (ltb 13 f.footprint) 1 ∷ when (ltb 2 f.kind) 2 ∷ when (either (bad_side f.width) (bad_side f.height)) 3 ∷ rest

-- of a reader: "1, 2 and 3 .., tested before 52"; "Length must be 6 plus 16 for each block"
unfoldable pub frame_refusal : Frame → ℕ → ℕ
frame_refusal f n = first_of (frame_reasons f (when (not (eqb n (6 + 16 * blocks_in f))) 52 ∷ []))

-- of a writer: "refusing by 1 to 4, and by 5 where the result buffer isn't exactly 10 bytes plus the blocks"
unfoldable pub write_refusal : Frame → ℕ → ℕ → ℕ
write_refusal f bytes room =
    first_of (frame_reasons f (when (not (eqb bytes (16 * blocks_in f))) 4 ∷ when (not (eqb room (10 + bytes))) 5 ∷ []))

-- what the writer's result buffer holds then: the frame, or on a refusal what it held
unfoldable pub frame_out : Frame → List ℕ → List ℕ → List ℕ
frame_out f blocks old = pick (eqb (write_refusal f (length blocks) (length old)) 0) (frame_bytes f blocks) old

-- ---- what is proved of the bytes (theorem: proofs/Bytes.antt, `head_back`)

-- the ten bytes are read as they were written, and their length is that "of the rest"
pub record HeadBack : Type 0 where
  pub frame_back : (n : ℕ) (f : Frame) (s : List ℕ) → frame_in (head_bytes n f ++ s) ≡ f
  pub length_back : (n : ℕ) (f : Frame) (s : List ℕ) → length_in (head_bytes n f ++ s) ≡ n
  pub of_the_rest : (f : Frame) (s : List ℕ) → length (frame_bytes f s) ≡ 4 + length_in (frame_bytes f s)
