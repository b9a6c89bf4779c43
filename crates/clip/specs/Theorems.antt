-- 02, j: what is proved of the reader's rules. Theorems: proofs/Cut.antt, `one_feed`, `cut`, `fixed`; proofs/Timely.antt, `timely`;
-- proofs/ForGood.antt, `for_good`; proofs/ReadBack.antt, `ends`, `read_back`.
-- Assumes nothing.
use Rattle.std.specs.Prelude.{ℕ, ◌+◌, ◌-◌, ◌%◌, ◌^◌, ◌≤◌, ◌<◌, ◌≡◌, true, false, Some, List, [], ◌∷◌, ◌++◌, eqb, length, take}
use Rattle.laws.specs.Choice.{pick}
use Rattle.clip_frame.specs.declared.Frame.{Frame}
use Rattle.clip_frame.specs.Frame.{blocks_in, length_in, frame_in, frame_refusal, frame_bytes}
use Rattle.clip.specs.declared.Phase.TheVariants.{Over}
use Rattle.clip.specs.declared.Event.TheVariants.{Told}
use Rattle.clip.specs.declared.Clip.{Clip}
use Rattle.clip.specs.declared.Fed.{Fed}
use Rattle.clip.specs.Step.{fresh_of, is_handed}
use Rattle.clip.specs.Feed.{handed_out, run, told, feed_of, finish_of}
use Rattle.clip.specs.Pieces.{is_over, end_by, taken_by, out_by, pieces_read, joined}
use Rattle.clip.specs.Frames.{ready, waits, handed_block, blocks_handed, Shot, frames_bytes, frames_handed}

-- one feed of a piece p, whose answer is f
pub record OneFeed (c : Clip) (p : List ℕ) (f : Fed) : Type 0 where
  -- state and what is handed out are those of the bytes that it took
  pub state : f.clip ≡ run c (take f.taken p)
  pub out : pick (is_over c) [] (handed_out f.event) ≡ told c (take f.taken p)
  pub within : f.taken ≤ length p
  -- it stops before the piece's end only where something is handed out, and hands out nothing without taking a byte
  pub stops : is_handed f.event ≡ false → f.taken ≡ length p
  pub moves : is_over c ≡ false → is_handed f.event ≡ true → 0 < f.taken
  -- "stops at the byte that completes a block or a refusal": fewer bytes than it took hand out nothing
  pub not_before : (n : ℕ) → n < f.taken → told c (take n p) ≡ []

-- "Cut anywhere after a fresh start, empty pieces included, the blocks, refusal and end state are the same"
pub record Cut : Type 0 where
  -- bytes a and then bytes b do what both do at once
  pub run_cut : (c : Clip) (a b : List ℕ) → run c (a ++ b) ≡ run (run c a) b
  pub told_cut : (c : Clip) (a b : List ℕ) → told c (a ++ b) ≡ told c a ++ told (run c a) b
  pub one_feed : (c : Clip) (p : List ℕ) → OneFeed c p (feed_of c p)
  -- the caller's loop over any pieces ends and hands out as their bytes do at once
  pub anywhere : (c : Clip) (ps : List (List ℕ)) → pieces_read c ps ≡ record { clip = run c (joined ps); out = told c (joined ps) }

-- "what is handed out after each piece is fixed by the bytes taken since that start", whatever pieces were fed
pub record Fixed : Type 0 where
  pub state : (c : Clip) (ps : List (List ℕ)) → end_by c ps ≡ run c (taken_by c ps)
  pub out : (c : Clip) (ps : List (List ℕ)) → out_by c ps ≡ told c (taken_by c ps)

-- "A version that does its work at the end must not pass": what the bytes bring, and when. Any machine that goes byte by byte has the laws
-- of cuts, one that waits for the end as well; it does not have these
pub record Timely : Type 0 where
  -- "each block as its sixteenth byte arrives": fewer hand out nothing, sixteen that block
  pub block_not_earlier : (i j l : ℕ) (f : Frame) (s : List ℕ) → length s < 16 → told (waits i j l f) s ≡ []
  pub block_handed : (i j l : ℕ) (f : Frame) (s : List ℕ) → length s ≡ 16 → told (waits i j l f) s ≡ handed_block i j s ∷ []
  -- the reader then waits for the frame's next block, or for the next frame
  pub next_block_lem : (i j l : ℕ) (f : Frame) (s : List ℕ) → length s ≡ 16 → j < l → run (waits i j l f) s ≡ waits i (j + 1) l f
  pub next_frame_lem : (i j l : ℕ) (f : Frame) (s : List ℕ) → length s ≡ 16 → l ≤ j → run (waits i j l f) s ≡ ready ((i + 1) % 2 ^ 32) f
  -- "told at a frame's tenth byte, not earlier"
  pub frame_not_earlier : (i : ℕ) (g : Frame) (s : List ℕ) → length s < 10 → told (ready i g) s ≡ []
  pub frame_told : (i : ℕ) (g : Frame) (s : List ℕ) → length s ≡ 10
      → told (ready i g) s
      ≡ pick (eqb (frame_refusal (frame_in s) (length_in s)) 0) [] (Told (frame_refusal (frame_in s) (length_in s)) ∷ [])
  -- a frame that is not refused: the reader waits for its first block
  pub frame_begun : (i : ℕ) (g : Frame) (s : List ℕ) → length s ≡ 10 → frame_refusal (frame_in s) (length_in s) ≡ 0
      → run (ready i g) s ≡ waits i 0 (blocks_in (frame_in s) - 1) (frame_in s)
  -- "51 other version, told at the first byte"
  pub version_told : (b : ℕ) → told fresh_of (b ∷ []) ≡ pick (eqb b 1) [] (Told 51 ∷ [])
  -- after "one version byte, 1" it waits for frame 0
  pub version_taken : run fresh_of (1 ∷ []) ≡ ready 0 fresh_of.frame

-- "After a refusal the reader takes nothing more until a fresh start and repeats that number"; after the end "nothing is taken until a fresh
-- start, and the same number is repeated"
pub record ForGood : Type 0 where
  -- bytes that come then change nothing and bring nothing
  pub run_over : (c : Clip) (s : List ℕ) → is_over c ≡ true → run c s ≡ c
  pub told_over : (c : Clip) (s : List ℕ) → is_over c ≡ true → told c s ≡ []
  -- a feed that tells a number has come to this,
  pub refused : (c : Clip) (s : List ℕ) (n : ℕ) → (feed_of c s).event ≡ Some (Told n) → (feed_of c s).clip.phase ≡ Over n
  -- and any feed after it, an empty one too, and finishing repeat the number
  pub fed_again : (c : Clip) (n : ℕ) (s : List ℕ) → c.phase ≡ Over n → feed_of c s ≡ record { clip = c; taken = 0; event = Some (Told n) }
  pub finished_again : (c : Clip) (n : ℕ) → c.phase ≡ Over n → (finish_of c).number ≡ n
  -- finishing is such an end
  pub finished : (c : Clip) → (finish_of c).clip.phase ≡ Over (finish_of c).number

-- "Saying the clip is finished inside a frame, or before the version byte, tells 53 ..; else it tells 0"
pub record Ends : Type 0 where
  pub before_the_version : (finish_of fresh_of).number ≡ 53
  pub in_a_header : (i : ℕ) (g : Frame) (s : List ℕ) → 0 < length s → length s < 10 → (finish_of (run (ready i g) s)).number ≡ 53
  pub in_a_block : (i j l : ℕ) (f : Frame) (s : List ℕ) → length s < 16 → (finish_of (run (waits i j l f) s)).number ≡ 53
  pub between_frames : (i : ℕ) (g : Frame) → (finish_of (ready i g)).number ≡ 0
  pub after_whole_frames : (ks : List Shot) → (finish_of (run fresh_of (1 ∷ frames_bytes ks))).number ≡ 0

-- what the writer makes is read as what it was made of
pub record ReadBack : Type 0 where
  -- a frame
  pub frame_run : (i : ℕ) (g : Frame) (k : Shot) → run (ready i g) (frame_bytes k.frame k.blocks) ≡ ready ((i + 1) % 2 ^ 32) k.frame
  pub frame_out_lem : (i : ℕ) (g : Frame) (k : Shot)
      → told (ready i g) (frame_bytes k.frame k.blocks) ≡ blocks_handed i 0 (blocks_in k.frame) k.blocks
  -- a whole clip: version byte 1 and any frames
  pub whole : (ks : List Shot) → told fresh_of (1 ∷ frames_bytes ks) ≡ frames_handed 0 ks
