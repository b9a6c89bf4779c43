-- 02, j: a reader's state as a flat list of 26 numbers, and the calls over it.
-- Assumes nothing.
use Rattle.std.specs.Prelude.{ℕ, ◌+◌, ◌%◌, not, Option, None, Some, List, [], ◌∷◌, length, ◌==◌, slice_index}
use Rattle.laws.specs.Choice.{pick}
use Rattle.laws.specs.Table.{tab}
use Rattle.laws.specs.Reasons.{when, first_of}
use Rattle.clip_frame.specs.declared.Frame.{Frame}
use Rattle.clip.specs.declared.Phase.{Phase}
use Rattle.clip.specs.declared.Phase.TheVariants.{Version, Header, Blocks, Over}
use Rattle.clip.specs.declared.Event.{Event}
use Rattle.clip.specs.declared.Event.TheVariants.{Block, Told}
use Rattle.clip.specs.declared.Clip.{Clip}
use Rattle.clip.specs.declared.Fed.{Fed}
use Rattle.clip.specs.Step.{zeros, fresh_of}
use Rattle.clip.specs.Feed.{feed_of, finish_of}

-- ---- a state as 26 numbers: phase (0 version, 1 header, 2 blocks, 3 over), the number told, how many bytes are held, frame index, block index,
-- the last block's index, footprint, kind, width, height of the frame last begun, and the sixteen bytes held

abbrev pub phase_number : Phase → ℕ
phase_number Version = 0
phase_number Header = 1
phase_number Blocks = 2
phase_number (Over n) = 3

abbrev pub phase_told : Phase → ℕ
phase_told Version = 0
phase_told Header = 0
phase_told Blocks = 0
phase_told (Over n) = n

unfoldable pub state_numbers : Clip → List ℕ
state_numbers c =
    phase_number c.phase ∷ phase_told c.phase ∷ c.have ∷ c.index ∷ c.block ∷ c.last
    ∷ c.frame.footprint ∷ c.frame.kind ∷ c.frame.width ∷ c.frame.height ∷ c.held

-- every list of numbers stands for a state: phases above 2 are over, bytes are taken modulo 256
unfoldable pub phase_of : ℕ → ℕ → Phase
phase_of n told = pick (n == 0) Version (pick (n == 1) Header (pick (n == 2) Blocks (Over (told % 256))))

unfoldable pub frame_from : List ℕ → Frame
frame_from s = record { footprint = slice_index s 6 % 256; kind = slice_index s 7 % 256; width = slice_index s 8; height = slice_index s 9 }

unfoldable pub held_of : List ℕ → List ℕ
held_of s = tab (λ k. slice_index s (10 + k) % 256) 16

unfoldable pub clip_of : List ℕ → Clip
clip_of s = record {
  phase = phase_of (slice_index s 0) (slice_index s 1);
  have = slice_index s 2 % 256;
  held = held_of s;
  index = slice_index s 3;
  block = slice_index s 4;
  last = slice_index s 5;
  frame = frame_from s;
}

-- ---- what a feed tells as 8 numbers: bytes taken, 1 where a block is handed out, else 0, its frame's index and its own, and the footprint,
-- kind, width and height of the frame last begun, which is the block's

abbrev pub handed_block_numbers : ℕ → ℕ → Frame → List ℕ
handed_block_numbers i j f = 1 ∷ i ∷ j ∷ f.footprint ∷ f.kind ∷ f.width ∷ f.height ∷ []

abbrev pub handed_numbers : Option Event → Frame → List ℕ
handed_numbers None f = 0 ∷ 0 ∷ 0 ∷ f.footprint ∷ f.kind ∷ f.width ∷ f.height ∷ []
handed_numbers (Some (Block i j s)) f = handed_block_numbers i j f
handed_numbers (Some (Told n)) f = 0 ∷ 0 ∷ 0 ∷ f.footprint ∷ f.kind ∷ f.width ∷ f.height ∷ []

unfoldable pub feed_numbers : Fed → List ℕ
feed_numbers f = f.taken ∷ handed_numbers f.event f.clip.frame

-- the number told, 0 for none
abbrev pub event_number : Option Event → ℕ
event_number None = 0
event_number (Some (Block i j s)) = 0
event_number (Some (Told n)) = n

-- the sixteen bytes of the block that is handed out, else zeros
abbrev pub event_bytes : Option Event → List ℕ
event_bytes None = zeros
event_bytes (Some (Block i j s)) = s
event_bytes (Some (Told n)) = zeros

-- ---- the calls: 5 where a lent list is not exactly as long as said, which leaves all of them as they were

unfoldable pub start_number : ℕ → ℕ
start_number n = first_of (when (not (n == 26)) 5 ∷ [])

unfoldable pub start_state : List ℕ → List ℕ
start_state s = pick (length s == 26) (state_numbers fresh_of) s

-- of lists of so many numbers
unfoldable pub feed_refusal : ℕ → ℕ → ℕ → ℕ
feed_refusal state block told = first_of (when (not (state == 26)) 5 ∷ when (not (block == 16)) 5 ∷ when (not (told == 8)) 5 ∷ [])

module _ (s p block told : List ℕ) where
  abbrev pub refused_by : ℕ
  refused_by = feed_refusal (length s) (length block) (length told)

  -- what is answered, and what the three lists hold then
  unfoldable pub feed_number : ℕ
  feed_number = pick (refused_by == 0) (event_number (feed_of (clip_of s) p).event) refused_by

  unfoldable pub feed_state : List ℕ
  feed_state = pick (refused_by == 0) (state_numbers (feed_of (clip_of s) p).clip) s

  unfoldable pub feed_block : List ℕ
  feed_block = pick (refused_by == 0) (event_bytes (feed_of (clip_of s) p).event) block

  unfoldable pub feed_told : List ℕ
  feed_told = pick (refused_by == 0) (feed_numbers (feed_of (clip_of s) p)) told

unfoldable pub finish_numbered : List ℕ → ℕ
finish_numbered s = pick (length s == 26) (finish_of (clip_of s)).number 5

unfoldable pub finish_state : List ℕ → List ℕ
finish_state s = pick (length s == 26) (state_numbers (finish_of (clip_of s)).clip) s
