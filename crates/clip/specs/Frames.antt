-- 02, j: where a reader stands between frames and between blocks, and what whole frames hand out.
-- Assumes nothing.
use Rattle.std.specs.Prelude.{ℕ, zero, suc, ◌+◌, ◌%◌, ◌^◌, ◌≡◌, List, [], ◌∷◌, ◌++◌, length, take, drop}
use Rattle.clip_frame.specs.declared.Frame.{Frame}
use Rattle.clip_frame.specs.Frame.{blocks_in, frame_bytes, write_refusal}
use Rattle.clip.specs.declared.Phase.TheVariants.{Header, Blocks}
use Rattle.clip.specs.declared.Event.{Event}
use Rattle.clip.specs.declared.Event.TheVariants.{Block}
use Rattle.clip.specs.declared.Clip.{Clip}
use Rattle.clip.specs.Step.{zeros}

-- the reader waits for frame i; f is the frame before it
abbrev pub ready : ℕ → Frame → Clip
ready i f = record { phase = Header; have = 0; held = zeros; index = i; block = 0; last = 0; frame = f }

-- the reader waits for block j of frame i, whose last block is l
abbrev pub waits : ℕ → ℕ → ℕ → Frame → Clip
waits i j l f = record { phase = Blocks; have = 0; held = zeros; index = i; block = j; last = l; frame = f }

-- block j of frame i, handed out
abbrev pub handed_block : ℕ → ℕ → List ℕ → Event
handed_block i j bytes = Block i j bytes

-- n blocks of frame i, as they are handed out from block j on
unfoldable pub blocks_handed : ℕ → ℕ → ℕ → List ℕ → List Event
blocks_handed i j zero s = []
blocks_handed i j (suc n) s = handed_block i j (take 16 s) ∷ blocks_handed i (j + 1) n (drop 16 s)

-- a frame and its blocks that the writer takes, given a buffer of the right length
pub record Shot : Type 0 where
  pub frame : Frame
  pub blocks : List ℕ
  pub fine : write_refusal frame (length blocks) (10 + length blocks) ≡ 0

-- what the writer makes of them, one after the other
unfoldable pub frames_bytes : List Shot → List ℕ
frames_bytes [] = []
frames_bytes (k ∷ ks) = frame_bytes k.frame k.blocks ++ frames_bytes ks

-- their blocks in order, from frame i on, "frame index (modulo 2^32)"
unfoldable pub frames_handed : ℕ → List Shot → List Event
frames_handed i [] = []
frames_handed i (k ∷ ks) = blocks_handed i 0 (blocks_in k.frame) k.blocks ++ frames_handed ((i + 1) % 2 ^ 32) ks
