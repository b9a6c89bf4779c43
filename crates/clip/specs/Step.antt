-- 02, j: what one byte of a clip does to the reader, and what it brings.
-- Assumes nothing.
use Rattle.std.specs.Prelude.{ℕ, ◌+◌, ◌-◌, ◌^◌, ◌%◌, Bool, Option, None, Some, List, [], ◌∷◌, eqb, ltb, set}
use Rattle.std.specs.Option.{is_some}
use Rattle.laws.specs.Choice.{pick}
use Rattle.clip_frame.specs.declared.Frame.{Frame}
use Rattle.clip_frame.specs.Frame.{blocks_in, length_in, frame_in, frame_refusal}
use Rattle.clip.specs.declared.Phase.{Phase}
use Rattle.clip.specs.declared.Phase.TheVariants.{Version, Header, Blocks, Over}
use Rattle.clip.specs.declared.Event.{Event}
use Rattle.clip.specs.declared.Event.TheVariants.{Block, Told}
use Rattle.clip.specs.declared.Clip.{Clip}
use Rattle.clip.specs.declared.Step.{Step}

abbrev pub zeros : List ℕ
zeros = 0 ∷ 0 ∷ 0 ∷ 0 ∷ 0 ∷ 0 ∷ 0 ∷ 0 ∷ 0 ∷ 0 ∷ 0 ∷ 0 ∷ 0 ∷ 0 ∷ 0 ∷ 0 ∷ []

-- a fresh start: nothing taken, frame 0 to come
abbrev pub fresh_of : Clip
fresh_of = record { phase = Version; have = 0; held = zeros; index = 0; block = 0; last = 0; frame = record { footprint = 0; kind = 0; width = 0; height = 0 } }

-- something is handed out
abbrev pub is_handed : Option Event → Bool
is_handed e = is_some e

-- another phase, nothing held
abbrev pub entered : Clip → Phase → Clip
entered c p = record { phase = p; have = 0; held = zeros; index = c.index; block = c.block; last = c.last; frame = c.frame }

abbrev pub quiet : Clip → Step
quiet c = record { clip = c; event = None }

-- a refusal is told, and nothing is waited for any more
abbrev pub over : Clip → ℕ → Step
over c n = record { clip = entered c (Over n); event = Some (Told n) }

-- the first byte: "one version byte, 1"; "51 other version, told at the first byte"
unfoldable pub version_step : Clip → ℕ → Step
version_step c b = pick (eqb b 1) (quiet (entered c Header)) (over c 51)

-- a byte that completes nothing
abbrev pub more : Clip → ℕ → Step
more c b = quiet (record { phase = c.phase; have = c.have + 1; held = set c.held c.have b; index = c.index; block = c.block; last = c.last; frame = c.frame })

-- ---- a frame's ten bytes

-- the first of the frame's blocks is waited for
abbrev pub begun : Clip → Frame → Clip
begun c f = record { phase = Blocks; have = 0; held = zeros; index = c.index; block = 0; last = blocks_in f - 1; frame = f }

-- the tenth byte: "These four are told at a frame's tenth byte, not earlier."
unfoldable pub checked : Clip → List ℕ → Step
checked c s = pick (eqb (frame_refusal (frame_in s) (length_in s)) 0) (quiet (begun c (frame_in s))) (over c (frame_refusal (frame_in s) (length_in s)))

unfoldable pub header_step : Clip → ℕ → Step
header_step c b = pick (ltb c.have 9) (more c b) (checked c (set c.held 9 b))

-- ---- blocks

-- past a block: the frame's next one, or the next frame's ten bytes, its index "modulo 2^32"
abbrev pub next_block : Clip → Clip
next_block c = record { phase = Blocks; have = 0; held = zeros; index = c.index; block = c.block + 1; last = c.last; frame = c.frame }

abbrev pub next_frame : Clip → Clip
next_frame c = record { phase = Header; have = 0; held = zeros; index = (c.index + 1) % 2 ^ 32; block = 0; last = 0; frame = c.frame }

unfoldable pub past : Clip → Clip
past c = pick (ltb c.block c.last) (next_block c) (next_frame c)

-- the sixteenth byte: the block is handed out "with frame index (modulo 2^32) and block index"
abbrev pub handed : Clip → List ℕ → Step
handed c s = record { clip = past c; event = Some (Block c.index c.block s) }

unfoldable pub block_step : Clip → ℕ → Step
block_step c b = pick (ltb c.have 15) (more c b) (handed c (set c.held 15 b))

-- one byte, by what is waited for; after a refusal or the end nothing happens
abbrev pub step_in : Phase → Clip → ℕ → Step
step_in Version c b = version_step c b
step_in Header c b = header_step c b
step_in Blocks c b = block_step c b
step_in (Over n) c b = quiet c

unfoldable pub step_of : Clip → ℕ → Step
step_of c b = step_in c.phase c b
