-- 02, j: what some bytes do, what a feed takes of a piece, and the end.
-- Assumes nothing.
use Rattle.std.specs.Prelude.{ℕ, suc, Option, None, Some, List, [], ◌∷◌, ◌++◌, eqb}
use Rattle.laws.specs.Choice.{pick}
use Rattle.clip.specs.declared.Phase.{Phase}
use Rattle.clip.specs.declared.Phase.TheVariants.{Version, Header, Blocks, Over}
use Rattle.clip.specs.declared.Event.{Event}
use Rattle.clip.specs.declared.Event.TheVariants.{Told}
use Rattle.clip.specs.declared.Clip.{Clip}
use Rattle.clip.specs.declared.Step.{Step}
use Rattle.clip.specs.declared.Fed.{Fed}
use Rattle.clip.specs.declared.Finished.{Finished}
use Rattle.clip.specs.Step.{is_handed, entered, step_of}

-- what is handed out, as a list
abbrev pub handed_out : Option Event → List Event
handed_out None = []
handed_out (Some e) = e ∷ []

-- the state after some bytes
unfoldable pub run : Clip → List ℕ → Clip
run c [] = c
run c (b ∷ s) = run (step_of c b).clip s

-- all that is handed out over some bytes
unfoldable pub told : Clip → List ℕ → List Event
told c [] = []
told c (b ∷ s) = handed_out (step_of c b).event ++ told (step_of c b).clip s

-- ---- a feed

-- the piece is used up, nothing is handed out
abbrev pub used_up : Clip → ℕ → Fed
used_up c n = record { clip = c; taken = n; event = None }

-- a step that hands out ends the feed, n bytes being taken
abbrev pub fed_by : Step → ℕ → Fed
fed_by t n = record { clip = t.clip; taken = n; event = t.event }

abbrev pub one_more : Fed → Fed
one_more f = record { clip = f.clip; taken = suc f.taken; event = f.event }

-- "One feed stops at the byte that completes a block or a refusal and tells how many bytes it took, that byte included"
unfoldable pub go_on : Clip → List ℕ → Fed
go_on c [] = used_up c 0
go_on c (b ∷ s) = pick (is_handed (step_of c b).event) (fed_by (step_of c b) 1) (one_more (go_on (step_of c b).clip s))

-- "After a refusal the reader takes nothing more until a fresh start and repeats that number"
abbrev pub feed_in : Phase → Clip → List ℕ → Fed
feed_in Version c s = go_on c s
feed_in Header c s = go_on c s
feed_in Blocks c s = go_on c s
feed_in (Over n) c s = record { clip = c; taken = 0; event = Some (Told n) }

unfoldable pub feed_of : Clip → List ℕ → Fed
feed_of c s = feed_in c.phase c s

-- ---- the end

-- "inside a frame, or before the version byte, tells 53; after a refusal it repeats that number; else it tells 0"
abbrev pub finish_number : Phase → ℕ → ℕ
finish_number Version n = 53
finish_number Header n = pick (eqb n 0) 0 53
finish_number Blocks n = 53
finish_number (Over k) n = k

-- "After that nothing is taken until a fresh start, and the same number is repeated"
unfoldable pub finish_of : Clip → Finished
finish_of c = let n = finish_number c.phase c.have in record { clip = entered c (Over n); number = n }
