-- 02, j: pieces that are fed one after the other, "empty pieces included".
-- Assumes nothing.
use Rattle.std.specs.Prelude.{ℕ, zero, suc, Bool, true, false, not, List, [], ◌∷◌, ◌++◌, length, take, drop}
use Rattle.laws.specs.Choice.{pick, either}
use Rattle.clip.specs.declared.Phase.{Phase}
use Rattle.clip.specs.declared.Phase.TheVariants.{Version, Header, Blocks, Over}
use Rattle.clip.specs.declared.Event.{Event}
use Rattle.clip.specs.declared.Clip.{Clip}
use Rattle.clip.specs.Step.{is_handed}
use Rattle.clip.specs.Feed.{handed_out, feed_of}

abbrev pub is_over_in : Phase → Bool
is_over_in Version = false
is_over_in Header = false
is_over_in Blocks = false
is_over_in (Over n) = true

-- a refusal or the end was told: nothing is taken any more
abbrev pub is_over : Clip → Bool
is_over c = is_over_in c.phase

-- ---- pieces that were fed, each once, whatever the caller does with what a feed left over

-- the state after them
unfoldable pub end_by : Clip → List (List ℕ) → Clip
end_by c [] = c
end_by c (p ∷ ps) = end_by (feed_of c p).clip ps

-- the bytes that they took, in all
unfoldable pub taken_by : Clip → List (List ℕ) → List ℕ
taken_by c [] = []
taken_by c (p ∷ ps) = take (feed_of c p).taken p ++ taken_by (feed_of c p).clip ps

-- all that they handed out; a number that is repeated is not handed out again
unfoldable pub out_by : Clip → List (List ℕ) → List Event
out_by c [] = []
out_by c (p ∷ ps) = pick (is_over c) [] (handed_out (feed_of c p).event) ++ out_by (feed_of c p).clip ps

-- ---- the caller's loop: "the caller feeds the rest"

-- a state, and all that was handed out on the way
pub record Reading : Type 0 where
  pub clip : Clip
  pub out : List Event

-- something more was handed out before
abbrev pub after : List Event → Reading → Reading
after l r = record { clip = r.clip; out = l ++ r.out }

-- a piece is fed, and then the rest of it, until a feed hands out nothing or nothing is taken any more; at most n feeds
unfoldable pub piece_read : ℕ → Clip → List ℕ → Reading
piece_read zero c p = record { clip = c; out = [] }
piece_read (suc n) c p =
    pick (either (is_over c) (not (is_handed (feed_of c p).event))) (record { clip = (feed_of c p).clip; out = [] })
    (after (handed_out (feed_of c p).event) (piece_read n (feed_of c p).clip (drop (feed_of c p).taken p)))

-- pieces, one after the other
unfoldable pub pieces_read : Clip → List (List ℕ) → Reading
pieces_read c [] = record { clip = c; out = [] }
pieces_read c (p ∷ ps) = let r = piece_read (suc (length p)) c p in after r.out (pieces_read r.clip ps)

-- the bytes that the pieces make up
unfoldable pub joined : List (List ℕ) → List ℕ
joined [] = []
joined (p ∷ ps) = p ++ joined ps
