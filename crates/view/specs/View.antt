-- 02, f: "a view that keeps the lent blocks beside footprint and size".
-- Assumes nothing.
use Rattle.std.specs.Prelude.{ℕ, List, length, Result, Ok, Err}
use Rattle.std.specs.Borrow.{Bor}
use Rattle.reason.specs.declared.Refusal.{Refusal}
use Rattle.reason.specs.Numbers.{refusal_number}
use Rattle.image_texel.specs.Making.{MadeSides, view_sides, reason_told}
use Rattle.view.specs.declared.View.{View}

-- what making tells: the lent blocks, the footprint, the sides, and the refusal, 0 for none
pub record MadeView : Type 0 where
  pub blocks : Bor (List ℕ)
  pub footprint : ℕ
  pub width : ℕ
  pub height : ℕ
  pub refusal : ℕ

-- the view of these sides
abbrev pub view_with : Bor (List ℕ) → ℕ → MadeSides → MadeView
view_with s fp m = record { blocks = s; footprint = fp; width = m.width; height = m.height; refusal = m.refusal }

-- the view that making gives: its blocks and footprint as given, its sides and refusal as `view_sides` has them
unfoldable pub view_of : Bor (List ℕ) → ℕ → ℕ → ℕ → MadeView
view_of s fp w h = view_with s fp (view_sides (length s.now) fp w h)

-- the numbers of a view that is made
abbrev pub view_told : View → MadeView
view_told v = record { blocks = v.blocks; footprint = v.footprint; width = v.width; height = v.height; refusal = reason_told v.refusal }

-- what is told by each case of an answer: a view that is made keeps the blocks and the footprint, a refused one has the sides of a refusal
abbrev pub checked_told : Bor (List ℕ) → ℕ → Result View Refusal → MadeView
checked_told s fp (Ok v) = view_told v
checked_told s fp (Err refusal) = view_with s fp (record { width = 0; height = 0; refusal = refusal_number refusal })
