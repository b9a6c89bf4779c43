-- 02, f: making a view, from plain numbers.
-- Assumes nothing.
use Rattle.std.specs.Prelude.{ℕ, ◌*◌, not, [], ◌∷◌, eqb, ltb, Option, None, Some}
use Rattle.laws.specs.Choice.{pick, either}
use Rattle.laws.specs.Reasons.{when, first_of}
use Rattle.reason.specs.declared.Refusal.{Refusal}
use Rattle.reason.specs.Numbers.{refusal_number}
use Rattle.image_size.specs.Sides.{bad_side, blocks_of}
use Rattle.image_texel.specs.declared.Sides.{Sides}

-- "Making the view refuses by 1, 3, 4 of document 01"; 0 for none
unfoldable pub view_refusal : ℕ → ℕ → ℕ → ℕ → ℕ
view_refusal fp w h bytes =
    first_of (when (ltb 13 fp) 1 ∷ when (either (bad_side w) (bad_side h)) 3 ∷ when (not (eqb bytes (16 * blocks_of fp w h))) 4 ∷ [])

-- the sides that a view is made with, and the refusal of making it, 0 for none
pub record MadeSides : Type 0 where
  pub width : ℕ
  pub height : ℕ
  pub refusal : ℕ

-- "a refused view has both sides 0"
unfoldable pub view_sides : ℕ → ℕ → ℕ → ℕ → MadeSides
view_sides bytes fp w h =
    let e = view_refusal fp w h bytes in
    pick (eqb e 0) (record { width = w; height = h; refusal = 0 }) (record { width = 0; height = 0; refusal = e })

-- why a view is refused, by its number, 0 where it is not
abbrev pub reason_told : Option Refusal → ℕ
reason_told None = 0
reason_told (Some refusal) = refusal_number refusal

-- the numbers of the sides that are told
abbrev pub sides_told : Sides → MadeSides
sides_told s = record { width = s.width; height = s.height; refusal = reason_told s.refusal }
