-- 02, f: one texel told in a lent list of four numbers.
-- Assumes nothing.
use Rattle.std.specs.Prelude.{ℕ, List, [], ◌∷◌, eqb, length}
use Rattle.laws.specs.Choice.{pick}
use Rattle.image_texel.specs.Asking.{Asked}

-- the number told, with so many places: 44; 5 where they are not four; else the fault of the texel's block, 0 for none
unfoldable pub texel_told : Asked → ℕ → ℕ
texel_told a places = pick (eqb a.refusal 0) (pick (eqb places 4) a.fault 5) a.refusal

-- what the list holds then: the texel, four zeros with 44; a list that is not of four stays as it was
unfoldable pub texel_out : Asked → List ℕ → List ℕ
texel_out a old = pick (eqb (length old) 4) (a.texel.r ∷ a.texel.g ∷ a.texel.b ∷ a.texel.a ∷ []) old
