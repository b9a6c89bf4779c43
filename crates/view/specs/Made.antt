-- 02, f, of a view that was made: "a refused view has both sides 0; asking outside the picture, or a view that making would refuse, is refused by new
-- number 44, with four zeros as texel". Theorem: proofs/Made.antt, `made_views`.
-- Assumes nothing.
use Rattle.std.specs.Prelude.{◌≡◌, ℕ, List, length}
use Rattle.std.specs.Borrow.{Bor}
use Rattle.interpolation.specs.declared.Kind.{Kind}
use Rattle.image_texel.specs.Making.{view_refusal, reason_told}
use Rattle.image_texel.specs.Asking.{Asked, refused_asking, asked_at}
use Rattle.view.specs.declared.View.{View}
use Rattle.view.specs.View.{view_of, view_told}

-- what a view is asked
abbrev pub asked : View → Kind → ℕ → ℕ → Asked
asked v kind x y = asked_at v.footprint v.width v.height v.blocks.now kind x y

-- of every view v of which what `make` promises holds
pub record MadeViews : Type 0 where
  -- making tells its refusal
  pub told : (v : View) (s : Bor (List ℕ)) (fp w h : ℕ) → view_told v ≡ view_of s fp w h → reason_told v.refusal ≡ view_refusal fp w h (length s.now)
  -- asking a view that is not refused is asking its picture
  pub made_asked : (v : View) (s : Bor (List ℕ)) (fp w h : ℕ) (kind : Kind) (x y : ℕ) → view_told v ≡ view_of s fp w h → view_refusal fp w h (length s.now) ≡ 0
      → asked v kind x y ≡ asked_at fp w h s.now kind x y
  -- a refused one has no sides, and tells 44 at every place
  pub refused_sides : (v : View) (s : Bor (List ℕ)) (fp w h : ℕ) → view_told v ≡ view_of s fp w h → (view_refusal fp w h (length s.now) ≡ 0 → ⊥)
      → (v.width ≡ 0) × (v.height ≡ 0)
  pub refused_asked : (v : View) (s : Bor (List ℕ)) (fp w h : ℕ) (kind : Kind) (x y : ℕ) → view_told v ≡ view_of s fp w h → (view_refusal fp w h (length s.now) ≡ 0 → ⊥)
      → asked v kind x y ≡ refused_asking
