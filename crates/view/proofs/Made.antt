-- A view that was made: asking it is asking the image; a refused one is asked in vain.
-- Assumes nothing.
use mathlib.Core.Path.{◌≡◌, sym, ap, ◌∙◌}
use Prim.Native.Nat.{ℕ}
use native.Mathlib.Decide.{ℕ_discrete}
use mathlib.Core.List.{List}
use lib.ListN.{length}
use denote.Ref.{Bor}
use Rattle.interpolation.specs.declared.Kind.{Kind}
use Rattle.image_texel.specs.Making.{MadeSides, view_refusal}
use Rattle.image_texel.specs.Asking.{Asked, refused_asking, asked_at}
use Rattle.image_texel.proofs.Ask.{sides_taken, sides_refused, no_sides}
use Rattle.view.specs.View.{MadeView, view_of}
use Rattle.view.specs.Made.{MadeViews}

-- a view is asked by its numbers
asked_made : Kind → ℕ → ℕ → MadeView → Asked
asked_made kind x y m = asked_at m.footprint m.width m.height m.blocks.now kind x y

module _ (s : Bor (List ℕ)) (fp w h : ℕ) (kind : Kind) (x y : ℕ) where
  abbrev by : MadeSides → Asked
  by m = asked_at fp m.width m.height s.now kind x y

  made_asked : view_refusal fp w h (length s.now) ≡ 0 → asked_made kind x y (view_of s fp w h) ≡ asked_at fp w h s.now kind x y
  unfolding view_of asked_made
  made_asked e = ap by (sides_taken (length s.now) fp w h e)

  -- "a refused view has both sides 0", and is asked as one that making would refuse
  refused_asked : (view_refusal fp w h (length s.now) ≡ 0 → ⊥) → asked_made kind x y (view_of s fp w h) ≡ refused_asking
  unfolding view_of asked_made
  refused_asked e = ap by (sides_refused (length s.now) fp w h e) ∙ no_sides fp s.now kind x y

module _ (s : Bor (List ℕ)) (fp w h : ℕ) where
  told : (view_of s fp w h).refusal ≡ view_refusal fp w h (length s.now)
  unfolding view_of
  told = elim (ℕ_discrete (view_refusal fp w h (length s.now)) 0) [
    | yes e ↦ ap (λ (m : MadeSides). m.refusal) (sides_taken (length s.now) fp w h e) ∙ sym e
    | no e ↦ ap (λ (m : MadeSides). m.refusal) (sides_refused (length s.now) fp w h e)
  ]

  refused_sides : (view_refusal fp w h (length s.now) ≡ 0 → ⊥) → ((view_of s fp w h).width ≡ 0) × ((view_of s fp w h).height ≡ 0)
  unfolding view_of
  refused_sides e =
      let q = sides_refused (length s.now) fp w h e in
      (ap (λ (m : MadeSides). m.width) q, ap (λ (m : MadeSides). m.height) q)

pub made_views : MadeViews
unfolding asked_made
made_views = record {
  told = λ v s fp w h e. ap (λ (m : MadeView). m.refusal) e ∙ told s fp w h;
  made_asked = λ v s fp w h kind x y e z. ap (asked_made kind x y) e ∙ made_asked s fp w h kind x y z;
  refused_sides = λ v s fp w h e n. let q = refused_sides s fp w h n in (ap (λ (m : MadeView). m.width) e ∙ q.0, ap (λ (m : MadeView). m.height) e ∙ q.1);
  refused_asked = λ v s fp w h kind x y e n. ap (asked_made kind x y) e ∙ refused_asked s fp w h kind x y n;
}
