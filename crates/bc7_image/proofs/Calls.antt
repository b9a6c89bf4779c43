-- The refusals of a picture call, and the answer and the buffer in each case.
-- Assumes nothing.
use mathlib.Core.Path.{◌≡◌, refl, ap}
use mathlib.Core.List.{List}
use Prim.Native.Nat.{ℕ, ◌*◌, ◌<◌}
use native.Mathlib.Omega.{arith}
use lib.ListN.{length}
use borrow.Author.Tests.{ne_eqb}
use Rattle.std.specs.Prelude.{Result, Ok, Err}
use Rattle.reason.specs.declared.Refusal.{Refusal}
use Rattle.reason.specs.Numbers.{refusal_number}
use Rattle.reason.proofs.Told.{refusal_some}
use Rattle.image_size.specs.Sides.{blocks_of}
use Rattle.image_layout.specs.declared.ImageGrid.{ImageGrid}
use Rattle.image_layout.specs.declared.Tally.{Tally}
use Rattle.image_layout.specs.inner.Grid.{image_grid}
use Rattle.image_layout.specs.Faulty.{tally_of}
use Rattle.image_layout.specs.Call.{image_refusal, told_of}
use Rattle.bc7_image.specs.Image.{bc7_fault_at, bc7_numbers, ThreeFourFive, bc7_tally, bc7_answer, bc7_told, bc7_out}

pub three_four_five : (w h bytes places : ℕ) → ThreeFourFive w h bytes places
unfolding image_refusal
three_four_five w h bytes places = refl

-- what a call promises: its answer, the numbers told, and the buffer
pub record Promised (w h : ℕ) (s old : List ℕ) (r : Result Tally Refusal) (new : List ℕ) : Type 0 where
  pub answer : bc7_answer w h s (length old) r
  pub told : told_of r ≡ bc7_told w h s (length old)
  pub image : new ≡ bc7_out w h s old

module _ (w h : ℕ) (s old : List ℕ) where
  -- a refused call: its number, and the buffer as it was
  pub refused : (refusal : Refusal) → refusal_number refusal ≡ image_refusal 0 w h (length s) (length old) → Promised w h s old (Err refusal) old
  unfolding bc7_told bc7_out
  refused refusal e =
      let n : refusal_number refusal ≡ 0 → ⊥ = λ z. let p = refusal_some refusal in omega arith in
      record { answer = e; told = rw (← e, ne_eqb (refusal_number refusal) 0 n); image = rw (← e, ne_eqb (refusal_number refusal) 0 n) }

  -- an accepted one
  pub decoded : (g : ImageGrid) (t : Tally) (new : List ℕ) → image_refusal 0 w h (length s) (length old) ≡ 0 → g ≡ image_grid 0 w h
      → t ≡ tally_of (bc7_fault_at s) (g.down * g.across) → new ≡ bc7_numbers g.width g.height s → Promised w h s old (Ok t) new
  unfolding bc7_told bc7_out bc7_tally image_grid blocks_of
  decoded g t new z l e n =
      let t' : t ≡ bc7_tally w h s = rw l at e in
      record { answer = (z, t'); told = rw (z, t'); image = rw z (rw l at n) }

pub grid_0 : (w h : ℕ) (g : ImageGrid) → g ≡ image_grid 0 w h → g.footprint ≡ 0
unfolding image_grid
grid_0 w h g l = ap (λ (g : ImageGrid). g.footprint) l
