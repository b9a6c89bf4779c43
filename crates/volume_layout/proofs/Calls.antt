-- The answer of a volume picture call and the buffer it leaves, in each case.
-- Assumes nothing.
use mathlib.Core.Path.{◌≡◌, refl, ◌∙◌}
use mathlib.Core.List.{List}
use Prim.Native.Nat.{ℕ, ◌*◌}
use native.Mathlib.Omega.{arith}
use lib.ListN.{length}
use borrow.Author.Tests.{ne_eqb}
use Rattle.std.specs.Prelude.{Result, Ok, Err}
use Rattle.reason.specs.declared.Refusal.{Refusal}
use Rattle.reason.specs.Numbers.{refusal_number}
use Rattle.reason.proofs.Told.{refusal_some}
use Rattle.interpolation.specs.declared.Kind.{Kind}
use Rattle.block_reading.specs.declared.Reading.{Reading}
use Rattle.image_layout.specs.declared.Tally.{Tally}
use Rattle.image_layout.specs.Numbers.{fault_at_in}
use Rattle.image_layout.specs.Faulty.{tally_of}
use Rattle.image_layout.specs.Call.{told_of}
use Rattle.volume_layout.specs.declared.VolumeGrid.{VolumeGrid}
use Rattle.volume_layout.specs.Numbers.{volume_numbers_in}
use Rattle.volume_layout.specs.Call.{blocks_of, volume_refusal, volume_tally_in, volume_answer_in, volume_out_in, volume_told_in}
use Rattle.volume_layout.specs.inner.Grid.{volume_grid}

-- what a call promises: its answer, the numbers told of it, and the buffer
pub record Promised (reading : Reading) (fp : ℕ) (kind : Kind) (w h d : ℕ) (s old : List ℕ) (r : Result Tally Refusal) (new : List ℕ) : Type 0 where
  pub answer : volume_answer_in reading fp kind w h d s (length old) r
  pub told : told_of r ≡ volume_told_in reading fp kind w h d s (length old)
  pub volume : new ≡ volume_out_in reading fp kind w h d s old

module _ (reading : Reading) (fp : ℕ) (kind : Kind) (w h d : ℕ) (s : List ℕ) where
  -- the answer tells these numbers
  pub answer_told : (places : ℕ) (r : Result Tally Refusal) → volume_answer_in reading fp kind w h d s places r → told_of r ≡ volume_told_in reading fp kind w h d s places
  unfolding volume_told_in
  answer_told places (Ok t) e = rw (e.0, e.1)
  answer_told places (Err refusal) e = rw (← e, ne_eqb (refusal_number refusal) 0 (λ z. let p = refusal_some refusal in omega arith))

  -- a refused call: its number, and the buffer as it was
  pub refused : (old : List ℕ) (refusal : Refusal) → refusal_number refusal ≡ volume_refusal fp w h d (length s) (length old)
      → Promised reading fp kind w h d s old (Err refusal) old
  unfolding volume_out_in
  refused old refusal e = record {
    answer = e;
    told = answer_told (length old) (Err refusal) e;
    volume = rw (← e, ne_eqb (refusal_number refusal) 0 (λ z. let p = refusal_some refusal in omega arith));
  }

  -- an accepted one
  pub decoded_out : (old : List ℕ) → volume_refusal fp w h d (length s) (length old) ≡ 0 → volume_numbers_in reading fp kind w h d s ≡ volume_out_in reading fp kind w h d s old
  unfolding volume_out_in
  decoded_out old z = rw z refl

  pub decoded : (old : List ℕ) (g : VolumeGrid) (t : Tally) (new : List ℕ) → volume_refusal fp w h d (length s) (length old) ≡ 0 → g ≡ volume_grid fp w h d
      → t ≡ tally_of (fault_at_in reading g.footprint kind s) (g.deep * g.down * g.across)
      → new ≡ volume_numbers_in reading g.footprint kind g.width g.height g.depth s → Promised reading fp kind w h d s old (Ok t) new
  unfolding volume_tally_in volume_grid blocks_of
  decoded old g t new z l e n =
      let a : volume_answer_in reading fp kind w h d s (length old) (Ok t) = (z, rw l at e) in
      record { answer = a; told = answer_told (length old) (Ok t) a; volume = (rw l at n) ∙ decoded_out old z }
