-- A block's rows, copied to its part of a volume layer by layer, whatever kind of numbers a volume has.
-- Assumes nothing.
use mathlib.Core.Path.{◌≡◌, refl, ◌∙◌, subst}
use mathlib.Core.List.{List}
use Prim.Native.Nat.{ℕ, ◌+◌, ◌*◌, ◌≤◌, ◌<◌}
use native.Mathlib.Omega.{arith}
use lib.ListN.{length}
use Rattle.picture_regions.specs.inner.Regions.{Pasted}
use Rattle.image_layout.specs.declared.Run.{Run}
use Rattle.image_layout.specs.inner.Parts.{RunFits}
use Rattle.volume_layout.specs.declared.VolumeGrid.{VolumeGrid}
use Rattle.volume_layout.specs.declared.VolumePart.{VolumePart}
use Rattle.volume_layout.specs.inner.Parts.{SoundGrid, PartFits, PlacedRows, RunOf}
use Rattle.volume_layout.proofs.Parts.{run_fits, no_layer, no_row, placed_row, layer_done}

module _ (show : ℕ → ℕ) (g : VolumeGrid) (p : VolumePart) (buf : List ℕ) where
  -- dz layers are copied
  pub record Layers (old new : List ℕ) (dz : ℕ) : Type 0 where
    pub most : dz ≤ p.layers
    pub same : length new ≡ length old
    pub placed : PlacedRows show g p (dz * p.rows) buf old new

  -- of layer dz, dy rows: whatever was copied before it is there still
  pub record Rows (dz : ℕ) (mid new : List ℕ) (dy : ℕ) : Type 0 where
    pub most : dy ≤ p.rows
    pub same : length new ≡ length mid
    pub placed : (old : List ℕ) → PlacedRows show g p (dz * p.rows) buf old mid → PlacedRows show g p (dz * p.rows + dy) buf old new

  pub no_layers : (old : List ℕ) → Layers old old 0
  no_layers old = record { most = omega arith; same = refl; placed = no_layer show g p buf old }

  pub no_rows : (dz : ℕ) (mid : List ℕ) → Rows dz mid mid 0
  no_rows dz mid = record { most = omega arith; same = refl; placed = λ old. no_row show g p buf dz old mid }

  pub row_fits : (r : Run) {old mid new : List ℕ} {dz dy : ℕ} → SoundGrid g → PartFits g p → length old ≡ 4 * (g.depth * g.height * g.width) → dz < p.layers → dy < p.rows
      → Layers old mid dz → Rows dz mid new dy → RunOf g p dy dz r → RunFits r 864 (length new)
  row_fits r {dz = dz} {dy = dy} s f e hz hy l w o = run_fits g p dy dz r _ s f hy hz o (w.same ∙ l.same ∙ e)

  pub row_more : (r : Run) {mid l new : List ℕ} {dz dy : ℕ} → PartFits g p → dy < p.rows → Rows dz mid l dy → RunOf g p dy dz r → length new ≡ length l
      → Pasted show buf r.from r.n l r.at new → Rows dz mid new (dy + 1)
  row_more r {l = l} {new = new} {dz = dz} {dy = dy} f hy w o e q =
      record { most = omega arith; same = e ∙ w.same; placed = λ old h. placed_row show g p dy dz r buf old l new f hy o (w.placed old h) q }

  pub layer_more : {old mid new : List ℕ} {dz dy : ℕ} → dz < p.layers → Layers old mid dz → p.rows ≤ dy → Rows dz mid new dy → Layers old new (dz + 1)
  layer_more {old = old} {new = new} {dz = dz} {dy = dy} hz l hy w =
      record { most = omega arith; same = w.same ∙ l.same; placed = layer_done show g p buf dy dz old new (omega (arith, w.most)) (w.placed old l.placed) }

  pub all_layers : {old new : List ℕ} {dz : ℕ} → p.layers ≤ dz → Layers old new dz → PlacedRows show g p (p.layers * p.rows) buf old new
  all_layers {old} {new} {dz} h l =
      let q : dz ≡ p.layers = omega (arith, l.most) in
      subst (λ (n : ℕ). PlacedRows show g p (n * p.rows) buf old new) q l.placed
