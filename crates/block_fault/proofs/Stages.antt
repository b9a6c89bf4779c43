-- What the fault that a stage tells says of the fault of the block.
-- Assumes nothing.
use mathlib.Core.Path.{◌≡◌, refl, sym, ap, ◌∙◌}
use mathlib.Core.Bool.{Bool, true, false}
use mathlib.Core.List.{[]}
use Prim.Native.Nat.{ℕ}
use native.Mathlib.Omega.{arith}
use lib.Dec.{eqb}
use borrow.Author.Tests.{ne_eqb}
use Rattle.laws.specs.Choice.{pick, both}
use Rattle.block_mode.specs.declared.WeightGrid.{WeightGrid}
use Rattle.block_mode.specs.declared.BlockMode.TheVariants.{VoidExtent, Reserved, Grid}
use Rattle.block_header.specs.declared.BlockHeader.{BlockHeader}
use Rattle.quantization.specs.Ranges.{endpoint_range}
use Rattle.block_header.specs.Counts.{endpoint_count, bits_left, endpoint_range_of}
use Rattle.block_header.specs.Reasons.{grid_too_large, too_many_weights, weight_bits_outside, four_with_two_planes, endpoint_reasons}
use Rattle.block_header.specs.inner.Stages.{grid_fault, endpoint_fault}
use Rattle.laws.specs.Reasons.{first_of}
use Rattle.block_fault.specs.declared.Settings.{Settings}
use Rattle.block_fault.specs.Bits.{mode_at, partitions_at, selector_at, header_with, header_at}
use Rattle.block_fault.specs.Faults.{void_reasons, mode_reasons, fault_of}
use Rattle.block_fault.proofs.Laws.{made_grid}
use Rattle.block_fault.specs.inner.Settings.{with_counts}

-- ---- the fault of a coded block

-- the reasons before and after 17, as the stages take them
staged : (a b c d : Bool) (rest : ℕ)
    → pick a 14 (pick b 15 (pick c 16 (pick d 17 rest))) ≡ pick (eqb (pick a 14 (pick b 15 (pick c 16 0))) 0) (pick d 17 rest) (pick a 14 (pick b 15 (pick c 16 0)))
staged true b c d rest = refl
staged false true c d rest = refl
staged false false true d rest = refl
staged false false false d rest = refl

module _ (hdr : Bool) (fp B : ℕ) (g : WeightGrid) (m : mode_at fp B ≡ Grid g) where
  pub header_is : header_at fp B ≡ header_with B g (partitions_at B) (selector_at B (partitions_at B))
  unfolding header_at
  header_is = rw m

  header_grid : (header_at fp B).grid ≡ g
  header_grid = made_grid B g _ _ header_is

  fault_first : fault_of hdr fp B
      ≡ pick (eqb (grid_fault fp (header_at fp B).grid) 0) (pick (four_with_two_planes (header_at fp B)) 17 (endpoint_fault hdr (header_at fp B))) (grid_fault fp (header_at fp B).grid)
  unfolding fault_of mode_reasons grid_fault endpoint_fault
  fault_first =
      rw m
      (staged (grid_too_large fp (header_at fp B).grid) (too_many_weights (header_at fp B).grid) (weight_bits_outside (header_at fp B).grid) (four_with_two_planes (header_at fp B))
      (first_of (endpoint_reasons hdr (header_at fp B) [])))

  pub fault_staged : fault_of hdr fp B ≡ pick (eqb (grid_fault fp g) 0) (pick (four_with_two_planes (header_at fp B)) 17 (endpoint_fault hdr (header_at fp B))) (grid_fault fp g)
  fault_staged =
      fault_first ∙ ap (λ (k : WeightGrid). pick (eqb (grid_fault fp k) 0) (pick (four_with_two_planes (header_at fp B)) 17 (endpoint_fault hdr (header_at fp B))) (grid_fault fp k)) header_grid

  four_is : four_with_two_planes (header_at fp B) ≡ both (eqb g.planes 2) (eqb (partitions_at B) 4)
  unfolding four_with_two_planes header_with
  four_is = rw header_is

  -- each stage that stops tells its fault
  pub stop_grid : (k : ℕ) → k ≡ grid_fault fp g → (k ≡ 0 → ⊥) → k ≡ fault_of hdr fp B
  stop_grid k e h = e ∙ sym (fault_staged ∙ rw (ne_eqb (grid_fault fp g) 0 (λ z. h (e ∙ z))))

  module _ (pass : 0 ≡ grid_fault fp g) where
    past_grid : fault_of hdr fp B ≡ pick (four_with_two_planes (header_at fp B)) 17 (endpoint_fault hdr (header_at fp B))
    past_grid = fault_staged ∙ rw (← pass)

    module _ {p : ℕ} (ep : p ≡ partitions_at B) where
      pub stop_planes : (k : ℕ) → k ≡ pick (both (eqb g.planes 2) (eqb p 4)) 17 0 → (k ≡ 0 → ⊥) → k ≡ fault_of hdr fp B
      stop_planes k e h = go (four_with_two_planes (header_at fp B)) (e ∙ rw (ep, ← four_is)) ∙ sym past_grid where
        go : (t : Bool) → k ≡ pick t 17 0 → k ≡ pick t 17 (endpoint_fault hdr (header_at fp B))
        go true q = q
        go false q = absurd (h q)

      module _ (ok : ◌≡◌ {A = ℕ} 0 (pick (both (eqb g.planes 2) (eqb p 4)) 17 0)) where
        past_planes : fault_of hdr fp B ≡ endpoint_fault hdr (header_at fp B)
        past_planes = past_grid ∙ go (four_with_two_planes (header_at fp B)) (ok ∙ rw (ep, ← four_is)) where
          go : (t : Bool) → ◌≡◌ {A = ℕ} 0 (pick t 17 0) → pick t 17 (endpoint_fault hdr (header_at fp B)) ≡ endpoint_fault hdr (header_at fp B)
          go true e = absurd (omega (arith, e))
          go false e = refl

        pub header_read : {h : BlockHeader} → h ≡ header_with B g p (selector_at B p) → h ≡ header_at fp B
        header_read e = e ∙ rw ep (sym header_is)

        -- the last stage tells the fault, 0 where it passes
        pub end_stage : {h : BlockHeader} → h ≡ header_with B g p (selector_at B p) → (k : ℕ) → k ≡ endpoint_fault hdr h → k ≡ fault_of hdr fp B
        end_stage eh k e = e ∙ ap (endpoint_fault hdr) (header_read eh) ∙ sym past_planes

-- ---- the settings that a coded block carries

pub carried : {h : BlockHeader} {n left k : ℕ} → n ≡ endpoint_count h → left ≡ bits_left h → k ≡ endpoint_range n left
    → ◌≡◌ {A = Settings} (record { header = h; numbers = n; range = k }) (with_counts h)
unfolding endpoint_range_of
carried en el ek = rw (ek, el, en)

-- ---- the other modes

module _ (hdr : Bool) (fp B : ℕ) where
  pub void_fault : mode_at fp B ≡ VoidExtent → first_of (void_reasons hdr fp B) ≡ fault_of hdr fp B
  unfolding fault_of
  void_fault m = rw m

  pub reserved_fault : mode_at fp B ≡ Reserved → 11 ≡ fault_of hdr fp B
  unfolding fault_of mode_reasons
  reserved_fault m = rw m
