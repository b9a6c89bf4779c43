-- The choices of weights are the acceptable sheets at these settings.
-- Assumes nothing.
use mathlib.Core.Path.{◌≡◌, refl, sym, ap, ◌∙◌}
use mathlib.Core.Bool.{false}
use mathlib.Core.List.{[], ◌∷◌}
use Prim.Native.Nat.{ℕ, zero, suc, ◌≤◌, ◌<◌}
use native.Mathlib.Decide.{dec_lt}
use native.Mathlib.Omega.{arith}
use lib.Dec.{T, ltb}
use lib.ListN.{get_or}
use borrow.Author.Tests.{lt-ltb, le-ltb, eqb-false}
use Rattle.laws.specs.Choice.{pick}
use Rattle.quantization.specs.Ranges.{encoding_at, bits_at, most_at}
use Rattle.color_endpoint.specs.Table.{number_count, start_of}
use Rattle.color_endpoint.specs.Modes.{is_hdr}
use Rattle.block_header.specs.declared.BlockHeader.{BlockHeader}
use Rattle.block_header.specs.Counts.{weight_count, endpoint_count, endpoint_range_of}
use Rattle.block_header.specs.Reasons.{some_hdr}
use Rattle.symbolic_block.specs.declared.SymbolicBlock.{SymbolicBlock}
use Rattle.symbolic_block.specs.Fields.{sheet_grid, header_of, is_marked, endpoint_in, weight_in}
use Rattle.symbolic_block.specs.Refusals.{within}
use Rattle.symbolic_block.specs.Reading.{mode_block}
use Rattle.symbolic_block.proofs.Lists.{within_used, within_unused, zeros_back, stored_back}
use Rattle.symbolic_block.proofs.Fine.{Fine, fine}
use Rattle.symbolic_block.proofs.Demand.{mode_none}
use Rattle.grey_caption.specs.Caption.{footprint, settings, sheet_with}
use Rattle.grey_caption.specs.Best.{Weights, AtSettings, Chosen}
use Rattle.grey_caption.proofs.Sheets.{sized, endpoint_at_lem, accepted}

-- a choice of weights is such a sheet
pub at_settings : (e0 e1 : ℕ) (w : ℕ → ℕ) → e0 ≤ 255 → e1 ≤ 255 → Weights w → AtSettings e0 e1 (sheet_with e0 e1 w)
unfolding sheet_with mode_block settings
at_settings e0 e1 w h0 h1 h = record {
  sized = sized e0 e1 w;
  acceptable = accepted e0 e1 w h0 h1 h;
  mode_sheet = refl;
  header = refl;
  first = endpoint_at_lem e0 e1 w 0 (omega arith);
  second = endpoint_at_lem e0 e1 w 1 (omega arith);
}

-- and such a sheet is a choice of weights
module _ (e0 e1 : ℕ) (s : SymbolicBlock) (a : AtSettings e0 e1 s) where
  accepts : Fine footprint s
  accepts =
      let m : s.mark ≡ 1 → ⊥ = λ e. omega (arith, a.mode_sheet, e) in
      fine footprint s m (mode_none footprint s a.acceptable m)

  sixteen : weight_count (sheet_grid s) ≡ 16
  unfolding weight_count settings
  sixteen = ap (λ (h : BlockHeader). weight_count h.grid) a.header

  to_three : most_at s.range ≡ 3
  unfolding most_at encoding_at bits_at settings
  to_three = ap (λ (h : BlockHeader). most_at h.grid.range) a.header

  two : endpoint_count (header_of s) ≡ 2
  unfolding endpoint_count start_of number_count settings
  two = ap endpoint_count a.header

  weights_in : T (within 64 16 3 (weight_in s))
  weights_in = rw (sixteen, to_three) at accepts.weights_in

  ends_in : T (within 18 2 (most_at (endpoint_range_of (header_of s))) (endpoint_in s))
  ends_in = rw two at accepts.endpoints_in

  end_is : (i : ℕ) → i < 18 → get_or (e0 ∷ e1 ∷ []) i 0 ≡ endpoint_in s i
  end_is zero l = sym a.first
  end_is (suc zero) l = sym a.second
  end_is (suc (suc i)) l = sym (within_unused 18 2 _ (endpoint_in s) ends_in (suc (suc i)) l (omega arith))

  weight_is : (i : ℕ) → i < 64 → pick (ltb i 16) (weight_in s i) 0 ≡ weight_in s i
  weight_is i l =
      elim (dec_lt i 16) [
        | yes m ↦ rw (lt-ltb i 16 m)
        | no m ↦ rw (le-ltb i 16 (omega arith)) (sym (within_unused 64 16 3 (weight_in s) weights_in i l (omega arith)))
      ]

  -- mode 0 is LDR
  ldr : is_marked s ≡ false
  unfolding some_hdr is_hdr settings
  ldr = accepts.marked ∙ ap some_hdr a.header

  back : sheet_with e0 e1 (weight_in s) ≡ s
  unfolding sheet_with mode_block settings some_hdr is_hdr
  back =
      let h : settings ≡ header_of s = sym a.header in
      let m : 0 ≡ s.mark = sym a.mode_sheet in
      let k : 0 ≡ s.hdr = omega (arith, accepts.hdr_most, eqb-false s.hdr 1 ldr) in
      let c = zeros_back s.colours 4 a.sized.colours_4 accepts.colours_0 in
      let x = zeros_back s.extents 6 a.sized.extents_6 accepts.extents_0 in
      let e = stored_back s.endpoints (λ i. get_or (e0 ∷ e1 ∷ []) i 0) 18 a.sized.endpoints_18 end_is in
      let w = stored_back s.weights (λ i. pick (ltb i 16) (weight_in s i) 0) 64 a.sized.weights_64 weight_is in
      λ i. record {
        mark = m i;
        hdr = k i;
        colours = c i;
        extents = x i;
        width = (h i).grid.width;
        height = (h i).grid.height;
        depth = (h i).grid.depth;
        range = (h i).grid.range;
        planes = (h i).grid.planes;
        component = (h i).component;
        partitions = (h i).partitions;
        index = (h i).index;
        selector = (h i).selector;
        modes = (h i).modes;
        endpoints = e i;
        weights = w i;
      }

  pub chosen : Chosen e0 e1 s
  chosen = record {
    weights = λ i l. within_used 64 16 3 (weight_in s) weights_in i (omega arith) l;
    same = sym back;
  }
