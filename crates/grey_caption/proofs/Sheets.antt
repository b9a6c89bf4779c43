-- Every choice of weights 0..3 between two bytes is an acceptable sheet.
-- Assumes nothing.
use mathlib.Core.Path.{◌≡◌, refl, ap, ◌∙◌}
use mathlib.Core.Bool.{false}
use mathlib.Core.List.{[], ◌∷◌}
use Prim.Native.Nat.{ℕ, zero, suc, ◌≤◌, ◌<◌}
use native.Mathlib.Omega.{arith}
use lib.Dec.{T, ltb}
use lib.ListN.{get_or}
use borrow.Author.Tests.{lt-ltb, le-ltb}
use Rattle.laws.specs.Choice.{pick}
use Rattle.laws.specs.Table.{tab}
use Rattle.laws.specs.Reasons.{first_of}
use Rattle.laws.proofs.Filling.{length_tab}
use Rattle.laws.proofs.Reasons.{None, none_first, ◌also◌}
use Rattle.quantization.specs.Ranges.{encoding_at, bits_at, most_at, range_bits, largest_to, endpoint_range}
use Rattle.encoding.specs.Encoding.{sequence_bits}
use Rattle.footprint.specs.Footprint.{footprints, width_of, height_of, depth_of, is_volume}
use Rattle.block_mode.specs.Back2D.{flat_mode_of}
use Rattle.volume_mode.specs.Either.{is_deep, block_mode_of}
use Rattle.color_endpoint.specs.Table.{number_count, start_of}
use Rattle.block_header.specs.Reasons.{grid_too_large, too_many_weights, weight_bits_outside, four_with_two_planes, too_many_endpoints, too_few_endpoint_bits, some_hdr, hdr_refused}
use Rattle.color_endpoint.specs.Modes.{is_hdr}
use Rattle.block_header.specs.Counts.{weight_count, weight_bits, component_bits, extra_bits, endpoint_count, bits_left, endpoint_range_of}
use Rattle.symbolic_block.specs.Fields.{header_of, endpoint_in, weight_in, Sized}
use Rattle.symbolic_block.specs.Refusals.{within, unknown_footprint, bad_mark, bad_hdr, bad_width, bad_height, bad_grid_depth, bad_range, bad_planes, bad_component, bad_partitions, bad_index, bad_selector, bad_modes, some_in_use, no_block_mode, modes_misfit, bad_endpoints, bad_weights, marked_without, mode_refusals, Acceptable}
use Rattle.symbolic_block.specs.Reading.{mode_block}
use Rattle.symbolic_block.proofs.Lists.{is_within, all_within, stored_at}
use Rattle.symbolic_block.proofs.Opened.{refusal_is, refusals_mode}
use Rattle.grey_caption.specs.Caption.{footprint, settings, sheet_with}
use Rattle.grey_caption.specs.Best.{Weights}

-- the numbers of a sheet
pub ends_past : (e0 e1 i : ℕ) → 2 ≤ i → get_or (e0 ∷ e1 ∷ []) i 0 ≡ 0
ends_past e0 e1 zero h = omega arith
ends_past e0 e1 (suc zero) h = omega arith
ends_past e0 e1 (suc (suc i)) h = refl

ends_le : (e0 e1 m i : ℕ) → e0 ≤ m → e1 ≤ m → get_or (e0 ∷ e1 ∷ []) i 0 ≤ m
ends_le e0 e1 m zero h0 h1 = h0
ends_le e0 e1 m (suc zero) h0 h1 = h1
ends_le e0 e1 m (suc (suc i)) h0 h1 = omega arith

module _ (e0 e1 : ℕ) (w : ℕ → ℕ) where
  pub sized : Sized (sheet_with e0 e1 w)
  unfolding sheet_with mode_block settings
  sized = record {
    colours_4 = length_tab (λ i. 0) 4;
    extents_6 = length_tab (λ i. 0) 6;
    modes_4 = refl;
    endpoints_18 = length_tab _ 18;
    weights_64 = length_tab _ 64;
  }

  -- it is no void extent
  pub not_void : (sheet_with e0 e1 w).mark ≡ 1 → ⊥
  unfolding sheet_with mode_block
  not_void e = omega (arith, e)

  pub endpoint_at_lem : (i : ℕ) → i < 18 → endpoint_in (sheet_with e0 e1 w) i ≡ get_or (e0 ∷ e1 ∷ []) i 0
  unfolding sheet_with mode_block
  endpoint_at_lem i h = stored_at (λ k. get_or (e0 ∷ e1 ∷ []) k 0) 18 i h

  weight_is : (i : ℕ) → i < 64 → weight_in (sheet_with e0 e1 w) i ≡ pick (ltb i 16) (w i) 0
  unfolding sheet_with mode_block
  weight_is i h = stored_at (λ k. pick (ltb k 16) (w k) 0) 64 i h

  pub weight_at_lem : (i : ℕ) → i < 16 → weight_in (sheet_with e0 e1 w) i ≡ w i
  weight_at_lem i h = weight_is i (omega arith) ∙ rw (lt-ltb i 16 h)

  pub weight_past : (i : ℕ) → i < 64 → 16 ≤ i → weight_in (sheet_with e0 e1 w) i ≡ 0
  weight_past i h l = weight_is i h ∙ rw (le-ltb i 16 l)

  -- 79 bits are left for two numbers: they are of range 0..255
  pub range_is : endpoint_range_of (header_of (sheet_with e0 e1 w)) ≡ 20
  unfolding sheet_with mode_block settings endpoint_range_of endpoint_count start_of number_count bits_left weight_bits weight_count component_bits extra_bits range_bits encoding_at bits_at sequence_bits endpoint_range largest_to
  range_is = refl

  pub left_is : bits_left (header_of (sheet_with e0 e1 w)) ≡ 79
  unfolding sheet_with mode_block settings bits_left weight_bits weight_count component_bits extra_bits range_bits encoding_at bits_at sequence_bits
  left_is = refl

  module _ (h0 : e0 ≤ 255) (h1 : e1 ≤ 255) (h : Weights w) where
    endpoints_in : T (within 18 2 255 (endpoint_in (sheet_with e0 e1 w)))
    endpoints_in =
        all_within 18 2 255 _ (λ i l m. rw (endpoint_at_lem i l) (ends_le e0 e1 255 i h0 h1)) (λ i l m. endpoint_at_lem i l ∙ ends_past e0 e1 i m)

    pub weights_in : T (within 64 16 3 (weight_in (sheet_with e0 e1 w)))
    weights_in = all_within 64 16 3 _ (λ i l m. rw (weight_at_lem i m) (h i m)) (λ i l m. weight_past i l m)

    endpoints_fine : bad_endpoints (sheet_with e0 e1 w) ≡ false
    unfolding bad_endpoints sheet_with mode_block settings endpoint_count start_of number_count most_at encoding_at bits_at
    endpoints_fine =
        is_within (within 18 2 (most_at (endpoint_range_of (header_of (sheet_with e0 e1 w)))) (endpoint_in (sheet_with e0 e1 w)))
        (rw range_is endpoints_in)

    weights_fine : bad_weights (sheet_with e0 e1 w) ≡ false
    unfolding bad_weights sheet_with mode_block settings weight_count most_at encoding_at bits_at
    weights_fine = is_within (within 64 16 3 (weight_in (sheet_with e0 e1 w))) weights_in

    pub none : None (mode_refusals footprint (sheet_with e0 e1 w))
    unfolding mode_refusals unknown_footprint bad_mark bad_hdr bad_width bad_height bad_grid_depth bad_range bad_planes bad_component bad_partitions bad_index bad_selector bad_modes some_in_use within no_block_mode block_mode_of is_deep flat_mode_of modes_misfit grid_too_large too_many_weights weight_bits_outside four_with_two_planes too_many_endpoints too_few_endpoint_bits some_hdr hdr_refused is_hdr marked_without sheet_with mode_block settings tab weight_count weight_bits endpoint_count start_of number_count bits_left component_bits extra_bits range_bits encoding_at bits_at sequence_bits width_of height_of depth_of is_volume footprints
    none =
        refl
        also refl
        also refl
        also refl
        also refl
        also refl
        also refl
        also refl
        also refl
        also refl
        also refl
        also refl
        also refl
        also refl
        also refl
        also refl
        also refl also refl also refl also refl
        also refl
        also refl also refl also refl
        also endpoints_fine
        also weights_fine
        also refl
        also tt

    pub accepted : Acceptable footprint (sheet_with e0 e1 w)
    accepted =
        refusal_is footprint (sheet_with e0 e1 w) ∙ ap first_of (refusals_mode (sheet_with e0 e1 w) not_void footprint)
        ∙ none_first (mode_refusals footprint (sheet_with e0 e1 w)) none
