-- 02, n, of the writer's blocks: what they show, that the chosen weights are best, and that a wanted grey reaches its own weight alone.
-- Assumes nothing.
use mathlib.Core.Path.{◌≡◌, refl, sym, ap, ap₂, ◌∙◌}
use mathlib.Core.List.{List, [], ◌∷◌}
use Prim.Native.Nat.{ℕ, ◌+◌, ◌-◌, ◌*◌, ◌/◌, ◌%◌, ◌≤◌, ◌<◌}
use native.Mathlib.Decide.{dec_le, dec_lt}
use native.Mathlib.Omega.{arith}
use lib.ListN.{length, get_or}
use Rattle.laws.specs.Table.{tab}
use Rattle.laws.proofs.Filling.{get_or_tab, length_tab}
use Rattle.bits.specs.Field.{field}
use Rattle.footprint.specs.Footprint.{footprints, width_of, height_of, depth_of, texels_of}
use Rattle.interpolation.specs.declared.Kind.TheVariants.{Srgb8}
use Rattle.color_endpoint.specs.Modes.{is_hdr}
use Rattle.block_header.specs.Reasons.{some_hdr}
use Rattle.symbolic_block.specs.declared.SymbolicBlock.{SymbolicBlock}
use Rattle.symbolic_block.specs.Reading.{mode_block}
use Rattle.symbolic_block.specs.Fields.{weight_in}
use Rattle.symbolic_block.specs.Picture.{picture_number}
use Rattle.symbolic_block.specs.Writing.{block_of}
use Rattle.symbolic_reader.specs.Answers.{reading_of}
use Rattle.round_trip.specs.Demand.{FineIn, round_trip_of, picture_numbers, Kept}
use Rattle.round_trip.proofs.Laws.{demanded}
use Rattle.grey_caption.specs.Caption.{footprint, most, settings, sheet_with, block_with, grey_of, squared, best_weight, weight_for, caption_of}
use Rattle.grey_caption.specs.Best.{Weights, shown_by, sum_of, difference_of, GreysShown, Best, block_bit, Local, Placed}
use Rattle.grey_caption.proofs.Sheets.{sized, weight_at_lem, weight_past, accepted}
use Rattle.grey_caption.proofs.Picture as picture
use Rattle.grey_caption.proofs.Choice.{least_within, least_at_lem, least_first, sum_ext, sum_le, sum_same}
use Rattle.grey_caption.proofs.Bits.{low_bit, high_bit, past_bit, number_is}

-- a bit of the stream that is not weight i's
other_weight : (b j i : ℕ) → b + j ≡ 127 → (b ≡ 127 - 2 * i → ⊥) → (b ≡ 126 - 2 * i → ⊥) → j / 2 ≡ i → ⊥
other_weight b j i e p q k = elim (dec_le j (2 * i)) [ yes m ↦ p (omega (arith, k, e)) | no m ↦ q (omega (arith, k, e)) ]

module _ (e0 e1 : ℕ) (h0 : e0 ≤ 255) (h1 : e1 ≤ 255) where
  -- ---- what a choice of weights shows

  module _ (w : ℕ → ℕ) (h : Weights w) (old : List ℕ) (size : length old ≡ 64) where
    abbrev s : SymbolicBlock
    s = sheet_with e0 e1 w

    kept : Kept Srgb8 footprint s old (round_trip_of Srgb8 footprint s (length old)) (shown_by old (block_with e0 e1 w))
    unfolding round_trip_of block_with
    kept = (demanded Srgb8 footprint s (sized e0 e1 w) old _ (round_trip_of Srgb8 footprint s (length old)) refl refl).kept (accepted e0 e1 w h0 h1 h)

    -- it is LDR, so without fault in kind 1
    fine : FineIn Srgb8 footprint (round_trip_of Srgb8 footprint s (length old)).writing.bytes
    unfolding sheet_with mode_block settings some_hdr is_hdr
    fine = kept.kinds_ldr refl

    sixteen : length old ≡ 4 * texels_of footprint
    unfolding texels_of width_of height_of depth_of footprints
    sixteen = size

    texel : (i c : ℕ) → i < 16 → c < 4
        → get_or (shown_by old (block_with e0 e1 w)) (4 * i + c) 0 ≡ get_or (grey_of e0 e1 (w i) ∷ grey_of e0 e1 (w i) ∷ grey_of e0 e1 (w i) ∷ 255 ∷ []) c 0
    unfolding picture_numbers texels_of width_of height_of depth_of footprints
    texel i c l m =
        let a : (4 * i + c) / 4 ≡ i = omega arith in
        let b : (4 * i + c) % 4 ≡ c = omega arith in
        let d : 4 * (i / 4) + i % 4 ≡ i = omega arith in
        let y : i / 4 % 4 ≡ i / 4 = omega arith in
        let z : i / 4 / 4 ≡ 0 = omega arith in
        ap (λ (l : List ℕ). get_or l (4 * i + c) 0) (kept.picture fine sixteen)
        ∙ get_or_tab (λ k. picture_number footprint Srgb8 s (k / 4 % 4) (k / 4 / 4 % 4) (k / 4 / 4 / 4) (k % 4)) 64 (4 * i + c) 0 (omega arith)
        ∙ ap₂ (λ (j k : ℕ). picture_number footprint Srgb8 s (j % 4) (j / 4 % 4) (j / 4 / 4) k) a b
        ∙ ap₂ (λ (j k : ℕ). picture_number footprint Srgb8 s (i % 4) j k c) y z
        ∙ picture.number_is e0 e1 w h0 h1 (i % 4) (i / 4) c (omega arith) (omega arith) m
        ∙ ap (λ (n : ℕ). get_or (grey_of e0 e1 (w n) ∷ grey_of e0 e1 (w n) ∷ grey_of e0 e1 (w n) ∷ 255 ∷ []) c 0) d

    pub shows : GreysShown e0 e1 w old
    unfolding round_trip_of block_with
    shows = record {
      written = kept.written;
      sixteen = kept.sixteen;
      no_fault = kept.shown fine sixteen;
      read = kept.same;
      texel = texel;
    }

    -- its difference from the wanted greys
    difference_is : (wanted : List ℕ)
        → difference_of wanted (shown_by old (block_with e0 e1 w)) ≡ sum_of (λ i. squared (grey_of e0 e1 (w i)) (get_or wanted i 0)) 16
    unfolding difference_of
    difference_is wanted =
        sum_ext _ _ 16 (λ i l. let e : 4 * i ≡ 4 * i + 0 = omega arith in
        ap (λ (n : ℕ). squared n (get_or wanted i 0)) (ap (λ (k : ℕ). get_or (shown_by old (block_with e0 e1 w)) k 0) e ∙ texel i 0 l (omega arith)))

  -- ---- the chosen weights

  module _ (wanted : List ℕ) where
    pub chosen : Weights (weight_for e0 e1 wanted)
    unfolding weight_for best_weight
    chosen i l = least_within (λ w. squared (grey_of e0 e1 w) (get_or wanted i 0)) most

    -- at each place
    here : (i v : ℕ) → v ≤ most → squared (grey_of e0 e1 (weight_for e0 e1 wanted i)) (get_or wanted i 0) ≤ squared (grey_of e0 e1 v) (get_or wanted i 0)
    unfolding weight_for best_weight
    here i v m = least_at_lem (λ w. squared (grey_of e0 e1 w) (get_or wanted i 0)) most v m

    here_first : (i v : ℕ) → v ≤ most → squared (grey_of e0 e1 v) (get_or wanted i 0) ≤ squared (grey_of e0 e1 (weight_for e0 e1 wanted i)) (get_or wanted i 0)
        → weight_for e0 e1 wanted i ≤ v
    unfolding weight_for best_weight
    here_first i v m g = least_first (λ w. squared (grey_of e0 e1 w) (get_or wanted i 0)) most v m g

    module _ (old : List ℕ) (size : length old ≡ 64) where
      ours : difference_of wanted (shown_by old (caption_of e0 e1 wanted)) ≡ sum_of (λ i. squared (grey_of e0 e1 (weight_for e0 e1 wanted i)) (get_or wanted i 0)) 16
      unfolding caption_of
      ours = difference_is (weight_for e0 e1 wanted) chosen old size wanted

      pub best : Best e0 e1 wanted old (caption_of e0 e1 wanted)
      unfolding caption_of
      best = record {
        chosen = chosen;
        written = refl;
        least = λ v h. rw (ours, difference_is v h old size wanted) (sum_le _ _ 16 (λ i l. here i (v i) (h i l)));
        smaller = λ v h e i l. here_first i (v i) (h i l)
            (sum_same _ _ 16 (λ i l. here i (v i) (h i l)) (sym ours ∙ e ∙ difference_is v h old size wanted) i l);
      }

  -- ---- one wanted grey changed

  -- two choices of weights that differ at place i alone differ in its two bits alone
  module _ (i : ℕ) (v w : ℕ → ℕ) (hv : Weights v) (hw : Weights w) (same : (k : ℕ) → k < 16 → (k ≡ i → ⊥) → v k ≡ w k) where
    in_weights : (b j : ℕ) → b + j ≡ 127 → j < 32 → (j / 2 ≡ i → ⊥) → field (block_of footprint (sheet_with e0 e1 v)) b 1 ≡ field (block_of footprint (sheet_with e0 e1 w)) b 1
    in_weights b j e l d =
        let a : b ≡ 127 - j = omega arith in
        ap (λ (n : ℕ). field (block_of footprint (sheet_with e0 e1 v)) n 1) a
        ∙ high_bit e0 e1 v h0 h1 hv j l
        ∙ ap (λ (n : ℕ). field n (j % 2) 1) (same (j / 2) (omega arith) d)
        ∙ sym (high_bit e0 e1 w h0 h1 hw j l)
        ∙ sym (ap (λ (n : ℕ). field (block_of footprint (sheet_with e0 e1 w)) n 1) a)

    number_same : (b : ℕ) → ((j : ℕ) → b + j ≡ 127 → j / 2 ≡ i → ⊥) → field (block_of footprint (sheet_with e0 e1 v)) b 1 ≡ field (block_of footprint (sheet_with e0 e1 w)) b 1
    number_same b d =
        elim (dec_lt b 96) [
          | yes l ↦ low_bit e0 e1 v b l ∙ sym (low_bit e0 e1 w b l)
          | no l ↦ elim (dec_lt b 128) [
            | yes m ↦ in_weights b (127 - b) (omega arith) (omega arith) (d (127 - b) (omega arith))
            | no m ↦ past_bit e0 e1 v h0 h1 hv b (omega arith) ∙ sym (past_bit e0 e1 w h0 h1 hw b (omega arith))
          ]
        ]

    bits_same : (b : ℕ) → (b ≡ 127 - 2 * i → ⊥) → (b ≡ 126 - 2 * i → ⊥) → block_bit (block_with e0 e1 v) b ≡ block_bit (block_with e0 e1 w) b
    bits_same b p q =
        ap (λ (n : ℕ). field n b 1) (number_is e0 e1 v h0 h1 hv)
        ∙ number_same b (λ j e. other_weight b j i e p q)
        ∙ sym (ap (λ (n : ℕ). field n b 1) (number_is e0 e1 w h0 h1 hw))

  -- a weight's bits
  bit_at : (w : ℕ → ℕ) → Weights w → (i r : ℕ) → i < 16 → r < 2 → block_bit (block_with e0 e1 w) (127 - (2 * i + r)) ≡ field (w i) r 1
  bit_at w h i r l m =
      let a : (2 * i + r) / 2 ≡ i = omega arith in
      let b : (2 * i + r) % 2 ≡ r = omega arith in
      ap (λ (n : ℕ). field n (127 - (2 * i + r)) 1) (number_is e0 e1 w h0 h1 h) ∙ high_bit e0 e1 w h0 h1 h (2 * i + r) (omega arith)
      ∙ ap₂ (λ (j k : ℕ). field (w j) k 1) a b

  pub placed : (w : ℕ → ℕ) → Weights w → (i : ℕ) → i < 16 → Placed e0 e1 w i
  unfolding field
  placed w h i l =
      let a : 127 - 2 * i ≡ 127 - (2 * i + 0) = omega arith in
      let b : 126 - 2 * i ≡ 127 - (2 * i + 1) = omega arith in
      let m : w i ≤ 3 = h i l in
      record {
        low = ap (block_bit (block_with e0 e1 w)) a ∙ bit_at w h i 0 l (omega arith) ∙ omega arith;
        high = ap (block_bit (block_with e0 e1 w)) b ∙ bit_at w h i 1 l (omega arith) ∙ omega arith;
      }

  module _ (i : ℕ) (wanted other : List ℕ) (same : (k : ℕ) → k < 16 → (k ≡ i → ⊥) → get_or wanted k 0 ≡ get_or other k 0) where
    weights_same : (k : ℕ) → k < 16 → (k ≡ i → ⊥) → weight_for e0 e1 wanted k ≡ weight_for e0 e1 other k
    unfolding weight_for
    weights_same k l d = ap (best_weight e0 e1) (same k l d)

    read_is : (x : List ℕ) → (reading_of footprint (block_with e0 e1 (weight_for e0 e1 x))).block ≡ sheet_with e0 e1 (weight_for e0 e1 x)
    read_is x = (shows (weight_for e0 e1 x) (chosen x) (tab (λ k. 0) 64) (length_tab (λ k. 0) 64)).read

    sheets_same : (k : ℕ) → k < 64 → (k ≡ i → ⊥)
        → weight_in (sheet_with e0 e1 (weight_for e0 e1 wanted)) k ≡ weight_in (sheet_with e0 e1 (weight_for e0 e1 other)) k
    sheets_same k l d =
        elim (dec_lt k 16) [
          | yes m ↦ weight_at_lem e0 e1 _ k m ∙ weights_same k m d ∙ sym (weight_at_lem e0 e1 _ k m)
          | no m ↦ weight_past e0 e1 _ k l (omega arith) ∙ sym (weight_past e0 e1 _ k l (omega arith))
        ]

    pub local : Local e0 e1 i wanted other
    unfolding caption_of
    local = record {
      weights = λ k l d.
          ap (λ (t : SymbolicBlock). weight_in t k) (read_is wanted) ∙ sheets_same k l d ∙ sym (ap (λ (t : SymbolicBlock). weight_in t k) (read_is other));
      bits = bits_same i (weight_for e0 e1 wanted) (weight_for e0 e1 other) (chosen wanted) (chosen other) weights_same;
    }
