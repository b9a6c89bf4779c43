-- The bits of a written block: those of the weights, two for each, from bit 127 down, and below them those that the two ends alone decide.
-- Assumes nothing.
use mathlib.Core.Path.{◌≡◌, refl, sym, ap, ◌∙◌}
use mathlib.Core.List.{List, [], ◌∷◌, ◌++◌}
use Prim.Native.Nat.{ℕ, suc, ◌+◌, ◌-◌, ◌*◌, ◌/◌, ◌%◌, ◌^◌, ◌≤◌, ◌<◌}
use native.Mathlib.Nat.{mod-eq_of_lt, lt_of_lt_of_le}
use native.Mathlib.Omega.{arith}
use lib.Dec.{ltb}
use lib.ListN.{take}
use lib.Pow.{pow_mono}
use borrow.Author.Tests.{lt-ltb}
use Rattle.laws.specs.Choice.{pick}
use Rattle.bits.specs.Field.{field, reverse}
use Rattle.bits.specs.Block.{number_of}
use Rattle.bits.specs.Cells.{Cell, cell, laid}
use Rattle.bits.proofs.Fields.{field_below, field_past, field_in}
use Rattle.bits.proofs.Blocks.{number_bytes}
use Rattle.bits.proofs.Reverse.{reverse_bit}
use Rattle.encoding.specs.Encoding.{sequence_bits}
use Rattle.quantization.specs.Ranges.{encoding_at, bits_at, most_at, range_bits}
use Rattle.integer_sequence.specs.Codes.{digit}
use Rattle.integer_sequence.specs.Reading.{number}
use Rattle.block_header.specs.Counts.{weight_count, weight_bits, extra_bits}
use Rattle.symbolic_block.specs.declared.SymbolicBlock.{SymbolicBlock}
use Rattle.symbolic_block.specs.Fields.{weight_in}
use Rattle.symbolic_block.specs.Reading.{mode_block}
use Rattle.symbolic_block.specs.Writing.{endpoint_stream, weight_stream, mode_cells, block_of}
use Rattle.symbolic_block.proofs.Demand.{demand_3}
use Rattle.symbolic_block.proofs.Fine.{Fine, fine}
use Rattle.symbolic_block.proofs.Numbers.{packed_back}
use Rattle.symbolic_block.proofs.Opened.{block_mode_lem}
use Rattle.symbolic_block.proofs.Written as written
use Rattle.symbolic_calls.specs.declared.Writing.{Writing}
use Rattle.symbolic_calls.proofs.Laws as writer
use Rattle.grey_caption.specs.Caption.{footprint, settings, sheet_with, block_with}
use Rattle.grey_caption.specs.Best.{Weights}
use Rattle.grey_caption.proofs.Sheets.{sized, not_void, weight_at_lem, weights_in, none, accepted}

laid_last : (cs : List Cell) (c : Cell) → laid (cs ++ (c ∷ [])) ≡ c.value * 2 ^ c.place + laid cs
unfolding laid
laid_last [] c = refl
laid_last (d ∷ ds) c = ap (λ (n : ℕ). d.value * 2 ^ d.place + n) (laid_last ds c) ∙ omega arith

-- all cells but the weights'
abbrev low_cells : ℕ → ℕ → List Cell
low_cells e0 e1 = take 9 (mode_cells (sheet_with e0 e1 (λ i. 0)))

-- a number of two bits
number_at : (v i : ℕ) → number (encoding_at 2) (bits_at 2) v i ≡ field v (2 * i) 2
unfolding number digit encoding_at bits_at sequence_bits
number_at v i = let e : i * 2 + 0 ≡ 2 * i = omega arith in rw e (omega arith)

module _ (e0 e1 : ℕ) (w : ℕ → ℕ) where
  abbrev s : SymbolicBlock
  s = sheet_with e0 e1 w

  cells_are : mode_cells s ≡ low_cells e0 e1 ++ (cell 96 32 (reverse 32 (weight_stream s)) ∷ [])
  unfolding mode_cells sheet_with mode_block settings weight_bits weight_count range_bits encoding_at bits_at sequence_bits extra_bits endpoint_stream
  cells_are = refl

  block_is : block_of footprint s ≡ reverse 32 (weight_stream s) * 2 ^ 96 + laid (low_cells e0 e1)
  block_is = block_mode_lem s (not_void e0 e1 w) footprint ∙ ap laid cells_are ∙ laid_last (low_cells e0 e1) _

  pub low_bit : (p : ℕ) → p < 96 → field (block_of footprint s) p 1 ≡ field (laid (low_cells e0 e1)) p 1
  low_bit p h = ap (λ (n : ℕ). field n p 1) block_is ∙ field_below (reverse 32 (weight_stream s)) (laid (low_cells e0 e1)) 96 p 1 (omega arith)

  module _ (h0 : e0 ≤ 255) (h1 : e1 ≤ 255) (h : Weights w) where
    fits : Fine footprint s
    fits = fine footprint s (not_void e0 e1 w) (none e0 e1 w h0 h1 h)

    stream_is : field (block_of footprint s) 96 32 ≡ reverse 32 (weight_stream s)
    unfolding mode_cells sheet_with mode_block settings weight_bits weight_count range_bits encoding_at bits_at sequence_bits
    stream_is = ap (λ (n : ℕ). field n 96 32) (block_mode_lem s (not_void e0 e1 w) footprint) ∙ written.at footprint s fits (sized e0 e1 w) 9 (omega arith)

    read_back : (i : ℕ) → i < 64 → pick (ltb i 16) (number (encoding_at 2) (bits_at 2) (weight_stream s) i) 0 ≡ weight_in s i
    unfolding weight_stream sheet_with mode_block settings weight_count most_at encoding_at bits_at
    read_back i l = packed_back 64 16 2 s.weights (sized e0 e1 w).weights_64 (omega arith) (weights_in e0 e1 w h0 h1 h) (weight_stream s) refl i l

    weight_is : (i : ℕ) → i < 16 → field (weight_stream s) (2 * i) 2 ≡ w i
    weight_is i l =
        let e : number (encoding_at 2) (bits_at 2) (weight_stream s) i ≡ weight_in s i = rw (lt-ltb i 16 l) at (read_back i (omega arith)) in
        sym (number_at (weight_stream s) i) ∙ e ∙ weight_at_lem e0 e1 w i l

    -- bit j of the weights' stream
    pub high_bit : (j : ℕ) → j < 32 → field (block_of footprint s) (127 - j) 1 ≡ field (w (j / 2)) (j % 2) 1
    high_bit j l =
        let a : 127 - j ≡ 96 + (31 - j) = omega arith in
        let b : 32 - suc (31 - j) ≡ j = omega arith in
        let d : j ≡ 2 * (j / 2) + j % 2 = omega arith in
        ap (λ (n : ℕ). field (block_of footprint s) n 1) a
        ∙ sym (field_in (block_of footprint s) 96 32 (31 - j) 1 (omega arith))
        ∙ ap (λ (n : ℕ). field n (31 - j) 1) stream_is
        ∙ reverse_bit 32 (weight_stream s) (31 - j) (omega arith)
        ∙ ap (λ (n : ℕ). field (weight_stream s) n 1) (b ∙ d)
        ∙ sym (field_in (weight_stream s) (2 * (j / 2)) 2 (j % 2) 1 (omega arith))
        ∙ ap (λ (n : ℕ). field n (j % 2) 1) (weight_is (j / 2) (omega arith))

    pub past_bit : (p : ℕ) → 128 ≤ p → field (block_of footprint s) p 1 ≡ 0
    past_bit p l =
        field_past (block_of footprint s) p 1
        (lt_of_lt_of_le (demand_3.written_fits footprint s (sized e0 e1 w) (accepted e0 e1 w h0 h1 h)) (pow_mono {i = 128} {j = p} l))

    pub number_is : number_of (block_with e0 e1 w) ≡ block_of footprint s
    unfolding block_with
    number_is =
        ap (λ (r : Writing). number_of r.bytes) (sym (writer.written footprint s (accepted e0 e1 w h0 h1 h)))
        ∙ number_bytes 16 (block_of footprint s) ∙ mod-eq_of_lt (demand_3.written_fits footprint s (sized e0 e1 w) (accepted e0 e1 w h0 h1 h))
