-- The text of a block and of the program.
-- Assumes nothing.
use mathlib.Core.Bool.{Bool, true, false, not}
use mathlib.Core.Path.{◌≡◌, refl, sym, ap, ◌∙◌}
use mathlib.Core.List.{List, [], ◌∷◌, ◌++◌}
use Prim.Native.Nat.{ℕ, ◌*◌, ◌≤◌, ◌<◌}
use native.Mathlib.Omega.{arith}
use lib.Dec.{eqb, ltb}
use lib.ListN.{length, get_or, take, drop, length-drop}
use lib.Seq.{length-take-le}
use borrow.Author.Tests.{eq-eqb, ne_eqb, ltb-false}
use Rattle.laws.specs.Choice.{pick}
use Rattle.laws.specs.Reasons.{when, first_of}
use Rattle.laws.proofs.Filling.{get_or_tab}
use Rattle.bits.specs.Block.{number_of}
use Rattle.footprint.specs.Footprint.{width_of, texels_of}
use Rattle.interpolation.specs.declared.Kind.{Kind}
use Rattle.interpolation.specs.Expansion.{shown_of, takes_hdr}
use Rattle.block_fault.specs.Faults.{fault_of}
use Rattle.texel.specs.BlockTexel.{block_channel, block_numbers}
use Rattle.block_core.specs.inner.Held.{Held}
use Rattle.line_text.specs.Lines.{spaced, texel_line, lines_of, text_over}
use Rattle.line_text.specs.inner.Written.{Puts}
use Rattle.line_text.proofs.Laws.{length-append, puts_front, lines_same, line_same}
use Rattle.kind_number.specs.Kinds.{kind_of}
use Rattle.unpack_text.specs.Text.{fault_line, refused_line, block_text, program_refusal, program_text}

-- the lines of a buffer that holds a block are the block's
block_lines : (fp : ℕ) (kind : Kind) (B : ℕ) (numbers : List ℕ) → Held fp kind B numbers
    → lines_of (texel_line (width_of fp) (λ i. shown_of kind (get_or numbers i 0))) (texels_of fp) ≡ lines_of (texel_line (width_of fp) (λ k. get_or (block_numbers fp kind B) k 0)) (texels_of fp)
unfolding block_numbers
block_lines fp kind B numbers h =
    lines_same _ _ (texels_of fp) (line_same (width_of fp) _ _ (texels_of fp) (λ i l. ap (shown_of kind) (h.holds i l) ∙ sym (get_or_tab (λ k. shown_of kind (block_channel fp kind B k)) (4 * texels_of fp) i 0 l)))

-- the text of a block, from its two parts
pub block_text_lem : (fp : ℕ) (kind : Kind) (B C : ℕ) (numbers : List ℕ) {fault : ℕ} → B ≡ C → fault ≡ fault_of (takes_hdr kind) fp B → Held fp kind B numbers
    → ((102 ∷ 97 ∷ 117 ∷ 108 ∷ 116 ∷ []) ++ spaced (fault ∷ [])) ++ lines_of (texel_line (width_of fp) (λ i. shown_of kind (get_or numbers i 0))) (texels_of fp) ≡ block_text fp kind C
unfolding block_text fault_line
block_text_lem fp kind B C numbers e f h = rw (← e, f) (ap (λ (l : List ℕ). ((102 ∷ 97 ∷ 117 ∷ 108 ∷ 116 ∷ []) ++ spaced (fault_of (takes_hdr kind) fp B ∷ [])) ++ l) (block_lines fp kind B numbers h))

-- ---- the program's text

pub refused_text : (s : List ℕ) (e : ℕ) → program_refusal (length s) (get_or s 0 0) (get_or s 1 0) ≡ e → (e ≡ 0 → ⊥)
    → (114 ∷ 101 ∷ 102 ∷ 117 ∷ 115 ∷ 101 ∷ 100 ∷ []) ++ spaced (e ∷ []) ≡ program_text s
unfolding program_text refused_line
refused_text s e q h = rw (q, ne_eqb e 0 h)

pub shown_text : (s : List ℕ) → program_refusal (length s) (get_or s 0 0) (get_or s 1 0) ≡ 0
    → block_text (get_or s 0 0) (kind_of (get_or s 1 0)) (number_of (take 16 (drop 2 s))) ≡ program_text s
unfolding program_text
shown_text s q = rw q

-- what is not refused has a flat footprint
pub flat_text : (s : List ℕ) → program_refusal (length s) (get_or s 0 0) (get_or s 1 0) ≡ 0 → get_or s 0 0 < 14
unfolding program_refusal
flat_text s = go (eqb (length s) 18) (ltb 13 (get_or s 0 0)) refl (ltb 2 (get_or s 1 0)) where
  go : (a b : Bool) → ltb 13 (get_or s 0 0) ≡ b → (c : Bool) → first_of (when (not a) 4 ∷ when b 1 ∷ when c 2 ∷ []) ≡ 0 → get_or s 0 0 < 14
  go true false e c q = omega (arith, ltb-false 13 (get_or s 0 0) e)
  go true true e c q = absurd (omega (arith, q))
  go false b e c q = absurd (omega (arith, q))

-- what a call promises, from what it put into a buffer of the right length
pub promised : (s old new : List ℕ) (r : ℕ) → length old ≡ 5200 → Puts old 0 (program_text s) new r
    → (r ≡ pick (eqb (length old) 5200) (length (program_text s)) 0) × ((new ≡ pick (eqb (length old) 5200) (text_over (program_text s) old) old) × (r ≤ length new))
unfolding text_over
promised s old new r e p =
    let f = puts_front old new (program_text s) r p in
    let z = ap length f.1 ∙ length-append (program_text s) (drop (length (program_text s)) old) in
    (f.0 ∙ rw (eq-eqb _ _ e), (f.1 ∙ rw (eq-eqb _ _ e), omega (arith, f.0, z, p.same, length-drop (length (program_text s)) old)))

-- the block's bytes
pub sixteen_left : (s : List ℕ) → length s ≡ 18 → length (take 16 (drop 2 s)) ≡ 16
sixteen_left s e = length-take-le 16 (drop 2 s) (omega (arith, e, length-drop 2 s))
