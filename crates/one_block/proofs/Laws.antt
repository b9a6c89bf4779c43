-- What a one-block call comes to in each event.
-- Assumes nothing.
use mathlib.Core.Path.{◌≡◌, refl, sym, ap, ◌∙◌, subst}
use mathlib.Core.Bool.{Bool, true, false, not}
use mathlib.Core.List.{List}
use Prim.Native.Nat.{ℕ, ◌*◌, ◌/◌, ◌^◌, ◌≤◌, ◌<◌}
use native.Mathlib.Nat.{mod-eq_of_lt}
use native.Mathlib.Omega.{arith}
use lib.Dec.{eqb, ltb}
use lib.ListN.{length, get_or}
use borrow.Author.Tests.{lt-ltb, le-ltb, ltb-false, eq-eqb, ne_eqb, eqb-true}
use Rattle.laws.specs.Choice.{pick}
use Rattle.laws.specs.Table.{tab, Bytes}
use Rattle.laws.proofs.Filling.{tab_ext}
use Rattle.bits.specs.Field.{field}
use Rattle.bits.specs.Block.{number_of}
use Rattle.bits.proofs.Halves.{loaded}
use Rattle.footprint.proofs.Laws.{texels_le}
use Rattle.footprint.specs.Footprint.{texels_of}
use Rattle.interpolation.specs.declared.Kind.{Kind}
use Rattle.interpolation.specs.Expansion.{shown_of, takes_hdr}
use Rattle.block_reading.specs.declared.Reading.{Reading}
use Rattle.block_reading.specs.declared.Reading.TheVariants.{Ordinary}
use Rattle.block_reading.specs.Faults.{fault_in}
use Rattle.block_reading.specs.Shown.{numbers_in, into_in}
use Rattle.block_reading.proofs.Shows.{held, ordinary_numbers}
use Rattle.texel.specs.BlockTexel.{block_numbers}
use Rattle.block_answer.specs.declared.Answer.{Answer}
use Rattle.block_answer.specs.declared.Answer.TheVariants.{Refused, Faulty, Done}
use Rattle.block_answer.specs.Told.{block_refusal, number_told, answer_for}
use Rattle.block_answer.proofs.Laws.{not_refused}
use Rattle.one_block.specs.Calls.{block_answer_in, block_told_in, block_out_in}

-- ---- what a call comes to

module _ (reading : Reading) (kind : Kind) (fp : ℕ) (s : List ℕ) (old : List ℕ) where
  module _ (h : block_refusal fp (length s) (length old) ≡ 0 → ⊥) where
    pub refused : Refused (block_refusal fp (length s) (length old)) ≡ block_answer_in reading kind fp s (length old)
    unfolding block_answer_in
    refused = rw (ne_eqb _ _ h)

    pub untouched : old ≡ block_out_in reading kind fp s old
    unfolding block_out_in
    untouched = rw (ne_eqb _ _ h)

  module _ (e : block_refusal fp (length s) (length old) ≡ 0) where
    pub answered : answer_for (fault_in reading (takes_hdr kind) fp (number_of s)) ≡ block_answer_in reading kind fp s (length old)
    unfolding block_answer_in
    answered = rw (eq-eqb _ _ e)

    pub written : numbers_in reading fp kind (number_of s) ≡ block_out_in reading kind fp s old
    unfolding block_out_in
    written = rw (eq-eqb _ _ e)

-- 01's number of an answer
pub answer_told : (reading : Reading) (kind : Kind) (fp : ℕ) (s : List ℕ) (numbers : ℕ) → number_told (block_answer_in reading kind fp s numbers) ≡ block_told_in reading kind fp s numbers
unfolding block_answer_in block_told_in answer_for
answer_told reading kind fp s numbers = go (fault_in reading (takes_hdr kind) fp (number_of s)) (eqb (block_refusal fp (length s) numbers) 0) _ refl where
  go : (f : ℕ) (a b : Bool) → eqb f 0 ≡ b
      → number_told (pick a (pick b Done (Faulty f)) (Refused (block_refusal fp (length s) numbers))) ≡ pick a f (block_refusal fp (length s) numbers)
  go f true true e = sym (eqb-true f 0 e)
  go f true false e = refl
  go f false b e = refl

-- all that a call promises, from its answer and its buffer
pub promised : (reading : Reading) (kind : Kind) (fp : ℕ) (s old : List ℕ) (r : Answer) (new : List ℕ) → r ≡ block_answer_in reading kind fp s (length old) → new ≡ block_out_in reading kind fp s old
    → (r ≡ block_answer_in reading kind fp s (length old)) × ((new ≡ block_out_in reading kind fp s old) × (number_told r ≡ block_told_in reading kind fp s (length old)))
promised reading kind fp s old r new e o = (e, (o, ap number_told e ∙ answer_told reading kind fp s (length old)))

-- a call that is not refused: the answer, and the first numbers of a buffer that holds the block, as shown
module _ (reading : Reading) (kind : Kind) (fp : ℕ) (s old : List ℕ) (b : Bytes s) (B : ℕ) (l : B ≡ field (number_of s) 0 128) (e : block_refusal fp (length s) (length old) ≡ 0) where
  number : B ≡ number_of s
  number = l ∙ loaded s b (not_refused _ _ _ e).sixteen

  pub told : answer_for (fault_in reading (takes_hdr kind) fp B) ≡ block_answer_in reading kind fp s (length old)
  told = ap (λ (x : ℕ). answer_for (fault_in reading (takes_hdr kind) fp x)) number ∙ answered reading kind fp s old e

  pub copied : (buffer : List ℕ) (show : ℕ → ℕ) → ((x : ℕ) → show x ≡ shown_of kind x) → (start : List ℕ) → length start ≡ 864 → buffer ≡ into_in reading fp kind B start
      → tab (λ k. show (get_or buffer k 0)) (length old) ≡ block_out_in reading kind fp s old
  unfolding numbers_in
  copied buffer show same start size into =
      ap (tab (λ k. show (get_or buffer k 0))) (not_refused _ _ _ e).size
      ∙ numbers
      ∙ ap (numbers_in reading fp kind) number
      ∙ written reading kind fp s old e
    where
      numbers : tab (λ k. show (get_or buffer k 0)) (4 * texels_of fp) ≡ numbers_in reading fp kind B
      numbers = tab_ext _ _ 0 (4 * texels_of fp) (λ k p. same _ ∙ ap (shown_of kind) ((held reading fp kind B start buffer size into).holds k p))

-- the ordinary reading of a block that is not refused leaves the block's numbers
pub ordinary_out : (kind : Kind) (fp : ℕ) (s old : List ℕ) → block_refusal fp (length s) (length old) ≡ 0 → block_numbers fp kind (number_of s) ≡ block_out_in Ordinary kind fp s old
ordinary_out kind fp s old e = sym (ordinary_numbers fp kind (number_of s)) ∙ written Ordinary kind fp s old e
