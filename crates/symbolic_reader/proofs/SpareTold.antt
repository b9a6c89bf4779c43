-- What holds of the spare bits that are told (statement: specs/Told.antt) is proved.
-- Assumes nothing.
use mathlib.Core.Path.{◌≡◌, refl, sym, ap, ◌∙◌, subst}
use mathlib.Core.Bool.{Bool, true, false}
use mathlib.Core.List.{List}
use Prim.Native.Nat.{ℕ, ◌+◌}
use native.Mathlib.Omega.{arith}
use lib.Dec.{eqb}
use lib.ListN.{length}
use borrow.Author.Tests.{eq-eqb, ne_eqb}
use Rattle.laws.specs.Choice.{pick}
use Rattle.bits.specs.Field.{field}
use Rattle.bits.specs.Block.{number_of}
use Rattle.block_fault.specs.Bits.{mode_at, is_void, header_at}
use Rattle.block_fault.specs.Faults.{fault_of}
use Rattle.block_answer.specs.declared.Answer.{Answer}
use Rattle.block_answer.specs.declared.Answer.TheVariants.{Refused, Faulty, Done}
use Rattle.block_answer.specs.Told.{answer_for}
use Rattle.symbolic_block.specs.declared.SymbolicBlock.{SymbolicBlock}
use Rattle.symbolic_block.specs.Fields.{header_of, Sized}
use Rattle.symbolic_block.specs.Refusals.{Acceptable}
use Rattle.symbolic_block.specs.Reading.{mode_block, void_block, zero_block, read_block}
use Rattle.symbolic_block.specs.Writing.{endpoints_end, block_of}
use Rattle.symbolic_block.proofs.Opened.{read_void, read_mode}
use Rattle.symbolic_block.proofs.Demand.{demand_3}
use Rattle.symbolic_reader.specs.declared.SymbolicReading.{SymbolicReading}
use Rattle.spare_bits.specs.declared.Spare.{Spare}
use Rattle.spare_bits.specs.Spare.{named_bits, spare_bits, some_set, spare_in, no_spare, spare_count, spare_of}
use Rattle.spare_bits.proofs.Leftover.{named_is, between_is}
use Rattle.symbolic_reader.specs.Answers.{read_refusal, nothing, done, reading_in, reading_of, read_told}
use Rattle.symbolic_reader.specs.Told.{plain_answer, plain_block, SpareTold}

-- ---- what is told, in each event

module _ (fp : ℕ) (s : List ℕ) where
  abbrev B : ℕ
  B = number_of s

  -- by the two tests: not refused, and without fault
  abbrev told : Bool → Bool → SymbolicReading
  told a b = pick a (pick b (done B (read_block fp B)) (nothing (Faulty (fault_of true fp B)))) (nothing (Refused (read_refusal fp (length s))))

  abbrev fine : Bool
  fine = eqb (fault_of true fp B) 0

  abbrev passed : Bool
  passed = eqb (read_refusal fp (length s)) 0

  told_is : reading_of fp s ≡ told passed fine
  unfolding reading_of reading_in
  told_is = refl

  same_answer : (reading_of fp s).answer ≡ plain_answer fp s
  unfolding plain_answer answer_for
  same_answer = ap (λ (r : SymbolicReading). r.answer) told_is ∙ go passed fine where
    go : (a b : Bool) → (told a b).answer ≡ pick a (pick b Done (Faulty (fault_of true fp B))) (Refused (read_refusal fp (length s)))
    go true true = refl
    go true false = refl
    go false b = refl

  same_block : (reading_of fp s).block ≡ plain_block fp s
  unfolding plain_block read_told
  same_block = ap (λ (r : SymbolicReading). r.block) told_is ∙ go passed fine refl refl where
    go : (a b : Bool) → passed ≡ a → fine ≡ b → (told a b).block ≡ pick (eqb (pick a (fault_of true fp B) (read_refusal fp (length s))) 0) (read_block fp B) zero_block
    go true true p q = rw q
    go true false p q = rw q
    go false b p q = rw p

  -- the spare bits are the sheet's where one was read, else none
  by_answer : (P : SymbolicReading → Type 0) → P (done B (read_block fp B)) → ((a : Answer) → (a ≡ Done → ⊥) → P (nothing a)) → P (reading_of fp s)
  by_answer P x y = subst P (sym told_is) (go passed fine) where
    go : (a b : Bool) → P (told a b)
    go true true = x
    go true false = y (Faulty (fault_of true fp B)) (λ q. let z : ◌≡◌ {A = ℕ} 0 1 = cc in omega arith)
    go false b = y (Refused (read_refusal fp (length s))) (λ q. let z : ◌≡◌ {A = ℕ} 0 1 = cc in omega arith)

-- the sheet's own count, and none of a solid one
pub count_is : (C : ℕ) (t : SymbolicBlock) → (spare_of C t).count ≡ spare_count t
count_is C t = go (eqb t.mark 1) where
  go : (b : Bool) → (pick b no_spare (spare_in C (header_of t))).count ≡ pick b 0 (spare_bits (header_of t))
  go true = refl
  go false = refl

solid_none : (C : ℕ) (t : SymbolicBlock) → t.mark ≡ 1 → spare_of C t ≡ no_spare
solid_none C t e = rw (eq-eqb t.mark 1 e)

count_mode : (fp C : ℕ) → is_void (mode_at fp C) ≡ false → spare_count (read_block fp C) ≡ spare_bits (header_at fp C)
unfolding mode_block
count_mode fp C v = ap spare_count (read_mode fp C v)

whole : (fp C : ℕ) → is_void (mode_at fp C) ≡ false → fault_of true fp C ≡ 0 → named_bits (header_at fp C) + spare_count (read_block fp C) ≡ 128
unfolding spare_bits
whole fp C v e = rw (count_mode fp C v) (omega (arith, named_is (header_at fp C), demand_3.parts_apart fp C v e))

-- the mark that is read
mark_void : (fp C : ℕ) → is_void (mode_at fp C) ≡ true → (read_block fp C).mark ≡ 1
unfolding void_block
mark_void fp C v = ap (λ (t : SymbolicBlock). t.mark) (read_void fp C v)

mark_mode : (fp C : ℕ) → is_void (mode_at fp C) ≡ false → (read_block fp C).mark ≡ 0
unfolding mode_block
mark_mode fp C v = ap (λ (t : SymbolicBlock). t.mark) (read_mode fp C v)

module _ (fp : ℕ) (s : SymbolicBlock) (z : Sized s) (a : Acceptable fp s) where
  mark_back : (read_block fp (block_of fp s)).mark ≡ s.mark
  mark_back = ap (λ (t : SymbolicBlock). t.mark) (demand_3.written_reads_back fp s z a)

  field_clear : s.mark ≡ 0 → field (block_of fp s) (endpoints_end (header_of s)) (spare_bits (header_of s)) ≡ 0
  field_clear m = ap (field (block_of fp s) (endpoints_end (header_of s))) (between_is (header_of s)) ∙ demand_3.spare_bits_lem fp s z a m

  mode_clear : s.mark ≡ 0 → (spare_of (block_of fp s) s).set ≡ false
  unfolding some_set
  mode_clear m = rw (ne_eqb s.mark 1 (λ q. omega (arith, m, q)), eq-eqb _ 0 (field_clear m))

  pub written_clear : (spare_of (block_of fp s) s).set ≡ false
  written_clear = go (is_void (mode_at fp (block_of fp s))) refl where
    go : (v : Bool) → is_void (mode_at fp (block_of fp s)) ≡ v → (spare_of (block_of fp s) s).set ≡ false
    go true v = ap (λ (q : Spare). q.set) (solid_none (block_of fp s) s (sym mark_back ∙ mark_void fp (block_of fp s) v))
    go false v = mode_clear (sym mark_back ∙ mark_mode fp (block_of fp s) v)

-- ---- the whole

fixed : (fp : ℕ) (s : List ℕ) → (reading_of fp s).answer ≡ Done → (reading_of fp s).spare.count ≡ spare_count (reading_of fp s).block
fixed fp s =
    by_answer fp s (λ r. r.answer ≡ Done → r.spare.count ≡ spare_count r.block) (λ d. count_is (number_of s) (read_block fp (number_of s)))
    (λ a n d. absurd (n d))

pub spare_told : SpareTold
spare_told = record {
  same_answer = same_answer;
  same_block = same_block;
  fixed = fixed;
  same_count = λ fp fp2 s t d e q. fixed fp s d ∙ ap spare_count q ∙ sym (fixed fp2 t e);
  between = λ fp C v e. count_mode fp C v ∙ between_is (header_at fp C);
  whole = whole;
  solid = λ fp s. by_answer fp s (λ r. r.block.mark ≡ 1 → r.spare ≡ no_spare) (λ m. solid_none (number_of s) (read_block fp (number_of s)) m) (λ a n m. refl);
  not_read = λ fp s. by_answer fp s (λ r. (r.answer ≡ Done → ⊥) → r.spare ≡ no_spare) (λ h. absurd (h refl)) (λ a n h. refl);
  written_clear = written_clear;
}
