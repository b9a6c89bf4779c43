-- What the stages of the reader come to, and the numbers that it reads.
-- Assumes nothing.
use mathlib.Core.Path.{◌≡◌, refl, sym, ap, ◌∙◌}
use mathlib.Core.Bool.{Bool, true, false, not}
use mathlib.Core.List.{List}
use Prim.Native.Nat.{ℕ, ◌≤◌, ◌<◌}
use native.Mathlib.Omega.{arith}
use lib.Dec.{eqb, ltb}
use lib.ListN.{length, get_or}
use borrow.Author.Tests.{lt-ltb, le-ltb, eq-eqb, ne_eqb, eqb-true}
use Rattle.laws.specs.Choice.{pick}
use Rattle.laws.specs.Table.{tab, padded, Bytes}
use Rattle.laws.proofs.Filling.{tab_ext, padded_at}
use Rattle.encoding.specs.declared.Encoding.{Encoding}
use Rattle.integer_sequence.specs.Reading.{number, numbers, stored}
use Rattle.bits.specs.Field.{field}
use Rattle.bits.specs.Block.{number_of}
use Rattle.bits.proofs.Halves.{loaded}
use Rattle.block_fault.specs.Bits.{mode_at, is_void, header_at, endpoint_at, weight_at}
use Rattle.footprint.specs.Footprint.{is_volume}
use Rattle.void_extent.specs.Layout.{colour_at, extent_at}
use Rattle.block_fault.specs.Faults.{fault_of}
use Rattle.block_answer.specs.declared.Answer.TheVariants.{Refused, Faulty}
use Rattle.block_answer.specs.Told.{number_told}
use Rattle.symbolic_block.specs.Reading.{mode_block, void_block, read_block}
use Rattle.symbolic_block.proofs.Opened.{read_void, read_mode}
use Rattle.spare_bits.specs.Spare.{spare_in, no_spare}
use Rattle.symbolic_reader.specs.Answers.{read_refusal, nothing, done_with, done, reading_in, reading_of, read_told}
use Rattle.symbolic_reader.specs.declared.SymbolicReading.{SymbolicReading}

-- ---- refusals one by one

module _ (fp bytes : ℕ) where
  pub unknown_footprint_lem : 23 < fp → 1 ≡ read_refusal fp bytes
  unfolding read_refusal
  unknown_footprint_lem h = rw (lt-ltb _ _ h)

  pub not_sixteen : fp ≤ 23 → (bytes ≡ 16 → ⊥) → 4 ≡ read_refusal fp bytes
  unfolding read_refusal
  not_sixteen k h = rw (le-ltb _ _ k, ne_eqb _ _ h)

  pub accepted : fp ≤ 23 → bytes ≡ 16 → 0 ≡ read_refusal fp bytes
  unfolding read_refusal
  accepted k h = rw (le-ltb _ _ k, eq-eqb _ _ h)

-- ---- the numbers of a sequence, 0 past the last

picked : (t : Bool) (x : ℕ) → pick t (stored x) (stored 0) ≡ stored (pick t x 0)
picked true x = refl
picked false x = refl

pub number_at : (e : Encoding) (b v n i : ℕ) → i < 64 → get_or (numbers e b v n) i (stored 0) ≡ stored (pick (ltb i n) (number e b v i) 0)
unfolding numbers
number_at e b v n i h = padded_at (λ i. stored (number e b v i)) (stored 0) 64 n i (stored 0) h ∙ picked (ltb i n) (number e b v i)

pub all_numbers : (e : Encoding) (b v n : ℕ) → numbers e b v n ≡ tab (λ i. stored (pick (ltb i n) (number e b v i) 0)) 64
unfolding numbers padded
all_numbers e b v n = tab_ext _ _ (stored 0) 64 (λ i h. picked (ltb i n) (number e b v i))

pub first_numbers : (e : Encoding) (b v n : ℕ) → tab (λ i. get_or (numbers e b v n) i (stored 0)) 18 ≡ tab (λ i. stored (pick (ltb i n) (number e b v i) 0)) 18
first_numbers e b v n = tab_ext _ _ (stored 0) 18 (λ i h. number_at e b v n i (omega arith))

-- ---- the reading of bytes that are not refused, stage by stage

module _ (fp B : ℕ) where
  pub fault_reading : (n : ℕ) → fault_of true fp B ≡ n → (fault_of true fp B ≡ 0 → ⊥) → nothing (Faulty n) ≡ reading_in fp B
  unfolding reading_in
  fault_reading n e h = rw (ne_eqb (fault_of true fp B) 0 h, e)

  pub void_reading : fault_of true fp B ≡ 0 → is_void (mode_at fp B) ≡ true → done_with (void_block (field B 9 1) (colour_at B) (extent_at (is_volume fp) B)) no_spare ≡ reading_in fp B
  unfolding reading_in void_block
  void_reading e v = rw (eq-eqb (fault_of true fp B) 0 e, read_void fp B v)

  pub coded_reading : fault_of true fp B ≡ 0 → is_void (mode_at fp B) ≡ false → done_with (mode_block (header_at fp B) (endpoint_at B (header_at fp B)) (weight_at B (header_at fp B))) (spare_in B (header_at fp B)) ≡ reading_in fp B
  unfolding reading_in mode_block
  coded_reading e v = rw (eq-eqb (fault_of true fp B) 0 e, read_mode fp B v)

module _ (fp : ℕ) (s : List ℕ) where
  -- a refusal at once with its number
  pub stopped_reading : (n : ℕ) → read_refusal fp (length s) ≡ n → (read_refusal fp (length s) ≡ 0 → ⊥) → nothing (Refused n) ≡ reading_of fp s
  unfolding reading_of
  stopped_reading n e h = rw (ne_eqb (read_refusal fp (length s)) 0 h, e)

  sixteen : read_refusal fp (length s) ≡ 0 → length s ≡ 16
  unfolding read_refusal
  sixteen e = go (ltb 23 fp) (eqb (length s) 16) refl e where
    go : (a b : Bool) → eqb (length s) 16 ≡ b → ◌≡◌ {A = ℕ} (pick a 1 (pick (not b) 4 0)) 0 → length s ≡ 16
    go true b q r = absurd (omega (arith, r))
    go false false q r = absurd (omega (arith, r))
    go false true q r = eqb-true _ _ q

  -- otherwise the bytes are sixteen, and their number is read
  pub whole_reading : 0 ≡ read_refusal fp (length s) → reading_in fp (number_of s) ≡ reading_of fp s
  unfolding reading_of
  whole_reading e = rw (eq-eqb _ 0 (sym e))

  pub passed_reading : Bytes s → 0 ≡ read_refusal fp (length s) → {B : ℕ} → B ≡ field (number_of s) 0 128 → reading_in fp B ≡ reading_of fp s
  passed_reading bytes e q = ap (reading_in fp) (q ∙ loaded s bytes (sixteen (sym e))) ∙ whole_reading e

  -- 01's number of the answer
  number_told_lem : number_told (reading_of fp s).answer ≡ read_told fp s
  unfolding reading_of reading_in read_told
  number_told_lem = go (eqb (read_refusal fp (length s)) 0) (eqb (fault_of true fp (number_of s)) 0) refl where
    go : (a b : Bool) → eqb (fault_of true fp (number_of s)) 0 ≡ b
        → number_told (pick a (pick b (done (number_of s) (read_block fp (number_of s))) (nothing (Faulty (fault_of true fp (number_of s))))) (nothing (Refused (read_refusal fp (length s))))).answer
        ≡ pick a (fault_of true fp (number_of s)) (read_refusal fp (length s))
    go true true e = sym (eqb-true (fault_of true fp (number_of s)) 0 e)
    go true false e = refl
    go false b e = refl

  -- all that a call promises, from what it returns
  pub promised : (r : SymbolicReading) → r ≡ reading_of fp s → (r ≡ reading_of fp s) × (number_told r.answer ≡ read_told fp s)
  promised r e = (e, ap (λ (q : SymbolicReading). number_told q.answer) e ∙ number_told_lem)
