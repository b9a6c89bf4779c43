-- The strict reader by its cases: refused, a fault of the ordinary reading, 21, or the sheet.
-- Assumes nothing.
use mathlib.Core.Path.{◌≡◌, refl, sym, ap, ◌∙◌, subst}
use mathlib.Core.Bool.{Bool, true, false, not}
use mathlib.Core.List.{List}
use Prim.Native.Nat.{ℕ, ◌≤◌}
use native.Mathlib.Decide.{ℕ_discrete}
use native.Mathlib.Omega.{arith}
use lib.Dec.{T, eqb, ltb}
use lib.ListN.{length}
use borrow.Author.Tests.{ltb-false, eq-eqb, ne_eqb, eqb-true}
use Rattle.laws.specs.Choice.{pick}
use Rattle.bits.specs.Block.{number_of}
use Rattle.block_answer.specs.declared.Answer.{Answer}
use Rattle.block_answer.specs.declared.Answer.TheVariants.{Refused, Faulty, Done}
use Rattle.block_answer.specs.Told.{number_told}
use Rattle.block_fault.specs.Faults.{fault_of}
use Rattle.symbolic_block.specs.Writing.{block_of}
use Rattle.symbolic_block.specs.Reading.{read_block}
use Rattle.symbolic_block.specs.Refusals.{refusal_of}
use Rattle.symbolic_block.proofs.Demand.{demand_3}
use Rattle.block_reading.specs.declared.Reading.{Reading}
use Rattle.block_reading.specs.declared.Reading.TheVariants.{Ordinary, Strict}
use Rattle.block_reading.specs.Faults.{canonical_of, strict_fault, fault_in}
use Rattle.block_reading.proofs.Strict.{strict_other, strict_none, strict_21}
use Rattle.symbolic_reader.specs.declared.SymbolicReading.{SymbolicReading}
use Rattle.symbolic_reader.specs.Answers.{read_refusal, nothing, done, reading_in, reading_of, read_told}
use Rattle.symbolic_reader.proofs.Laws.{promised}
use Rattle.strict_reader.specs.Sheets.{sheet_of, sheet_in, sheet_told}

-- the ordinary reader is one of the two
pub ordinary : (fp : ℕ) (s : List ℕ) → sheet_in Ordinary fp s ≡ reading_of fp s
unfolding sheet_in sheet_of reading_of reading_in
ordinary fp s = refl

module _ (reading : Reading) (fp : ℕ) (s : List ℕ) where
  -- 01's number of the answer
  pub sheet_told_lem : number_told (sheet_in reading fp s).answer ≡ sheet_told reading fp s
  unfolding sheet_in sheet_of sheet_told
  sheet_told_lem = go (eqb (read_refusal fp (length s)) 0) (fault_in reading true fp (number_of s)) (eqb (fault_in reading true fp (number_of s)) 0) refl where
    go : (a : Bool) (f : ℕ) (b : Bool) → eqb f 0 ≡ b
        → number_told (pick a (pick b (done (number_of s) (read_block fp (number_of s))) (nothing (Faulty f))) (nothing (Refused (read_refusal fp (length s))))).answer
        ≡ pick a f (read_refusal fp (length s))
    go true f true e = sym (eqb-true f 0 e)
    go true f false e = refl
    go false f b e = refl

  pub both_told : (r : SymbolicReading) → r ≡ sheet_in reading fp s → (r ≡ sheet_in reading fp s) × (number_told r.answer ≡ sheet_told reading fp s)
  both_told r e = (e, ap (λ (q : SymbolicReading). number_told q.answer) e ∙ sheet_told_lem)

  module _ (none : read_refusal fp (length s) ≡ 0) where
    pub told_fault : sheet_told reading fp s ≡ fault_in reading true fp (number_of s)
    unfolding sheet_told
    told_fault = rw (eq-eqb (read_refusal fp (length s)) 0 none)

    pub sheet_sound : fault_in reading true fp (number_of s) ≡ 0 → sheet_in reading fp s ≡ done (number_of s) (read_block fp (number_of s))
    unfolding sheet_in sheet_of
    sheet_sound e = rw (eq-eqb (read_refusal fp (length s)) 0 none, eq-eqb (fault_in reading true fp (number_of s)) 0 e)

    pub sheet_faulty : (n : ℕ) → fault_in reading true fp (number_of s) ≡ n → (n ≡ 0 → ⊥) → sheet_in reading fp s ≡ nothing (Faulty n)
    unfolding sheet_in sheet_of
    sheet_faulty n e h = rw (eq-eqb (read_refusal fp (length s)) 0 none, e, ne_eqb n 0 h)

-- a fault is told with a sheet of zeros
abbrev is_faulty : Answer → Bool
is_faulty (Refused n) = false
is_faulty (Faulty n) = true
is_faulty Done = false

pub faulty_zeros : (reading : Reading) (fp : ℕ) (s : List ℕ) (n : ℕ) → (sheet_in reading fp s).answer ≡ Faulty n → sheet_in reading fp s ≡ nothing (Faulty n)
unfolding sheet_in sheet_of
faulty_zeros reading fp s n e =
    go (eqb (read_refusal fp (length s)) 0) (eqb (fault_in reading true fp (number_of s)) 0) (done (number_of s) (read_block fp (number_of s))) refl
    (fault_in reading true fp (number_of s)) (read_refusal fp (length s)) e
  where
    go : (a b : Bool) (x : SymbolicReading) → x.answer ≡ Done → (f r : ℕ) → (pick a (pick b x (nothing (Faulty f))) (nothing (Refused r))).answer ≡ Faulty n
        → pick a (pick b x (nothing (Faulty f))) (nothing (Refused r)) ≡ nothing (Faulty n)
    go true true x d f r q = absurd (subst (λ (y : Answer). T (not (is_faulty y))) (sym d ∙ q) tt)
    go true false x d f r q = ap nothing q
    go false b x d f r q = absurd (subst (λ (y : Answer). T (not (is_faulty y))) q tt)

-- refused
module _ (fp : ℕ) (s : List ℕ) (h : read_refusal fp (length s) ≡ 0 → ⊥) where
  told_refused_lem : sheet_told Ordinary fp s ≡ read_refusal fp (length s)
  unfolding sheet_told
  told_refused_lem = rw (ne_eqb (read_refusal fp (length s)) 0 h)

  refused_same : reading_of fp s ≡ sheet_in Strict fp s
  unfolding reading_of sheet_in
  refused_same = rw (ne_eqb (read_refusal fp (length s)) 0 h)

-- ---- what the ordinary answer Done says

pub record Read (fp : ℕ) (s : List ℕ) : Type 0 where
  pub none : read_refusal fp (length s) ≡ 0
  pub no_fault : fault_of true fp (number_of s) ≡ 0
  pub known : fp ≤ 23
  pub sixteen : length s ≡ 16
  pub block : (reading_of fp s).block ≡ read_block fp (number_of s)

module _ (fp : ℕ) (s : List ℕ) where
  known : read_refusal fp (length s) ≡ 0 → (fp ≤ 23) × (length s ≡ 16)
  unfolding read_refusal
  known e = go (ltb 23 fp) (eqb (length s) 16) refl refl e where
    go : (a b : Bool) → ltb 23 fp ≡ a → eqb (length s) 16 ≡ b → ◌≡◌ {A = ℕ} (pick a 1 (pick (not b) 4 0)) 0 → (fp ≤ 23) × (length s ≡ 16)
    go true b p q z = absurd (omega (arith, z))
    go false false p q z = absurd (omega (arith, z))
    go false true p q z = (ltb-false 23 fp p, eqb-true (length s) 16 q)

  pub read : (reading_of fp s).answer ≡ Done → Read fp s
  read d = elim (ℕ_discrete (read_refusal fp (length s)) 0) [
    | yes z ↦ taken z
    | no n ↦ absurd (n (refused n))
  ] where
    told : sheet_told Ordinary fp s ≡ 0
    told = sym (sheet_told_lem Ordinary fp s) ∙ ap (λ (r : SymbolicReading). number_told r.answer) (ordinary fp s) ∙ ap number_told d

    refused : (read_refusal fp (length s) ≡ 0 → ⊥) → read_refusal fp (length s) ≡ 0
    refused n = sym (told_refused_lem fp s n) ∙ told

    taken : read_refusal fp (length s) ≡ 0 → Read fp s
    taken z =
        let f : fault_of true fp (number_of s) ≡ 0 = sym (told_fault Ordinary fp s z) ∙ told in
        record {
          none = z;
          no_fault = f;
          known = (known z).0;
          sixteen = (known z).1;
          block = ap (λ (r : SymbolicReading). r.block) (sym (ordinary fp s) ∙ sheet_sound Ordinary fp s z f);
        }

  -- any other answer is the strict reader's too
  pub not_read : ((reading_of fp s).answer ≡ Done → ⊥) → reading_of fp s ≡ sheet_in Strict fp s
  not_read h = elim (ℕ_discrete (read_refusal fp (length s)) 0) [
    | no n ↦ refused_same fp s n
    | yes z ↦ elim (ℕ_discrete (fault_of true fp (number_of s)) 0) [
      | yes e ↦ absurd (h (ap (λ (r : SymbolicReading). r.answer) (sym (ordinary fp s) ∙ sheet_sound Ordinary fp s z e)))
      | no n ↦ sym (ordinary fp s) ∙ sheet_faulty Ordinary fp s z (fault_of true fp (number_of s)) refl n
          ∙ sym (sheet_faulty Strict fp s z (fault_of true fp (number_of s)) (strict_other true fp (number_of s) n) n)
    ]
  ]

-- ---- a block that is read, by its canonical form

module _ (fp : ℕ) (s : List ℕ) (r : Read fp s) where
  pub acceptable : refusal_of fp (reading_of fp s).block ≡ 0
  acceptable = ap (refusal_of fp) r.block ∙ demand_3.read_acceptable fp (number_of s) r.known r.no_fault

  canonical : (C : ℕ) → C ≡ block_of fp (reading_of fp s).block → C ≡ canonical_of fp (number_of s)
  unfolding canonical_of
  canonical C e = e ∙ ap (block_of fp) r.block

  module _ (B C : ℕ) (b : B ≡ number_of s) (c : C ≡ block_of fp (reading_of fp s).block) where
    pub same_passes : true ≡ eqb B C → reading_of fp s ≡ sheet_in Strict fp s
    same_passes q =
        let e : number_of s ≡ canonical_of fp (number_of s) = sym b ∙ eqb-true B C (sym q) ∙ canonical C c in
        sym (ordinary fp s) ∙ sheet_sound Ordinary fp s r.none r.no_fault
        ∙ sym (sheet_sound Strict fp s r.none (strict_none true fp (number_of s) r.no_fault e))

    pub other_21 : false ≡ eqb B C → nothing (Faulty 21) ≡ sheet_in Strict fp s
    other_21 q =
        sym (sheet_faulty Strict fp s r.none 21 (strict_21 true fp (number_of s) r.no_fault (λ e. differ (q ∙ eq-eqb B C (b ∙ e ∙ sym (canonical C c))))) (λ z. omega (arith, z)))
      where
        differ : ◌≡◌ {A = Bool} false true → ⊥
        differ x = let k : ◌≡◌ {A = ℕ} 0 1 = ap (λ (t : Bool). pick t 1 0) x in omega (arith, k)
