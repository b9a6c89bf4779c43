-- The refusals of the call one by one, and what it promises in each case.
-- Assumes nothing.
use mathlib.Core.Path.{◌≡◌, refl, sym, ap, ◌∙◌}
use mathlib.Core.Bool.{Bool, true, false, not}
use mathlib.Core.List.{List}
use Prim.Native.Nat.{ℕ, ◌*◌, ◌≤◌, ◌<◌}
use native.Mathlib.Decide.{dec_le, ℕ_discrete}
use native.Mathlib.Omega.{arith}
use lib.Dec.{eqb, ltb}
use lib.ListN.{length}
use borrow.Author.Tests.{eq-eqb, ne_eqb, lt-ltb, le-ltb}
use Rattle.std.specs.Prelude.{Result, Ok, Err}
use Rattle.laws.specs.Choice.{pick, either}
use Rattle.reason.specs.declared.Refusal.{Refusal}
use Rattle.reason.specs.Numbers.{refusal_number}
use Rattle.reason.proofs.Told.{refusal_some}
use Rattle.laws.specs.Table.{tab}
use Rattle.interpolation.specs.declared.Kind.{Kind}
use Rattle.block_reading.specs.declared.Reading.{Reading}
use Rattle.kind_number.specs.Kinds.{kind_of}
use Rattle.image_size.specs.Sides.{bad_side, blocks_of, size_refusal}
use Rattle.footprint.specs.Footprint.{width_of, height_of}
use Rattle.footprint.proofs.Laws.{flat_bounds}
use Rattle.image_size.proofs.Laws.{limit_le, sized, side_fine, across_le, product_most}
use Rattle.image_layout.specs.declared.Tally.{Tally}
use Rattle.image_layout.specs.Numbers.{fault_at_in}
use Rattle.image_layout.specs.Faulty.{tally_of}
use Rattle.image_layout.specs.Call.{image_tally_in, told_of}
use Rattle.image_faults.specs.Faults.{faults_refusal, fault_list, faults_answer, faults_told, faults_out}

module _ (fp k w h bytes places : ℕ) where
  -- first the refusals of the sides, then the lengths
  by_size : fp ≤ 13 → k ≤ 2 → faults_refusal fp k w h bytes places
      ≡ pick (eqb (size_refusal fp w h) 0) (pick (eqb bytes (16 * blocks_of fp w h)) (pick (eqb places (blocks_of fp w h)) 0 5) 4) (size_refusal fp w h)
  unfolding faults_refusal size_refusal
  by_size f m = rw (le-ltb 13 fp f, le-ltb 2 k m) (go (either (bad_side w) (bad_side h)) (eqb bytes (16 * blocks_of fp w h)) (eqb places (blocks_of fp w h))) where
    go : (b c d : Bool) → ◌≡◌ {A = ℕ} (pick b 3 (pick (not c) 4 (pick (not d) 5 0))) (pick (eqb (pick b 3 0) 0) (pick c (pick d 0 5) 4) (pick b 3 0))
    go true c d = refl
    go false true true = refl
    go false true false = refl
    go false false d = refl

  pub bad_footprint : 13 < fp → 1 ≡ faults_refusal fp k w h bytes places
  unfolding faults_refusal
  bad_footprint f = rw (lt-ltb 13 fp f)

  pub bad_kind : fp ≤ 13 → 2 < k → 2 ≡ faults_refusal fp k w h bytes places
  unfolding faults_refusal
  bad_kind f m = rw (le-ltb 13 fp f, lt-ltb 2 k m)

  module _ (f : fp ≤ 13) (m : k ≤ 2) (e : ℕ) (q : e ≡ size_refusal fp w h) where
    pub bad_size : (e ≡ 0 → ⊥) → e ≡ faults_refusal fp k w h bytes places
    bad_size n = sym (by_size f m ∙ rw (← q, ne_eqb e 0 n))

    module _ (z : e ≡ 0) (b : ℕ) (r : b ≡ blocks_of fp w h) where
      pub bad_bytes : (bytes ≡ 16 * b → ⊥) → 4 ≡ faults_refusal fp k w h bytes places
      bad_bytes n = sym (by_size f m ∙ rw (← q, z, ← r, ne_eqb bytes (16 * b) n))

      pub bad_places : bytes ≡ 16 * b → (places ≡ b → ⊥) → 5 ≡ faults_refusal fp k w h bytes places
      bad_places l n = sym (by_size f m ∙ rw (← q, z, ← r, eq-eqb bytes (16 * b) l, ne_eqb places b n))

      pub all_good : bytes ≡ 16 * b → places ≡ b → 0 ≡ faults_refusal fp k w h bytes places
      all_good l n = sym (by_size f m ∙ rw (← q, z, ← r, eq-eqb bytes (16 * b) l, eq-eqb places b n))

-- ---- what holds once none does

pub record Taken (fp w h bytes places : ℕ) : Type 0 where
  pub footprint : fp ≤ 13
  pub size : size_refusal fp w h ≡ 0
  pub exact_bytes : bytes ≡ 16 * blocks_of fp w h
  pub exact_places : places ≡ blocks_of fp w h

pub taken : (fp k w h bytes places : ℕ) → faults_refusal fp k w h bytes places ≡ 0 → Taken fp w h bytes places
taken fp k w h bytes places q =
    elim (dec_le fp 13) [
      | no f ↦ absurd (let z : ◌≡◌ {A = ℕ} 1 0 = bad_footprint fp k w h bytes places (omega arith) ∙ q in omega arith)
      | yes f ↦ elim (dec_le k 2) [
        | no m ↦ absurd (let z : ◌≡◌ {A = ℕ} 2 0 = bad_kind fp k w h bytes places f (omega arith) ∙ q in omega arith)
        | yes m ↦ sides f m
      ]
    ]
  where
    sides : fp ≤ 13 → k ≤ 2 → Taken fp w h bytes places
    sides f n = elim (ℕ_discrete (size_refusal fp w h) 0) [
      | no z ↦ absurd (z (bad_size fp k w h bytes places f n _ refl z ∙ q))
      | yes z ↦ elim (ℕ_discrete bytes (16 * blocks_of fp w h)) [
        | no l ↦ absurd (let j : ◌≡◌ {A = ℕ} 4 0 = bad_bytes fp k w h bytes places f n _ refl z _ refl l ∙ q in omega arith)
        | yes l ↦ elim (ℕ_discrete places (blocks_of fp w h)) [
          | no m ↦ absurd (let j : ◌≡◌ {A = ℕ} 5 0 = bad_places fp k w h bytes places f n _ refl z _ refl l m ∙ q in omega arith)
          | yes m ↦ record { footprint = f; size = z; exact_bytes = l; exact_places = m }
        ]
      ]
    ]

blocks_most : (fp w h : ℕ) → size_refusal fp w h ≡ 0 → blocks_of fp w h ≤ 268435456
unfolding blocks_of
blocks_most fp w h e =
    let s = sized fp w h e in
    let b = flat_bounds fp (let k = s.footprint in omega arith) in
    let l = limit_le in
    product_most _ _ (let k = (side_fine h s.high).1 in omega (arith, across_le h (height_of fp) (let k = b.height_least in omega arith)))
    (let k = (side_fine w s.wide).1 in omega (arith, across_le w (width_of fp) (let k = b.width_least in omega arith)))

-- what the loop needs
pub record Lengths (fp : ℕ) (s faults : List ℕ) : Type 0 where
  pub footprint : fp ≤ 13
  pub bytes : length s ≡ 16 * length faults
  pub most : length faults ≤ 268435456

pub lengths : (fp k w h : ℕ) (s faults : List ℕ) → faults_refusal fp k w h (length s) (length faults) ≡ 0 → Lengths fp s faults
lengths fp k w h s faults q =
    let t = taken fp k w h (length s) (length faults) q in
    record { footprint = t.footprint; bytes = t.exact_bytes ∙ ap (λ (n : ℕ). 16 * n) (sym t.exact_places); most = rw t.exact_places (blocks_most fp w h t.size) }

-- ---- the call's promises

pub record Promised (reading : Reading) (fp k w h : ℕ) (s old : List ℕ) (r : Result Tally Refusal) (new : List ℕ) : Type 0 where
  pub answer : faults_answer reading fp k w h s (length old) r
  pub told : told_of r ≡ faults_told reading fp k w h s (length old)
  pub list : new ≡ faults_out reading fp k w h s old

module _ (reading : Reading) (fp k w h : ℕ) (s old : List ℕ) where
  -- a refused call: its number, and the list as it was
  pub refused : (refusal : Refusal) → refusal_number refusal ≡ faults_refusal fp k w h (length s) (length old) → Promised reading fp k w h s old (Err refusal) old
  unfolding faults_told faults_out
  refused refusal q =
      let n : refusal_number refusal ≡ 0 → ⊥ = λ z. let p = refusal_some refusal in omega arith in
      record { answer = q; told = rw (← q, ne_eqb (refusal_number refusal) 0 n); list = rw (← q, ne_eqb (refusal_number refusal) 0 n) }

  -- any other: the tally of the image call, and the list
  pub told_all : (kind : Kind) (t : Tally) (new : List ℕ) → kind ≡ kind_of k → faults_refusal fp k w h (length s) (length old) ≡ 0
      → t ≡ tally_of (fault_at_in reading fp kind s) (length old) → new ≡ tab (fault_at_in reading fp kind s) (length old) → Promised reading fp k w h s old (Ok t) new
  unfolding faults_told faults_out fault_list image_tally_in
  told_all kind t new r q e l =
      let n = (taken fp k w h (length s) (length old) q).exact_places in
      record { answer = (q, rw (e, n, r) refl); told = rw (q, e, n, r) refl; list = rw (q, l, n, r) refl }
