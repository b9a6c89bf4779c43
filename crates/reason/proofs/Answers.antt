-- A fault or a refusal that is handed on by `?`, and a step that passes.
-- Assumes nothing.
use mathlib.Core.Path.{◌≡◌, sym, ap, ◌∙◌, subst}
use Prim.Native.Nat.{ℕ, zero, suc}
use Rattle.std.specs.Prelude.{Option, None, Some, Result, Ok, Err, IsErrAnd}
use Rattle.reason.specs.declared.Fault.{Fault}
use Rattle.reason.specs.declared.Refusal.{Refusal}
use Rattle.reason.specs.declared.Refusal.TheVariants.{Faulty}
use Rattle.reason.specs.Numbers.{fault_number, fault_found, refusal_number, refusal_told}
use Rattle.reason.specs.Answers.{Answers, Finds, AnswerTold, answer_told, told_by}
use native.Mathlib.Omega.{arith}
use Rattle.reason.proofs.Told.{fault_some, refusal_some}

some_fault : (f : Fault) → fault_number f ≡ 0 → ⊥
some_fault f e = omega (arith, fault_some f, e)

some_refusal : (r : Refusal) → refusal_number r ≡ 0 → ⊥
some_refusal r e = omega (arith, refusal_some r, e)

-- what a step answers that does not pass, handed on: its fault is told, which is not 0
pub handed_on : {A B : Type 0} {n m : ℕ} {e : Fault} {r : Result B Fault} (x : A) (q : Result A Fault) → IsErrAnd q (λ f. f ≡ e) → r ≡ Err e → fault_found r ≡ n
    → ((k : ℕ) → k ≡ n → (k ≡ 0 → ⊥) → k ≡ m) → Finds m x q
handed_on x (Ok y) i w s told = absurd i
handed_on x (Err f) i w s told = told (fault_number f) (ap fault_number i ∙ ap fault_found (sym w) ∙ s) (some_fault f)

-- a step that does not pass, opened: its fault is told, which is not 0
pub opened : {B : Type 0} {n m : ℕ} {e : Fault} {r : Result B Fault} → r ≡ Err e → fault_found r ≡ n → ((k : ℕ) → k ≡ n → (k ≡ 0 → ⊥) → k ≡ m) → fault_number e ≡ m
opened {e = e} w s told = told (fault_number e) (ap fault_found (sym w) ∙ s) (some_fault e)

-- a step that passes has no fault
pub passed : {B : Type 0} {n : ℕ} {y : B} {r : Result B Fault} → r ≡ Ok y → fault_found r ≡ n → 0 ≡ n
passed w s = ap fault_found (sym w) ∙ s

-- what is read of a block without fault
pub read_is : {A : Type 0} {n : ℕ} {x y : A} {r : Result A Fault} → r ≡ Ok y → Finds n x r → (n ≡ 0) × (y ≡ x)
read_is {n = n} {x = x} w s = subst (Finds n x) w s

pub fault_is : {A : Type 0} {n : ℕ} {e : Fault} {r : Result A Fault} (x : A) → r ≡ Err e → Finds n x r → (n ≡ fault_number e) × (n ≡ 0 → ⊥)
fault_is {n = n} {e = e} x w s = let q : fault_number e ≡ n = subst (Finds n x) w s in (sym q, λ z. some_fault e (q ∙ z))

-- a step that refuses, and one that passes
pub refused_is : {A : Type 0} {n : ℕ} {e : Refusal} {r : Result A Refusal} → r ≡ Err e → refusal_told r ≡ n → (n ≡ refusal_number e) × (n ≡ 0 → ⊥)
refused_is {e = e} w s = let q = sym s ∙ ap refusal_told w in (q, λ z. some_refusal e (sym q ∙ z))

pub accepted : {A : Type 0} {n : ℕ} {y : A} {r : Result A Refusal} → r ≡ Ok y → refusal_told r ≡ n → 0 ≡ n
accepted w s = ap refusal_told (sym w) ∙ s

-- a refusal, or a fault as a refusal, handed on by `?`
pub refused_on : {A B : Type 0} {n m : ℕ} {e : Refusal} {r : Result B Refusal} (q : Result A Refusal) → IsErrAnd q (λ f. f ≡ e) → r ≡ Err e → refusal_told r ≡ n
    → ((n ≡ 0 → ⊥) → n ≡ m) → refusal_told q ≡ m
refused_on (Ok y) i w s told = absurd i
refused_on {e = e} (Err f) i w s told = let k = refused_is w s in ap refusal_number i ∙ sym k.0 ∙ told k.1

pub faulty_on : {A B : Type 0} {n m : ℕ} {e : Fault} {r : Result B Fault} (q : Result A Refusal) → IsErrAnd q (λ f. f ≡ Faulty e) → r ≡ Err e → fault_found r ≡ n
    → ((n ≡ 0 → ⊥) → n ≡ m) → refusal_told q ≡ m
faulty_on (Ok y) i w s told = absurd i
faulty_on {e = e} (Err f) i w s told =
    let k = ap fault_found (sym w) ∙ s in ap refusal_number i ∙ k ∙ told (λ z. some_fault e (k ∙ z))

-- what is answered, as an equation
pub told_as : {A : Type 0} (n : ℕ) (x : A) (r : Result A Refusal) → Answers n x r → answer_told r ≡ told_by n x
told_as zero x (Ok y) a = ap (λ v. record { number = 0; value = Some v }) a.1
told_as (suc n) x (Ok y) a = absurd (let e : ◌≡◌ {A = ℕ} (suc n) 0 = a.0 in omega (arith, e))
told_as zero x (Err f) a = absurd (some_refusal f a)
told_as (suc n) x (Err f) a = ap (λ m. record { number = m; value = None }) a
