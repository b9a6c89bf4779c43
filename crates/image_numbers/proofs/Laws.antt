-- What each image call comes to in each event.
-- Assumes nothing.
use mathlib.Core.Path.{◌≡◌, refl, ap, ◌∙◌}
use mathlib.Core.List.{List}
use Prim.Native.Nat.{ℕ}
use lib.ListN.{length}
use lib.Dec.{eqb}
use borrow.Author.Tests.{eq-eqb, ne_eqb}
use native.Mathlib.Omega.{arith}
use Rattle.std.specs.Prelude.{Result, Ok, Err}
use Rattle.laws.specs.Choice.{pick}
use Rattle.reason.specs.declared.Refusal.{Refusal}
use Rattle.reason.specs.Numbers.{refusal_number, refusal_told}
use Rattle.reason.proofs.Told.{refusal_some}
use Rattle.image_layout.specs.declared.Tally.{Tally}
use Rattle.image_layout.specs.Call.{Told, told_of}
use Rattle.image_numbers.specs.Calls.{tally_told, tally_numbers, refusal_or5, out_with, tally_with}

-- a refusal's number, by the first stage of a call
pub refused_number : (refusal : Refusal) (n : ℕ) → refusal_number refusal ≡ n → refusal_number refusal ≡ refusal_or5 n
refused_number refusal n e = rw (← e, ne_eqb (refusal_number refusal) 0 (λ z. let p = refusal_some refusal in omega arith))

-- the refusal that an answer tells
pub told_refusal : (r : Result Tally Refusal) → refusal_told r ≡ (told_of r).refusal
told_refusal (Ok t) = refl
told_refusal (Err refusal) = refl

-- ---- a call with a tally, which tells t and makes `new` of `old`; n is its number where the tally is not of three numbers

-- its number, its result buffer and its tally
abbrev pub Answers : Told → ℕ → List ℕ → List ℕ → List ℕ → ℕ → List ℕ → List ℕ → Type 0
Answers t n new old tally r out its-tally = (r ≡ pick (eqb (length tally) 3) t.refusal n) × ((out ≡ out_with (length tally) new old) × (its-tally ≡ tally_with t tally))

module _ (t : Told) (n : ℕ) (new old tally : List ℕ) where
  -- the tally is not of three numbers
  pub untold : {r : ℕ} → (length tally ≡ 3 → ⊥) → r ≡ n → Answers t n new old tally r old tally
  untold h e = (e ∙ rw (ne_eqb (length tally) 3 h), (rw (ne_eqb (length tally) 3 h), rw (ne_eqb (length tally) 3 h)))

  -- it is
  pub telling : {r : ℕ} {told : Told} {y : Tally} {out its-tally : List ℕ} → length tally ≡ 3 → told ≡ t → r ≡ told.refusal → out ≡ new
      → y ≡ tally_told told → its-tally ≡ tally_numbers y → Answers t n new old tally r out its-tally
  telling h et er eo ey es = (
    er ∙ ap (λ (x : Told). x.refusal) et ∙ rw (eq-eqb (length tally) 3 h),
    (eo ∙ rw (eq-eqb (length tally) 3 h), es ∙ ap tally_numbers (ey ∙ ap tally_told et) ∙ rw (eq-eqb (length tally) 3 h)),
  )
