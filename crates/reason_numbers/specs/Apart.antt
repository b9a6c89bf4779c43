-- No two refusals have one number, nor two faults, and so a number and a value leave one answer. Theorem: proofs/Apart.antt, `apart`.
-- Assumes nothing.
use Rattle.std.specs.Prelude.{◌≡◌, ℕ, Result}
use Rattle.reason.specs.declared.Fault.{Fault}
use Rattle.reason.specs.declared.Refusal.{Refusal}
use Rattle.reason.specs.Numbers.{fault_number, refusal_number}
use Rattle.reason.specs.Answers.{Answers, Finds}

pub record Apart : Type 1 where
  pub faults : (f g : Fault) → fault_number f ≡ fault_number g → f ≡ g
  pub refusals : (r s : Refusal) → refusal_number r ≡ refusal_number s → r ≡ s
  -- a call has one answer
  pub one_answer : {A : Type 0} (n : ℕ) (x : A) (r s : Result A Refusal) → Answers n x r → Answers n x s → r ≡ s
  -- a block comes to one thing
  pub one_reading : {A : Type 0} (n : ℕ) (x : A) (r s : Result A Fault) → Finds n x r → Finds n x s → r ≡ s
