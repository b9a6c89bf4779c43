-- What a call that may be refused answers, and what a block comes to that may have a fault: the number and the value as the rules give them.
-- Assumes nothing.
use Rattle.std.specs.Prelude.{◌≡◌, ℕ, zero, suc, Option, None, Some, Result, Ok, Err}
use Rattle.reason.specs.declared.Fault.{Fault}
use Rattle.reason.specs.declared.Refusal.{Refusal}
use Rattle.reason.specs.Numbers.{fault_number, refusal_number}

-- the call tells the refusal n, or where n is 0 the value x
abbrev pub Answers : {A : Type 0} → ℕ → A → Result A Refusal → Type 0
Answers n x (Ok y) = (n ≡ 0) × (y ≡ x)
Answers n x (Err refusal) = refusal_number refusal ≡ n

-- the block has the fault n, or where n is 0 it comes to x
abbrev pub Finds : {A : Type 0} → ℕ → A → Result A Fault → Type 0
Finds n x (Ok y) = (n ≡ 0) × (y ≡ x)
Finds n x (Err fault) = fault_number fault ≡ n

-- what is told of an answer: the number of its refusal, 0 for none, and the value, where there is one
pub record AnswerTold (A : Type 0) : Type 0 where
  pub number : ℕ
  pub value : Option A

abbrev pub answer_told : {A : Type 0} → Result A Refusal → AnswerTold A
answer_told (Ok y) = record { number = 0; value = Some y }
answer_told (Err refusal) = record { number = refusal_number refusal; value = None }

-- the refusal n, or where n is 0 the value x
abbrev pub told_by : {A : Type 0} → ℕ → A → AnswerTold A
told_by zero x = record { number = 0; value = Some x }
told_by (suc n) x = record { number = suc n; value = None }
