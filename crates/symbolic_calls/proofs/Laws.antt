-- What the writer answers for an acceptable symbolic block and for another.
-- Assumes nothing.
use mathlib.Core.Path.{◌≡◌, refl, sym, ap, ◌∙◌}
use mathlib.Core.Bool.{Bool, true, false}
use mathlib.Core.List.{List}
use Prim.Native.Nat.{ℕ}
use lib.Dec.{eqb}
use borrow.Author.Tests.{eq-eqb, ne_eqb, eqb-true, eqb-false}
use Rattle.bits.specs.Block.{bytes_of}
use Rattle.block_answer.specs.declared.Answer.TheVariants.{Done}
use Rattle.block_answer.specs.Told.{number_told}
use Rattle.symbolic_block.specs.declared.SymbolicBlock.{SymbolicBlock}
use Rattle.symbolic_block.specs.Refusals.{refusal_of, Acceptable}
use Rattle.symbolic_block.specs.Writing.{block_of}
use Rattle.symbolic_calls.specs.declared.Writing.{Writing}
use Rattle.symbolic_calls.specs.Writing.{wrote, wrote_nothing, writing_of}

abbrev holding : List ℕ → Writing
holding bytes = record { answer = Done; bytes = bytes }

module _ (fp : ℕ) (s : SymbolicBlock) where
  pub written : Acceptable fp s → wrote fp s ≡ writing_of fp s
  unfolding writing_of
  written e = rw (eq-eqb _ _ e)

  pub refused : (Acceptable fp s → ⊥) → wrote_nothing (refusal_of fp s) ≡ writing_of fp s
  unfolding writing_of
  refused h = rw (ne_eqb _ _ h)

  by_refusal : {A : Type 0} → (Acceptable fp s → A) → ((Acceptable fp s → ⊥) → A) → A
  by_refusal {A} f g = go (eqb (refusal_of fp s) 0) refl where
    go : (b : Bool) → eqb (refusal_of fp s) 0 ≡ b → A
    go true e = f (eqb-true (refusal_of fp s) 0 e)
    go false e = g (eqb-false (refusal_of fp s) 0 e)

  -- 01's number of the answer is the refusal's
  pub told_number : number_told (writing_of fp s).answer ≡ refusal_of fp s
  told_number =
      by_refusal (λ a. ap (λ (w : Writing). number_told w.answer) (sym (written a)) ∙ sym a)
      (λ h. ap (λ (w : Writing). number_told w.answer) (sym (refused h)))

  -- all that a call promises, from what it returns
  pub promised : (r : Writing) → r ≡ writing_of fp s → (r ≡ writing_of fp s) × (number_told r.answer ≡ refusal_of fp s)
  promised r e = (e, ap (λ (w : Writing). number_told w.answer) e ∙ told_number)

  -- from the numbers of the calls
  pub told : (n : ℕ) → n ≡ refusal_of fp s → (n ≡ 0 → ⊥) → wrote_nothing n ≡ writing_of fp s
  told n e h = ap wrote_nothing e ∙ refused (λ q. h (e ∙ q))

  pub stored : (B : ℕ) (bytes : List ℕ) → Acceptable fp s → B ≡ block_of fp s → bytes ≡ bytes_of 16 B
      → holding bytes ≡ writing_of fp s
  stored B bytes a e b = ap holding (b ∙ ap (bytes_of 16) e) ∙ written a
