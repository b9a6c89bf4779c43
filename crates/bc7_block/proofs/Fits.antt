-- What an acceptable sheet is: a mode that is there, and each field in its bits.
-- Assumes nothing.
use mathlib.Core.Path.{◌≡◌, refl, sym, ap, subst, ◌∙◌}
use mathlib.Core.Bool.{Bool, true, false, not}
use Prim.Native.Nat.{ℕ, zero, suc, ◌+◌, ◌^◌, ◌≤◌, ◌<◌}
use native.Mathlib.Omega.{arith}
use lib.Dec.{T, ltb, ltb→lt, lt→ltb}
use borrow.Author.Tests.{ltb-false, le-ltb}
use Rattle.laws.specs.Choice.{all, both}
use Rattle.laws.specs.Reasons.{first_of, reason_at}
use Rattle.laws.proofs.Computed.{each}
use Rattle.laws.proofs.Reasons.{None, numbered, none_first, first_none}
use Rattle.bc7_layout.specs.Layout.{field_width}
use Rattle.bc7_block.specs.declared.Bc7Block.{Bc7Block}
use Rattle.bc7_block.specs.Fields.{value_in}
use Rattle.bc7_block.specs.Refusals.{unknown_mode, fits_at, some_misfit, refusals, refusal_of, Acceptable}

pub record Fitting (s : Bc7Block) : Type 0 where
  pub mode : s.mode < 8
  pub fields : (k : ℕ) → k < 60 → value_in s k < 2 ^ field_width s.mode s.partition k

-- a test that holds at each number below n
pub all_of : (f : ℕ → Bool) (n : ℕ) → ((k : ℕ) → k < n → T (f k)) → all f n ≡ true
all_of f zero h = refl
all_of f (suc n) h = rw (is_true (f n) (h n (omega arith)), all_of f n (λ k l. h k (omega arith))) where
  is_true : (b : Bool) → T b → b ≡ true
  is_true true t = refl
  is_true false t = absurd t

shown_by : (b : Bool) → not b ≡ false → T b
shown_by true e = tt
shown_by false e = absurd (subst T e tt)

module _ (s : Bc7Block) where
  pub refusal_is : refusal_of s ≡ first_of (refusals s)
  unfolding refusal_of
  refusal_is = refl

  pub all_numbered : T (numbered (refusals s))
  unfolding refusals
  all_numbered = tt

  pub none : Acceptable s → None (refusals s)
  none a = first_none (refusals s) all_numbered (sym refusal_is ∙ a)

  pub accepted : None (refusals s) → Acceptable s
  accepted n = refusal_is ∙ none_first (refusals s) n

  pub fitting : Acceptable s → Fitting s
  unfolding refusals unknown_mode some_misfit fits_at
  fitting a =
      let n : None (refusals s) = none a in
      record {
        mode = omega (arith, ltb-false 7 s.mode n.0);
        fields = λ k h. ltb→lt _ _ (each (fits_at s) 60 (shown_by (all (fits_at s) 60) n.1.0) k h);
      }

  pub acceptable : Fitting s → Acceptable s
  unfolding refusals unknown_mode some_misfit fits_at
  acceptable f =
      accepted
      (le-ltb 7 s.mode (omega (arith, f.mode)), (ap not (all_of (fits_at s) 60 (λ k h. lt→ltb _ _ (f.fields k h))), tt))
