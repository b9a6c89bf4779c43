-- A block's fault is the first of its reading's list.
-- Assumes nothing.
use mathlib.Core.Path.{◌≡◌, refl, sym, ap, ◌∙◌}
use mathlib.Core.Bool.{Bool, true, false, not}
use mathlib.Core.List.{List, [], ◌∷◌, ◌++◌}
use Prim.Native.Nat.{ℕ}
use native.Mathlib.Omega.{arith}
use lib.Dec.{T, ltb, eqb, ltb→lt}
use borrow.Author.Tests.{ne_eqb}
use Rattle.laws.specs.Choice.{pick, both}
use Rattle.laws.specs.Reasons.{Reason, when, first_of}
use Rattle.laws.proofs.Computed.{both_left, both_right}
use Rattle.laws.proofs.Reasons.{numbered, none_first, first_none, none_at, at_none, first_told}
use Rattle.block_fault.specs.Told.{fault_reasons}
use Rattle.block_fault.proofs.Told.{is_first, all_numbered}
use Rattle.block_reading.specs.declared.Reading.{Reading}
use Rattle.block_reading.specs.declared.Reading.TheVariants.{Ordinary, Strict}
use Rattle.block_reading.specs.Faults.{is_canonical, strict_fault, fault_in}
use Rattle.block_reading.specs.Told.{reasons_in, FaultTold}

-- one reason more, behind the others
last_first : (rs : List Reason) → T (numbered rs) → (b : Bool) → first_of (rs ++ (when (not b) 21 ∷ [])) ≡ pick (eqb (first_of rs) 0) (pick b 0 21) (first_of rs)
last_first [] t true = refl
last_first [] t false = refl
last_first (r ∷ rs) t b =
    go r.holds r.told (both_left (ltb 0 r.told) (numbered rs) t) (last_first rs (both_right (ltb 0 r.told) (numbered rs) t) b)
  where
    go : (h : Bool) (n : ℕ) → T (ltb 0 n) → first_of (rs ++ (when (not b) 21 ∷ [])) ≡ pick (eqb (first_of rs) 0) (pick b 0 21) (first_of rs)
        → pick h n (first_of (rs ++ (when (not b) 21 ∷ []))) ≡ pick (eqb (pick h n (first_of rs)) 0) (pick b 0 21) (pick h n (first_of rs))
    go true n l q = rw (ne_eqb n 0 (λ e. omega (arith, ltb→lt 0 n l, e)))
    go false n l q = q

numbered_last : (rs : List Reason) → T (numbered rs) → (b : Bool) → T (numbered (rs ++ (when b 21 ∷ [])))
numbered_last [] t b = tt
numbered_last (r ∷ rs) t b = go (ltb 0 r.told) (both_left (ltb 0 r.told) (numbered rs) t) (numbered_last rs (both_right (ltb 0 r.told) (numbered rs) t) b) where
  go : (c : Bool) → T c → T (numbered (rs ++ (when b 21 ∷ []))) → T (both c (numbered (rs ++ (when b 21 ∷ []))))
  go true p q = q
  go false p q = absurd p

-- ---- a block's list

numbered_in : (reading : Reading) (hdr : Bool) (fp B : ℕ) → T (numbered (reasons_in reading hdr fp B))
numbered_in Ordinary hdr fp B = all_numbered hdr fp B
numbered_in Strict hdr fp B = numbered_last (fault_reasons hdr fp B) (all_numbered hdr fp B) (not (is_canonical fp B))

first_in : (reading : Reading) (hdr : Bool) (fp B : ℕ) → first_of (reasons_in reading hdr fp B) ≡ fault_in reading hdr fp B
unfolding strict_fault
first_in Ordinary hdr fp B = sym (is_first hdr fp B)
first_in Strict hdr fp B =
    last_first (fault_reasons hdr fp B) (all_numbered hdr fp B) (is_canonical fp B)
    ∙ ap (λ (n : ℕ). pick (eqb n 0) (pick (is_canonical fp B) 0 21) n) (sym (is_first hdr fp B))

pub fault_told : FaultTold
fault_told = record {
  none_exactly = λ reading hdr fp B.
      let rs = reasons_in reading hdr fp B in (
        λ e. none_at rs (first_none rs (numbered_in reading hdr fp B) (first_in reading hdr fp B ∙ e)),
        λ h. sym (first_in reading hdr fp B) ∙ none_first rs (at_none rs (λ i l. h i)),
      );
  first_is_told = λ reading hdr fp B i e h. sym (first_in reading hdr fp B) ∙ first_told (reasons_in reading hdr fp B) i e h;
}
