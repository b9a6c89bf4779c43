-- Stages of refusals: their first told number is that of the whole list.
-- Assumes nothing.
use mathlib.Core.Path.{◌≡◌, refl, sym}
use mathlib.Core.Bool.{Bool, true, false}
use mathlib.Core.List.{List, [], ◌∷◌, ◌++◌}
use Prim.Native.Nat.{ℕ}
use native.Mathlib.Omega.{arith}
use lib.ListN.{take}
use lib.Dec.{T, ltb, ltb→lt, eqb}
use borrow.Author.Tests.{ne_eqb}
use Rattle.laws.specs.Choice.{pick, both, either}
use Rattle.laws.proofs.Computed.{both_left, both_right}
use Rattle.block_header.specs.declared.BlockHeader.{BlockHeader}
use Rattle.block_header.specs.Reasons.{grid_reasons, endpoint_reasons, grid_too_large, too_many_weights, weight_bits_outside, four_with_two_planes}
use Rattle.block_header.specs.inner.Stages.{grid_fault, endpoint_fault}
use Rattle.laws.specs.Reasons.{Reason, when, first_of}
use Rattle.symbolic_block.specs.declared.SymbolicBlock.{SymbolicBlock}
use Rattle.symbolic_block.specs.Fields.{header_of, is_marked}
use Rattle.symbolic_block.specs.Refusals.{modes_misfit, bad_endpoints, bad_weights, marked_without, mode_refusals, void_refusals}
use Rattle.laws.proofs.Reasons.{numbered}
use Rattle.symbolic_refusal.specs.inner.Stages.{or_else, bad_grid, bad_partitioning, bad_lists, bad_fields, bad_shown, grid_in_use, partitioning_in_use, numbers_in_use, bad_void_fields, field_reasons, number_reasons, void_stages}

-- the first of two stages that does not pass is told
pub or_first : (a b : ℕ) → (a ≡ 0 → ⊥) → or_else a b ≡ a
or_first a b h = rw (ne_eqb a 0 h)

pub or_next : (a b : ℕ) → 0 ≡ a → or_else a b ≡ b
or_next a b e = rw (← e)

-- the first told of two lists in a row
pub first_append : (rs qs : List Reason) → T (numbered rs) → first_of (rs ++ qs) ≡ or_else (first_of rs) (first_of qs)
first_append [] qs t = refl
first_append (r ∷ rs) qs t = go r.holds (first_append rs qs (both_right (ltb 0 r.told) (numbered rs) t)) where
  go : (b : Bool) → first_of (rs ++ qs) ≡ or_else (first_of rs) (first_of qs)
      → pick b r.told (first_of (rs ++ qs)) ≡ or_else (pick b r.told (first_of rs)) (first_of qs)
  go true e = rw (ne_eqb r.told 0 (λ q. absurd (omega (arith, ltb→lt 0 r.told (both_left (ltb 0 r.told) (numbered rs) t)))))
  go false e = e

-- two tests that tell the same number
pub joined : (a b : Bool) (n m : ℕ) → pick (either a b) n m ≡ pick a n (pick b n m)
joined true b n m = refl
joined false b n m = refl

-- 14 to 16, then 17
pub grid_stage_lem : (fp : ℕ) (h : BlockHeader) → or_else (grid_fault fp h.grid) (pick (both (eqb h.grid.planes 2) (eqb h.partitions 4)) 17 0)
    ≡ first_of (grid_reasons fp h [])
unfolding grid_fault four_with_two_planes
grid_stage_lem fp h =
    sym (first_append (when (grid_too_large fp h.grid) 14 ∷ when (too_many_weights h.grid) 15 ∷ when (weight_bits_outside h.grid) 16 ∷ [])
    (when (four_with_two_planes h) 17 ∷ []) tt)

-- five stages in a row
five : (A B C D E : List Reason) → T (numbered A) → T (numbered B) → T (numbered C) → T (numbered D)
    → or_else (first_of A) (or_else (first_of B) (or_else (first_of C) (or_else (first_of D) (first_of E)))) ≡ first_of (A ++ (B ++ (C ++ (D ++ E))))
five A B C D E a b c d = rw (← first_append D E d, ← first_append C (D ++ E) c, ← first_append B (C ++ (D ++ E)) b, ← first_append A (B ++ (C ++ (D ++ E))) a)

-- 1, 31 and 32 of a mode sheet, each field by itself
unfoldable each_field : ℕ → SymbolicBlock → List Reason
each_field fp s = take 16 (mode_refusals fp s)

field_stage : (fp : ℕ) (s : SymbolicBlock) → first_of (field_reasons fp s) ≡ first_of (each_field fp s)
unfolding field_reasons bad_fields bad_grid bad_partitioning bad_lists each_field mode_refusals
field_stage fp s = simp joined

number_stage : (s : SymbolicBlock) → first_of (number_reasons s) ≡ first_of (when (bad_endpoints s) 34 ∷ when (bad_weights s) 34 ∷ when (marked_without s) 35 ∷ [])
unfolding number_reasons
number_stage s = joined (bad_endpoints s) (bad_weights s) 34 (pick (marked_without s) 35 0)

pub mode_stages : (fp : ℕ) (s : SymbolicBlock) → or_else (first_of (field_reasons fp s)) (or_else (first_of (grid_reasons fp (header_of s) []))
    (or_else (pick (modes_misfit (header_of s)) 33 0) (or_else (endpoint_fault (is_marked s) (header_of s)) (first_of (number_reasons s)))))
    ≡ first_of (mode_refusals fp s)
unfolding mode_refusals endpoint_fault each_field
mode_stages fp s =
    rw (field_stage fp s, number_stage s)
    (five (each_field fp s) (grid_reasons fp (header_of s) []) (when (modes_misfit (header_of s)) 33 ∷ []) (endpoint_reasons (is_marked s) (header_of s) [])
    (when (bad_endpoints s) 34 ∷ when (bad_weights s) 34 ∷ when (marked_without s) 35 ∷ []) tt tt tt tt)

-- 1, 31 and 12 of a void extent, each field by itself
pub void_stages_lem : (fp : ℕ) (s : SymbolicBlock) → first_of (void_stages fp s) ≡ first_of (void_refusals fp s)
unfolding void_stages void_refusals bad_void_fields bad_shown grid_in_use partitioning_in_use numbers_in_use
void_stages_lem fp s = simp joined
