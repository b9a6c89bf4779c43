-- Whole lists of fields: of a block, and of a sheet.
-- Assumes nothing.
use mathlib.Core.Path.{◌≡◌, refl, sym, ap, ap₂, subst, ◌∙◌}
use mathlib.Core.Bool.{Bool, true, false}
use mathlib.Core.List.{List}
use Prim.Native.Nat.{ℕ, zero, suc, ◌+◌, ◌^◌, ◌≤◌, ◌<◌}
use native.Mathlib.Omega.{arith}
use native.Mathlib.Decide.{dec_lt}
use lib.Dec.{ltb}
use lib.ListN.{length, get_or, get_or-eq_default}
use lib.Pow.{pow_pos}
use borrow.Author.Tests.{lt-ltb, le-ltb, ne_eqb}
use Rattle.laws.specs.Choice.{pick, both, all}
use Rattle.laws.specs.Table.{tab}
use Rattle.laws.proofs.Filling.{length_tab, get_or_tab, tab_ext}
use Rattle.bits.specs.Field.{field, stream}
use Rattle.bits.proofs.Fields.{stream_ext}
use Rattle.bc7_layout.specs.Modes.{partition_bits}
use Rattle.bc7_layout.specs.Layout.{field_width, place_of, mode_at, partition_field_at, field_at}
use Rattle.bc7_block.specs.declared.Bc7Block.{Bc7Block}
use Rattle.bc7_block.specs.Fields.{value_in}
use Rattle.bc7_block.specs.Refusals.{unknown_mode, fits_at, some_misfit, refusals, refusal_of}
use Rattle.bc7_block.specs.Writing.{block_of}
use Rattle.bc7_block.proofs.Fits.{fitting}
use Rattle.bc7_codec.specs.Numbers.{sheet_number}
use Rattle.bc7_codec.specs.inner.Pieces.{FieldsFit}

-- the fields of a block in its own mode and partition
pub fields_read : (B m p : ℕ) → m ≡ mode_at B → p ≡ field B (m + 1) (partition_bits m)
    → tab (λ k. field B (place_of m p k) (field_width m p k)) 60 ≡ tab (field_at B) 60
unfolding field_at partition_field_at
fields_read B m p em ep =
    let e : p ≡ partition_field_at B = ep ∙ ap (λ (n : ℕ). field B (n + 1) (partition_bits n)) em in
    tab_ext (λ k. field B (place_of m p k) (field_width m p k)) (field_at B) 0 60
    (λ k l. ap₂ (λ (n q : ℕ). field B (place_of n q k) (field_width n q k)) em e)

all_same : (f g : ℕ → Bool) (n : ℕ) → ((k : ℕ) → k < n → f k ≡ g k) → all f n ≡ all g n
all_same f g zero h = refl
all_same f g (suc n) h = ap₂ both (h n (omega arith)) (all_same f g n (λ k l. h k (omega arith)))

module _ (s : Bc7Block) (f : List ℕ) (e : f ≡ tab (value_in s) 60) where
  field_here : (k : ℕ) → k < 60 → get_or f k 0 ≡ value_in s k
  field_here k l = ap (λ (x : List ℕ). get_or x k 0) e ∙ get_or_tab (value_in s) 60 k 0 l

  field_past : (k : ℕ) → 60 ≤ k → get_or f k 0 ≡ 0
  field_past k l = get_or-eq_default f 0 {n = k} (subst (λ (n : ℕ). n ≤ k) (sym (ap length e ∙ length_tab (value_in s) 60)) l)

  pub all_fields : all (λ k. ltb (get_or f k 0) (2 ^ field_width s.mode s.partition k)) 60 ≡ all (fits_at s) 60
  unfolding fits_at
  all_fields = all_same (λ k. ltb (get_or f k 0) (2 ^ field_width s.mode s.partition k)) (fits_at s) 60
      (λ k l. ap (λ (x : ℕ). ltb x (2 ^ field_width s.mode s.partition k)) (field_here k l))

  pub fields_fit : refusal_of s ≡ 0 → FieldsFit f s.mode s.partition
  unfolding value_in field_width
  fields_fit a = record {
    mode = (fitting s a).mode;
    partition = (fitting s a).fields 1 (omega arith);
    fields = λ k. elim (dec_lt k 60) [
      | yes l ↦ rw (field_here k l) ((fitting s a).fields k l)
      | no l ↦ rw (field_past k (omega arith)) (pow_pos (field_width s.mode s.partition k))
    ];
  }

  pub stream_is : stream (place_of s.mode s.partition) (λ k. get_or f k 0) 60 ≡ block_of s
  unfolding block_of
  stream_is = stream_ext (place_of s.mode s.partition) (λ k. get_or f k 0) (value_in s) 60 field_here

-- ---- the refusal

module _ (s : Bc7Block) where
  pub refused_mode : 7 < s.mode → 72 ≡ refusal_of s
  unfolding refusal_of refusals unknown_mode
  refused_mode h = rw (lt-ltb 7 s.mode h)

  pub refused_none : s.mode ≤ 7 → all (fits_at s) 60 ≡ true → 0 ≡ refusal_of s
  unfolding refusal_of refusals unknown_mode some_misfit
  refused_none h e = rw (le-ltb 7 s.mode h, e)

  pub refused_field : s.mode ≤ 7 → all (fits_at s) 60 ≡ false → 73 ≡ refusal_of s
  unfolding refusal_of refusals unknown_mode some_misfit
  refused_field h e = rw (le-ltb 7 s.mode h, e)

-- past the mode, a sheet's numbers are its fields
pub numbered : (s : Bc7Block) (k : ℕ) → (k ≡ 0 → ⊥) → value_in s k ≡ sheet_number s k
unfolding sheet_number
numbered s k h = ap (λ (b : Bool). pick b s.mode (value_in s k)) (sym (ne_eqb k 0 h))
