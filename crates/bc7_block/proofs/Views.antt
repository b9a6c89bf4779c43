-- A sheet and the function of its fields: each gives the other.
-- Assumes nothing.
use mathlib.Core.Path.{◌≡◌, refl, sym, ap, ap₂, ◌∙◌}
use mathlib.Core.List.{List}
use Prim.Native.Nat.{ℕ, zero, suc, ◌+◌, ◌-◌, ◌^◌, ◌≤◌, ◌<◌}
use native.Mathlib.Omega.{arith}
use native.Mathlib.Decide.{dec_lt}
use lib.Dec.{eqb, ltb}
use lib.ListN.{length, get_or, get_or-eq_default}
use borrow.Author.Tests.{lt-ltb, le-ltb, ne_eqb}
use Rattle.laws.specs.Table.{tab}
use Rattle.laws.specs.inner.Filled.{Filled}
use Rattle.laws.proofs.Filling.{length_tab, get_or_tab, filled_all, tab_ext}
use Rattle.bc7_block.specs.declared.Bc7Block.{Bc7Block}
use Rattle.bc7_block.specs.Fields.{value_in, Sized}
use Rattle.bc7_block.specs.Reading.{bc7_block}

-- ---- the parts of a sheet by their place

module _ (s : Bc7Block) (k : ℕ) where
  pub at_endpoint : 4 ≤ k → k < 22 → value_in s k ≡ get_or s.endpoints (k - 4) 0
  unfolding value_in
  at_endpoint h l =
      rw (ne_eqb k 0 (λ q. omega arith), ne_eqb k 1 (λ q. omega arith), ne_eqb k 2 (λ q. omega arith), ne_eqb k 3 (λ q. omega arith), lt-ltb k 22 l)

  pub at_pbit : 22 ≤ k → k < 28 → value_in s k ≡ get_or s.pbits (k - 22) 0
  unfolding value_in
  at_pbit h l =
      rw (ne_eqb k 0 (λ q. omega arith), ne_eqb k 1 (λ q. omega arith), ne_eqb k 2 (λ q. omega arith), ne_eqb k 3 (λ q. omega arith), le-ltb k 22 h, lt-ltb k 28 l)

  pub at_primary : 28 ≤ k → k < 44 → value_in s k ≡ get_or s.primary (k - 28) 0
  unfolding value_in
  at_primary h l =
      rw (ne_eqb k 0 (λ q. omega arith), ne_eqb k 1 (λ q. omega arith), ne_eqb k 2 (λ q. omega arith), ne_eqb k 3 (λ q. omega arith), le-ltb k 22 (omega arith), le-ltb k 28 h, lt-ltb k 44 l)

  pub at_secondary : 44 ≤ k → value_in s k ≡ get_or s.secondary (k - 44) 0
  unfolding value_in
  at_secondary h =
      rw (ne_eqb k 0 (λ q. omega arith), ne_eqb k 1 (λ q. omega arith), ne_eqb k 2 (λ q. omega arith), ne_eqb k 3 (λ q. omega arith), le-ltb k 22 (omega arith), le-ltb k 28 (omega arith), le-ltb k 44 h)

-- past the last field
pub value_past : (s : Bc7Block) → Sized s → (k : ℕ) → 60 ≤ k → value_in s k ≡ 0
value_past s z k h = at_secondary s k (omega arith) ∙ get_or-eq_default s.secondary 0 {n = k - 44} (omega (arith, z.secondary))

-- ---- a sheet that is made from its fields

module _ (m : ℕ) (v : ℕ → ℕ) where
  pub made_sized : Sized (bc7_block m v)
  unfolding bc7_block
  made_sized = record { endpoints = length_tab _ 18; p_bits_lem = length_tab _ 6; primary = length_tab _ 16; secondary = length_tab _ 16 }

  made_low : (k : ℕ) → 1 ≤ k → k < 4 → value_in (bc7_block m v) k ≡ v k
  unfolding value_in bc7_block
  made_low zero h l = absurd (omega arith)
  made_low (suc zero) h l = refl
  made_low (suc (suc zero)) h l = refl
  made_low (suc (suc (suc zero))) h l = refl
  made_low (suc (suc (suc (suc k)))) h l = absurd (omega arith)

  made_endpoint : (k : ℕ) → 4 ≤ k → k < 22 → value_in (bc7_block m v) k ≡ v k
  unfolding bc7_block
  made_endpoint k h l = at_endpoint (bc7_block m v) k h l ∙ get_or_tab (λ j. v (4 + j)) 18 (k - 4) 0 (omega arith) ∙ ap v (omega arith)

  made_pbit : (k : ℕ) → 22 ≤ k → k < 28 → value_in (bc7_block m v) k ≡ v k
  unfolding bc7_block
  made_pbit k h l = at_pbit (bc7_block m v) k h l ∙ get_or_tab (λ j. v (22 + j)) 6 (k - 22) 0 (omega arith) ∙ ap v (omega arith)

  made_primary : (k : ℕ) → 28 ≤ k → k < 44 → value_in (bc7_block m v) k ≡ v k
  unfolding bc7_block
  made_primary k h l = at_primary (bc7_block m v) k h l ∙ get_or_tab (λ j. v (28 + j)) 16 (k - 28) 0 (omega arith) ∙ ap v (omega arith)

  made_secondary : (k : ℕ) → 44 ≤ k → k < 60 → value_in (bc7_block m v) k ≡ v k
  unfolding bc7_block
  made_secondary k h l = at_secondary (bc7_block m v) k h ∙ get_or_tab (λ j. v (44 + j)) 16 (k - 44) 0 (omega arith) ∙ ap v (omega arith)

  -- has these fields
  pub made_at : (k : ℕ) → 1 ≤ k → k < 60 → value_in (bc7_block m v) k ≡ v k
  made_at k h l =
      elim (dec_lt k 4) [
        | yes p ↦ made_low k h p
        | no p ↦ elim (dec_lt k 22) [
          | yes p2 ↦ made_endpoint k (omega arith) p2
          | no p2 ↦ elim (dec_lt k 28) [
            | yes p3 ↦ made_pbit k (omega arith) p3
            | no p3 ↦ elim (dec_lt k 44) [
              | yes p4 ↦ made_primary k (omega arith) p4
              | no p4 ↦ made_secondary k (omega arith) l
            ]
          ]
        ]
      ]

  pub made_mark : value_in (bc7_block m v) 0 ≡ 2 ^ m
  unfolding value_in bc7_block
  made_mark = refl

-- sheets are the same where their modes and fields are
pub made_same : (m n : ℕ) (v u : ℕ → ℕ) → m ≡ n → ((k : ℕ) → k < 60 → v k ≡ u k) → bc7_block m v ≡ bc7_block n u
unfolding bc7_block
made_same m n v u e h =
    rw (
      e,
      h 1 (omega arith),
      h 2 (omega arith),
      h 3 (omega arith),
      tab_ext (λ j. v (4 + j)) (λ j. u (4 + j)) 0 18 (λ j l. h (4 + j) (omega arith)),
      tab_ext (λ j. v (22 + j)) (λ j. u (22 + j)) 0 6 (λ j l. h (22 + j) (omega arith)),
      tab_ext (λ j. v (28 + j)) (λ j. u (28 + j)) 0 16 (λ j l. h (28 + j) (omega arith)),
      tab_ext (λ j. v (44 + j)) (λ j. u (44 + j)) 0 16 (λ j l. h (44 + j) (omega arith)),
    )

-- a sheet is made from its own fields
pub remade : (s : Bc7Block) → Sized s → bc7_block s.mode (value_in s) ≡ s
unfolding bc7_block Filled value_in
remade s z =
    let e1 : tab (λ j. value_in s (4 + j)) 18 ≡ s.endpoints =
    sym (filled_all (λ j. value_in s (4 + j)) 0 s.endpoints 18 z.endpoints
    (λ j l. sym (at_endpoint s (4 + j) (omega arith) (omega arith) ∙ ap (λ (i : ℕ). get_or s.endpoints i 0) (omega arith)))) in
    let e2 : tab (λ j. value_in s (22 + j)) 6 ≡ s.pbits =
    sym (filled_all (λ j. value_in s (22 + j)) 0 s.pbits 6 z.p_bits_lem
    (λ j l. sym (at_pbit s (22 + j) (omega arith) (omega arith) ∙ ap (λ (i : ℕ). get_or s.pbits i 0) (omega arith)))) in
    let e3 : tab (λ j. value_in s (28 + j)) 16 ≡ s.primary =
    sym (filled_all (λ j. value_in s (28 + j)) 0 s.primary 16 z.primary
    (λ j l. sym (at_primary s (28 + j) (omega arith) (omega arith) ∙ ap (λ (i : ℕ). get_or s.primary i 0) (omega arith)))) in
    let e4 : tab (λ j. value_in s (44 + j)) 16 ≡ s.secondary =
    sym (filled_all (λ j. value_in s (44 + j)) 0 s.secondary 16 z.secondary
    (λ j l. sym (at_secondary s (44 + j) (omega arith) ∙ ap (λ (i : ℕ). get_or s.secondary i 0) (omega arith)))) in
    rw (e1, e2, e3, e4, value_in)
