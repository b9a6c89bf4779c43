use mathlib.Core.Path.{◌≡◌, ap, ◌∙◌}
use mathlib.Core.List.{List}
use Prim.Native.Nat.{ℕ, ◌+◌}
use native.Mathlib.Omega.{arith}
use lib.ListN.{get_or}
use Rattle.laws.specs.Table.{tab}
use Rattle.laws.proofs.Filling.{get_or_tab}
use Rattle.picture_regions.specs.inner.Regions.{Pasted}
use Rattle.bc7_image.proofs.copy_run.Goals as goal

-- a row that was read and put is a run of sixteen bytes
row_run : (src : List ℕ) (from n : ℕ) (old : List ℕ) (at : ℕ) (new row : List ℕ) → n ≡ 16 → row ≡ tab (λ k. get_or src (from + k) 0) 16
    → Pasted (λ n. n) row 0 16 old at new → Pasted (λ n. n) src from n old at new
row_run src from n old at new row e r p = record {
  inside = λ k h.
      let z : 0 + k ≡ k = omega arith in
      p.inside k (omega arith) ∙ ap (λ (j : ℕ). get_or row j 0) z ∙ ap (λ (l : List ℕ). get_or l k 0) r ∙ get_or_tab (λ j. get_or src (from + j) 0) 16 k 0 (omega arith);
  outside = λ k f. p.outside k (λ a b. f a (omega arith));
}

pub returns-then-n-eq16 : goal.returns-then-n-eq16
returns-then-n-eq16 c =
    let q = c in
    row_run _ _ _ _ _ _ _ q.if-n-eq16.true q.row_from.ensures q.put_row.ensures

pub returns-else-n-eq16 : goal.returns-else-n-eq16
returns-else-n-eq16 c = c.copy_some.ensures
