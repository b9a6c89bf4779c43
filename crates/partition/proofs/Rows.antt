-- The partition of a texel, from those of its row.
-- Assumes nothing.
use Rattle.std.proofs.Common.{◌≡◌, ℕ, ◌<◌, Bool, true, false, eqb, List, get_or, sym, refl, ◌∙◌, arith, lt-ltb, eqb-true}
use Rattle.laws.specs.Choice.{pick}
use Rattle.laws.specs.Table.{tab}
use Rattle.laws.proofs.Filling.{get_or_tab}
use Rattle.partition.specs.declared.Seeds.{Seeds}
use Rattle.partition.specs.Select.{partition_of}
use Rattle.partition.specs.inner.Seeds.{select_by}
use Rattle.partition.proofs.Bounds.{select_lt_4}

module _ (seeds : Seeds) (partitions y x : ℕ) {l : List ℕ} (e : l ≡ tab (λ k. pick (eqb partitions 1) 0 (select_by seeds k y)) 16) (h : x < 16) where
  pub which_told : get_or l x 0 ≡ pick (eqb partitions 1) 0 (select_by seeds x y)
  which_told = rw e (get_or_tab (λ k. pick (eqb partitions 1) 0 (select_by seeds k y)) 16 x 0 h)

  pub which_lt : get_or l x 0 < 4
  which_lt = rw which_told (go (eqb partitions 1)) where
    go : (t : Bool) → pick t 0 (select_by seeds x y) < 4
    go true = omega arith
    go false = select_lt_4 seeds x y

-- seeds that give a texel's partition give it in a row too: with one partition it is 0
pub row_is : (index count : ℕ) (small : Bool) (x y z : ℕ) (seeds : Seeds) → select_by seeds x y ≡ partition_of index count small x y z
    → pick (eqb count 1) 0 (select_by seeds x y) ≡ partition_of index count small x y z
unfolding partition_of
row_is index count small x y z seeds q = go (eqb count 1) refl ∙ q where
  go : (t : Bool) → eqb count 1 ≡ t → pick t 0 (select_by seeds x y) ≡ select_by seeds x y
  go true e = let one = eqb-true count 1 e in sym (q ∙ rw (lt-ltb count 2 (omega (arith, one))))
  go false e = refl
