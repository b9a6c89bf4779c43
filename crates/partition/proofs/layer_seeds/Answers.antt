-- `partition::layer_seeds` meets its contract. Assumes nothing.
use Rattle.std.proofs.Common.{◌≡◌, ℕ, ◌+◌, ◌-◌, ◌*◌, ◌<◌, Bool, sym, ap, ◌∙◌, arith, lt-ltb}
use Rattle.partition.specs.declared.Seeds.{Seeds}
use Rattle.partition.specs.Hash.{hash_of}
use Rattle.partition.specs.Select.{sh3, doubled, partition_of}
use Rattle.partition.specs.inner.Seeds.{seeds_of, select_by}
use Rattle.partition.specs.inner.Layers.{lane_at_layer, layer_from, layer_of}
use Rattle.partition.proofs.Layers.{layer_agrees}
use Rattle.partition.proofs.layer_seeds.Goals as goal

-- with one partition there is nothing to choose at any layer
one : (index count : ℕ) (small : Bool) (z : ℕ) → count < 2 → layer_of index count small z ≡ seeds_of index count small
unfolding layer_of layer_from lane_at_layer
one index count small z h = rw (lt-ltb count 2 h, lt-ltb count 3 (omega arith), lt-ltb count 4 (omega arith))

parts : (index count : ℕ) (small : Bool) (z : ℕ) {r s : Seeds} {h s₃ zz : ℕ} → r ≡ layer_from s h s₃ count zz → s ≡ seeds_of index count small
    → h ≡ hash_of (index + (count - 1) * 1024) → s₃ ≡ sh3 (index + (count - 1) * 1024) count → zz ≡ doubled small z → r ≡ layer_of index count small z
unfolding layer_of
parts index count small z e s h p q = rw (e, s, h, p, q)

-- by them the printed pattern at that z
both : (index count : ℕ) (small : Bool) (z : ℕ) {r : Seeds} → r ≡ layer_of index count small z
    → (r ≡ layer_of index count small z) × ((x y : ℕ) → select_by r x y ≡ partition_of index count small x y z)
both index count small z e = (e, λ x y. ap (λ (s : Seeds). select_by s x y) e ∙ layer_agrees index count small x y z)

pub returns-then-count-lt2 : goal.returns-then-count-lt2
returns-then-count-lt2 c = let it = both _ _ _ _ (c.partition_seeds-s.ensures.value ∙ sym (one _ _ _ _ c.if-count-lt2.true)) in record { value = it.0; by_index = it.1 }

pub returns : goal.returns
returns c = let it = both _ _ _ _ (parts _ _ _ _ c.layer_from.ensures c.partition_seeds-s.ensures.value c.hash52.ensures c.third_shift.ensures.0 c.doubled_seed-zz.ensures) in record { value = it.0; by_index = it.1 }
