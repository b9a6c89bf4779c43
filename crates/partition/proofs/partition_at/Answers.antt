-- `partition::partition_at` meets its contract. Assumes nothing.
use Rattle.std.proofs.Common.{◌≡◌, ℕ, ◌∙◌}
use Rattle.partition.specs.declared.Seeds.{Seeds}
use Rattle.partition.specs.Select.{first_largest}
use Rattle.partition.specs.inner.Seeds.{select_by, lane_by}
use Rattle.partition.proofs.partition_at.Goals as goal

parts : (s : Seeds) (x y : ℕ) {r a b c d : ℕ} → r ≡ first_largest a b c d → a ≡ lane_by s.a x y → b ≡ lane_by s.b x y → c ≡ lane_by s.c x y → d ≡ lane_by s.d x y → r ≡ select_by s x y
unfolding select_by
parts s x y e a b c d = rw (e, a, b, c, d)

pub returns : goal.returns
returns c = let e = parts _ _ _ c.first_largest.ensures c.lane_at.ensures c.lane_at-2.ensures c.lane_at-3.ensures c.lane_at-4.ensures in record { value = e; by_index = λ index count small h. e ∙ h.everywhere _ _ }
