-- A partition packed into one number, so that a block asks one table once.
-- Assumes nothing.
use Rattle.std.specs.Prelude.{ℕ, ◌+◌, ◌*◌, List}
use Rattle.laws.specs.Choice.{pick}
use Rattle.laws.specs.Table.{tab}
use Rattle.bits.specs.Field.{stream}
use Rattle.bc7_layout.specs.Partitions.{subset_of, is_anchor}

-- the subset of texel i in bits 2i and 2i + 1, and bit 32 + i set where texel i is an anchor
unfoldable pub plan_of : ℕ → ℕ → ℕ
unfolding stream subset_of is_anchor
plan_of n p = stream (λ i. 2 * i) (subset_of n p) 16 + stream (λ i. 32 + i) (λ i. pick (is_anchor n p i) 1 0) 16

-- of sixteen partitions of n subsets
unfoldable pub plan_run : ℕ → ℕ → List ℕ
unfolding tab plan_of
plan_run n from = tab (λ k. plan_of n (from + k)) 16

-- of one subset: texel 0 is its anchor
unfoldable pub whole_plan : ℕ
whole_plan = 0x0001_00000000
