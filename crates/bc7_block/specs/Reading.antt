-- 02, l: what a block, given as one number of 128 bits, reads as.
-- Assumes nothing.
use Rattle.std.specs.Prelude.{◌≡◌, ℕ, ◌+◌, ◌<◌}
use Rattle.laws.specs.Choice.{pick}
use Rattle.laws.specs.Table.{tab}
use Rattle.bc7_layout.specs.Layout.{mode_at, is_reserved, field_at}
use Rattle.bc7_block.specs.declared.Bc7Block.{Bc7Block}
use Rattle.bc7_block.specs.Fields.{value_in}

-- 71: "A first byte of 0"; 0 for none
unfoldable pub fault_of : ℕ → ℕ
unfolding is_reserved
fault_of B = pick (is_reserved B) 71 0

-- a sheet from its fields past the mode, in the block's order
unfoldable pub bc7_block : ℕ → (ℕ → ℕ) → Bc7Block
bc7_block m v = record {
  mode = m;
  partition = v 1;
  rotation = v 2;
  selection = v 3;
  endpoints = tab (λ j. v (4 + j)) 18;
  pbits = tab (λ j. v (22 + j)) 6;
  primary = tab (λ i. v (28 + i)) 16;
  secondary = tab (λ i. v (44 + i)) 16;
}

-- what the reader tells of a block without fault
unfoldable pub read_block : ℕ → Bc7Block
unfolding bc7_block tab mode_at field_at
read_block B = bc7_block (mode_at B) (field_at B)

-- "a sheet of zeros"
unfoldable pub zero_block : Bc7Block
unfolding bc7_block tab
zero_block = bc7_block 0 (λ k. 0)

-- 01: "It then reads as a sheet when each used field is what .. make of its bits and each unused one is 0", here what 004 makes of them: a field
-- without bits is 0
pub record ReadsAs (B : ℕ) (s : Bc7Block) : Type 0 where
  pub mode : s.mode ≡ mode_at B
  pub fields : (k : ℕ) → k < 60 → value_in s k ≡ field_at B k
