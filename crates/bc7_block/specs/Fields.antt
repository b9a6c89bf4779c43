-- The sixty fields of a sheet in the block's order, as one function of their place (bc7_layout: Layout).
-- Assumes nothing.
use Rattle.std.specs.Prelude.{◌≡◌, ℕ, ◌-◌, ◌^◌, eqb, ltb, length, get_or}
use Rattle.laws.specs.Choice.{pick}
use Rattle.bc7_block.specs.declared.Bc7Block.{Bc7Block}

-- field k; field 0 is the mode's mark, "zero or more zeros followed by a one"; past the last field 0
unfoldable pub value_in : Bc7Block → ℕ → ℕ
value_in s k =
    pick (eqb k 0) (2 ^ s.mode)
    (pick (eqb k 1) s.partition
    (pick (eqb k 2) s.rotation
    (pick (eqb k 3) s.selection
    (pick (ltb k 22) (get_or s.endpoints (k - 4) 0)
    (pick (ltb k 28) (get_or s.pbits (k - 22) 0)
    (pick (ltb k 44) (get_or s.primary (k - 28) 0)
    (get_or s.secondary (k - 44) 0)))))))

-- the lists have the lengths of the struct's arrays
pub record Sized (s : Bc7Block) : Type 0 where
  pub endpoints : length s.endpoints ≡ 18
  pub p_bits_lem : length s.pbits ≡ 6
  pub primary : length s.primary ≡ 16
  pub secondary : length s.secondary ≡ 16
