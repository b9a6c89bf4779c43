-- The tally from block to block, as the code keeps it.
-- Assumes nothing.
use Rattle.std.specs.Prelude.{ℕ, ◌+◌, eqb}
use Rattle.laws.specs.Choice.{pick}
use Rattle.image_layout.specs.declared.Tally.{Tally}

-- one block more: its index and its fault
unfoldable pub noted : Tally → ℕ → ℕ → Tally
noted t b e =
    pick (eqb e 0) t
    (pick (eqb t.count 0) (record { count = 1; first = b; fault = e }) (record { count = t.count + 1; first = t.first; fault = t.fault }))
