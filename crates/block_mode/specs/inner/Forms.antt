-- The eleven bits of a 2D block mode by a number of its form, of which packed lists say the rest.
-- Assumes nothing.
use Rattle.std.specs.Prelude.{ℕ, ◌+◌, ◌*◌, ◌/◌, ◌%◌, ◌^◌, ltb, eqb}
use Rattle.std.specs.Int.Bits.{bit_and}
use Rattle.laws.specs.Choice.{pick}
use Rattle.block_mode.specs.declared.WeightGrid.{WeightGrid}
use Rattle.block_mode.specs.declared.BlockMode.{BlockMode}
use Rattle.block_mode.specs.declared.BlockMode.TheVariants.{VoidExtent, Reserved, Grid}

-- number k of a list, four bits each
unfoldable pub nibble_at : ℕ → ℕ → ℕ
nibble_at list k = list / 2 ^ (4 * k) % 16

-- 0 to 7 where bits 1..0 are not 00, 15 where bits 3..0 are 0, 11 to 14 by A where bits 8..7 are 11, else 8 to 10
unfoldable pub form_of : ℕ → ℕ
form_of m = pick (eqb (m % 4) 0) (pick (eqb (m / 4 % 4) 0) 15 (pick (eqb (m / 128 % 4) 3) (11 + m / 32 % 4) (8 + m / 128 % 4))) (2 * (m / 4 % 4) + m / 256 % 2)

-- the side that A does not give
unfoldable pub other_side : ℕ → ℕ → ℕ → ℕ
unfolding nibble_at
other_side m form marks = nibble_at 0x000AA6CC26888844 form + bit_and (pick (eqb (m % 4) 0) (m / 512 % 4) (m / 128 % 4)) (marks % 4)

-- R - 2 + 6 * H, as a number of four bits
unfoldable pub range_in : ℕ → ℕ → ℕ
range_in m h = (2 * pick (eqb (m % 4) 0) (m / 4 % 4) (m % 4) + m / 16 % 2 + 6 * h + 14) % 16

-- the grid of a form that is not reserved
unfoldable pub grid_of : ℕ → ℕ → ℕ → WeightGrid
unfolding nibble_at other_side range_in
grid_of m form marks =
    let side = nibble_at 0x0005662222222222 form + m / 32 % 4 in
    let other = other_side m form marks in
    let top = pick (eqb form 10) 0 (m / 512 % 4) in
    record {
      width = pick (eqb (marks / 4 % 2) 1) other side;
      height = pick (eqb (marks / 4 % 2) 1) side other;
      depth = 1;
      range = range_in m (top % 2);
      planes = 1 + top / 2;
    }

-- which bits of the other side count; 4 more where the width is that side, 8 more where the form is reserved
unfoldable pub marks_of : ℕ → ℕ
unfolding nibble_at form_of
marks_of m = nibble_at 0x8884030451337777 (form_of m)

-- the mode. Theorem: proofs/ByForm.antt, `mode_by_lem`: it is `block_mode`
unfoldable pub mode_by : ℕ → BlockMode
unfolding form_of marks_of grid_of
mode_by m = pick (eqb (m % 512) 508) VoidExtent (pick (ltb (marks_of m) 8) (Grid (grid_of m (form_of m) (marks_of m))) Reserved)
