-- 004, Tables 13.3 and 13.4: the eight modes as one table of widths. A field that a mode does not have has no bits.
-- Assumes nothing.
use Rattle.std.specs.Prelude.{ℕ, ◌+◌, ◌*◌, List, [], ◌∷◌, get_or}
use Rattle.bc7_layout.specs.declared.Mode.{Mode}

-- NS PB RB ISB CB AB EPB SPB IB IB2
abbrev pub mode_with : ℕ → ℕ → ℕ → ℕ → ℕ → ℕ → ℕ → ℕ → ℕ → ℕ → Mode
mode_with ns pb rb isb cb ab epb spb ib ib2 = record {
  subsets = ns;
  partition = pb;
  rotation = rb;
  selection = isb;
  colour = cb;
  alpha = ab;
  ends = epb;
  shared = spb;
  index = ib;
  secondary = ib2;
}

abbrev pub modes : List Mode
modes =
    mode_with 3 4 0 0 4 0 1 0 3 0
    ∷ mode_with 2 6 0 0 6 0 0 1 3 0
    ∷ mode_with 3 6 0 0 5 0 0 0 2 0
    ∷ mode_with 2 6 0 0 7 0 1 0 2 0
    ∷ mode_with 1 0 2 1 5 6 0 0 2 3
    ∷ mode_with 1 0 2 0 7 8 0 0 2 2
    ∷ mode_with 1 0 0 0 7 7 1 0 4 0
    ∷ mode_with 2 6 0 0 5 5 1 0 2 0
    ∷ []

-- past the table nothing has bits
unfoldable pub mode_row : ℕ → Mode
mode_row m = get_or modes m (mode_with 0 0 0 0 0 0 0 0 0 0)

-- NS: "Number of subsets in each partition"
unfoldable pub subsets : ℕ → ℕ
unfolding mode_row
subsets m = (mode_row m).subsets

-- PB: "Partition bits"
unfoldable pub partition_bits : ℕ → ℕ
unfolding mode_row
partition_bits m = (mode_row m).partition

-- RB: "Rotation bits"
unfoldable pub rotation_bits : ℕ → ℕ
unfolding mode_row
rotation_bits m = (mode_row m).rotation

-- ISB: "Index selection bits"
unfoldable pub selection_bits : ℕ → ℕ
unfolding mode_row
selection_bits m = (mode_row m).selection

-- CB: "Color bits"
unfoldable pub colour_bits : ℕ → ℕ
unfolding mode_row
colour_bits m = (mode_row m).colour

-- AB: "Alpha bits"
unfoldable pub alpha_bits : ℕ → ℕ
unfolding mode_row
alpha_bits m = (mode_row m).alpha

-- EPB: "Endpoint P-bits"
unfoldable pub endpoint_pbits : ℕ → ℕ
unfolding mode_row
endpoint_pbits m = (mode_row m).ends

-- SPB: "Shared P-bits"
unfoldable pub shared_pbits : ℕ → ℕ
unfolding mode_row
shared_pbits m = (mode_row m).shared

-- IB: "Index bits per element"
unfoldable pub index_bits : ℕ → ℕ
unfolding mode_row
index_bits m = (mode_row m).index

-- IB2: "Secondary index bits per element"
unfoldable pub secondary_bits : ℕ → ℕ
unfolding mode_row
secondary_bits m = (mode_row m).secondary

-- how many P bits there are: one for each end of each subset, or one for each subset, shared by its ends
unfoldable pub p_bits : ℕ → ℕ
unfolding subsets endpoint_pbits shared_pbits
p_bits m = (2 * endpoint_pbits m + shared_pbits m) * subsets m
