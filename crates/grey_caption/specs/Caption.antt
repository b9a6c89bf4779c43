-- 02, n: "For a 4x4 footprint, one partition, one plane, mode 0, grid 4x4, weights 0..3 (range field 2) and two given bytes, have the writer
-- make the block whose kind 1 texels have the least summed squared difference from sixteen wanted grey bytes".
-- Assumes nothing.
use Rattle.std.specs.Prelude.{ℕ, zero, suc, ◌+◌, ◌-◌, ◌*◌, List, [], ◌∷◌, ltb, get_or}
use Rattle.laws.specs.Choice.{pick}
use Rattle.quantization.specs.Unquantise.{unquant_weight}
use Rattle.interpolation.specs.declared.Kind.TheVariants.{Srgb8}
use Rattle.interpolation.specs.Expansion.{expand_of, shown_of}
use Rattle.interpolation.specs.Texel.{mix_of}
use Rattle.block_header.specs.declared.BlockHeader.{BlockHeader}
use Rattle.symbolic_block.specs.declared.SymbolicBlock.{SymbolicBlock}
use Rattle.symbolic_block.specs.Reading.{mode_block}
use Rattle.symbolic_calls.specs.Writing.{writing_of}

-- "a 4x4 footprint": number 0 of 01's list
abbrev pub footprint : ℕ
footprint = 0

-- "weights 0..3"
abbrev pub most : ℕ
most = 3

-- "one partition, one plane, mode 0, grid 4x4, .. range field 2"
unfoldable pub settings : BlockHeader
settings = record {
  grid = record { width = 4; height = 4; depth = 1; range = 2; planes = 1 };
  component = 0;
  partitions = 1;
  index = 0;
  selector = 0;
  modes = 0 ∷ 0 ∷ 0 ∷ 0 ∷ [];
}

-- the sheet with these settings, the two given bytes as its endpoint numbers, and w 0, .., w 15 as its weights
unfoldable pub sheet_with : ℕ → ℕ → (ℕ → ℕ) → SymbolicBlock
unfolding settings mode_block
sheet_with e0 e1 w = mode_block settings (λ i. get_or (e0 ∷ e1 ∷ []) i 0) (λ i. pick (ltb i 16) (w i) 0)

-- what the writer makes of it
unfoldable pub block_with : ℕ → ℕ → (ℕ → ℕ) → List ℕ
unfolding sheet_with writing_of
block_with e0 e1 w = (writing_of footprint (sheet_with e0 e1 w)).bytes

-- ---- the choice of a weight

-- the grey that kind 1 shows with a weight between the two ends (`GreysShown` says it of the written block)
unfoldable pub grey_of : ℕ → ℕ → ℕ → ℕ
grey_of e0 e1 w = shown_of Srgb8 (mix_of (expand_of Srgb8 e0) (expand_of Srgb8 e1) (unquant_weight 2 w))

-- "squared difference"
abbrev pub distance : ℕ → ℕ → ℕ
distance a b = (a - b) + (b - a)

unfoldable pub squared : ℕ → ℕ → ℕ
squared a b = distance a b * distance a b

-- the least of 0, .., n at which f is least: "Among equals take the smaller"
unfoldable pub least_at : (ℕ → ℕ) → ℕ → ℕ
least_at f zero = 0
least_at f (suc n) = pick (ltb (f (suc n)) (f (least_at f n))) (suc n) (least_at f n)

-- the weight for a wanted grey
unfoldable pub best_weight : ℕ → ℕ → ℕ → ℕ
unfolding least_at squared grey_of
best_weight e0 e1 wanted = least_at (λ w. squared (grey_of e0 e1 w) wanted) most

-- ---- the block

-- the weight at place i of the sixteen wanted greys
unfoldable pub weight_for : ℕ → ℕ → List ℕ → ℕ → ℕ
unfolding best_weight
weight_for e0 e1 wanted i = best_weight e0 e1 (get_or wanted i 0)

-- the sixteen bytes of the block
unfoldable pub caption_of : ℕ → ℕ → List ℕ → List ℕ
unfolding block_with weight_for
caption_of e0 e1 wanted = block_with e0 e1 (weight_for e0 e1 wanted)
