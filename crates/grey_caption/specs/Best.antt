-- 02, n: "no other choice of weights at these settings does better. Among equals take the smaller weight at each place. .. prove also that
-- changing one wanted grey changes at most that texel's weight, the rest of the block's bits staying equal."
-- Said of the writer's blocks and of what the one-block call and the reader of sheets tell of them.
-- Theorem: proofs/Whole.antt, `grey_caption_lem`.
-- Assumes nothing.
use Rattle.std.specs.Prelude.{◌≡◌, List, [], ◌∷◌, ℕ, zero, suc, ◌+◌, ◌-◌, ◌*◌, ◌/◌, ◌%◌, ◌≤◌, ◌<◌, length, get_or}
use Rattle.bits.specs.Field.{field}
use Rattle.bits.specs.Block.{number_of}
use Rattle.interpolation.specs.declared.Kind.TheVariants.{Srgb8}
use Rattle.block_answer.specs.declared.Answer.TheVariants.{Done}
use Rattle.one_block.specs.Calls.{block_answer, block_out}
use Rattle.symbolic_block.specs.declared.SymbolicBlock.{SymbolicBlock}
use Rattle.symbolic_block.specs.Fields.{header_of, endpoint_in, weight_in, Sized}
use Rattle.symbolic_block.specs.Refusals.{Acceptable}
use Rattle.symbolic_calls.specs.Writing.{writing_of}
use Rattle.symbolic_reader.specs.Answers.{reading_of}
use Rattle.grey_caption.specs.Caption.{footprint, most, settings, sheet_with, block_with, grey_of, squared, weight_for, caption_of}

-- sixteen weights of 0..3
abbrev pub Weights : (ℕ → ℕ) → Type 0
Weights w = (i : ℕ) → i < 16 → w i ≤ most

-- a sheet "at these settings" with the two given bytes: one that the writer accepts, whatever its weights
pub record AtSettings (e0 e1 : ℕ) (s : SymbolicBlock) : Type 0 where
  pub sized : Sized s
  pub acceptable : Acceptable footprint s
  pub mode_sheet : s.mark ≡ 0
  pub header : header_of s ≡ settings
  pub first : endpoint_in s 0 ≡ e0
  pub second : endpoint_in s 1 ≡ e1

-- so a choice of sixteen weights is every such sheet, and no other
pub record Chosen (e0 e1 : ℕ) (s : SymbolicBlock) : Type 0 where
  pub weights : Weights (weight_in s)
  pub same : s ≡ sheet_with e0 e1 (weight_in s)

-- what kind 1 shows of a block: the bytes that the one-block call leaves in 64 bytes that held `old`
abbrev pub shown_by : List ℕ → List ℕ → List ℕ
shown_by old block = block_out Srgb8 footprint block old

-- f 0 + .. + f (n - 1)
unfoldable pub sum_of : (ℕ → ℕ) → ℕ → ℕ
sum_of f zero = 0
sum_of f (suc n) = sum_of f n + f n

-- the "summed squared difference" of sixteen texels R, G, B, A from the wanted greys: one square for each texel, since R = G = B (`GreysShown`)
unfoldable pub difference_of : List ℕ → List ℕ → ℕ
unfolding sum_of squared
difference_of wanted texels = sum_of (λ i. squared (get_or texels (4 * i) 0) (get_or wanted i 0)) 16

-- every choice of weights is written, and shows greys
pub record GreysShown (e0 e1 : ℕ) (w : ℕ → ℕ) (old : List ℕ) : Type 0 where
  pub written : (writing_of footprint (sheet_with e0 e1 w)).answer ≡ Done
  pub sixteen : length (block_with e0 e1 w) ≡ 16
  pub no_fault : block_answer Srgb8 footprint (block_with e0 e1 w) (length old) ≡ Done
  -- and reads back with these weights
  pub read : (reading_of footprint (block_with e0 e1 w)).block ≡ sheet_with e0 e1 w
  -- R = G = B, and A is 255
  pub texel : (i c : ℕ) → i < 16 → c < 4
      → get_or (shown_by old (block_with e0 e1 w)) (4 * i + c) 0 ≡ get_or (grey_of e0 e1 (w i) ∷ grey_of e0 e1 (w i) ∷ grey_of e0 e1 (w i) ∷ 255 ∷ []) c 0

-- "no other choice of weights at these settings does better" than this block
pub record Best (e0 e1 : ℕ) (wanted old block : List ℕ) : Type 0 where
  -- it is one of the choices
  pub chosen : Weights (weight_for e0 e1 wanted)
  pub written : block ≡ block_with e0 e1 (weight_for e0 e1 wanted)
  pub least : (v : ℕ → ℕ) → Weights v → difference_of wanted (shown_by old block) ≤ difference_of wanted (shown_by old (block_with e0 e1 v))
  -- "Among equals take the smaller weight at each place": whatever choice does as well has no smaller weight anywhere
  pub smaller : (v : ℕ → ℕ) → Weights v → difference_of wanted (shown_by old block) ≡ difference_of wanted (shown_by old (block_with e0 e1 v))
      → (i : ℕ) → i < 16 → weight_for e0 e1 wanted i ≤ v i

-- bit b of a block
abbrev pub block_bit : List ℕ → ℕ → ℕ
block_bit block b = field (number_of block) b 1

-- two lists of sixteen wanted greys that differ at place i alone
pub record Local (e0 e1 i : ℕ) (wanted other : List ℕ) : Type 0 where
  -- "changes at most that texel's weight": the two blocks' sheets have the same weights at all other places
  pub weights : (k : ℕ) → k < 64 → (k ≡ i → ⊥)
      → weight_in (reading_of footprint (caption_of e0 e1 wanted)).block k ≡ weight_in (reading_of footprint (caption_of e0 e1 other)).block k
  -- "the rest of the block's bits staying equal": all but bits 127 - 2i and 126 - 2i,
  pub bits : (b : ℕ) → (b ≡ 127 - 2 * i → ⊥) → (b ≡ 126 - 2 * i → ⊥) → block_bit (caption_of e0 e1 wanted) b ≡ block_bit (caption_of e0 e1 other) b

-- which are the weight's two
pub record Placed (e0 e1 : ℕ) (w : ℕ → ℕ) (i : ℕ) : Type 0 where
  pub low : block_bit (block_with e0 e1 w) (127 - 2 * i) ≡ w i % 2
  pub high : block_bit (block_with e0 e1 w) (126 - 2 * i) ≡ w i / 2

-- All of it, for two ends that are bytes and a result buffer of 64.
pub record GreyCaption : Type 0 where
  -- the choices of sixteen weights are the sheets at these settings
  pub at_settings : (e0 e1 : ℕ) → e0 ≤ 255 → e1 ≤ 255 → (w : ℕ → ℕ) → Weights w → AtSettings e0 e1 (sheet_with e0 e1 w)
  pub chosen : (e0 e1 : ℕ) (s : SymbolicBlock) → AtSettings e0 e1 s → Chosen e0 e1 s
  pub shows : (e0 e1 : ℕ) → e0 ≤ 255 → e1 ≤ 255 → (w : ℕ → ℕ) → Weights w → (old : List ℕ) → length old ≡ 64 → GreysShown e0 e1 w old
  pub best : (e0 e1 : ℕ) → e0 ≤ 255 → e1 ≤ 255 → (wanted old : List ℕ) → length old ≡ 64 → Best e0 e1 wanted old (caption_of e0 e1 wanted)
  -- "changing one wanted grey", that at place i
  pub local : (e0 e1 : ℕ) → e0 ≤ 255 → e1 ≤ 255 → (i : ℕ) (wanted other : List ℕ) → ((k : ℕ) → k < 16 → (k ≡ i → ⊥) → get_or wanted k 0 ≡ get_or other k 0)
      → Local e0 e1 i wanted other
  pub placed : (e0 e1 : ℕ) → e0 ≤ 255 → e1 ≤ 255 → (w : ℕ → ℕ) → Weights w → (i : ℕ) → i < 16 → Placed e0 e1 w i
