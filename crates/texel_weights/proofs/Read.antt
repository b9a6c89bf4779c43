-- A point of a block's weight grid, from the stored weights at its places.
-- Assumes nothing.
use mathlib.Core.Path.{◌≡◌, refl, sym, ap, ap₂, ◌∙◌}
use mathlib.Core.Bool.{Bool, true, false}
use mathlib.Core.List.{List, [], ◌∷◌}
use Prim.Native.Nat.{ℕ, ◌+◌, ◌-◌, ◌*◌, ◌/◌, ◌%◌, ◌^◌, ◌≤◌, ◌<◌}
use native.Mathlib.Nat.{mul-le-mul, mul-le-mul_right, suc-mul, add-mul}
use native.Mathlib.Omega.{arith}
use lib.Dec.{eqb, ltb}
use lib.ListN.{get_or}
use borrow.Author.Tests.{eqb-true, lt-ltb}
use Rattle.laws.specs.Choice.{pick}
use Rattle.laws.proofs.Filling.{get_or_tab, padded_here}
use Rattle.bits.specs.Field.{reverse}
use Rattle.encoding.specs.declared.Level.{Level}
use Rattle.encoding.specs.declared.LevelPair.{LevelPair}
use Rattle.encoding.specs.declared.Stored.{Stored}
use Rattle.encoding.specs.inner.Levels.{first_level, second_level, level_pair, BytePair}
use Rattle.quantization.specs.Ranges.{encoding_at, bits_at, range_bits}
use Rattle.quantization.specs.Unquantise.{unquant_weight}
use Rattle.integer_sequence.specs.Reading.{number, sequence_at, stored}
use Rattle.sequence_numbers.specs.declared.StoredEight.{StoredEight}
use Rattle.sequence_numbers.specs.inner.Eight.{Eight}
use Rattle.weight_grid.specs.Cell as cell
use Rattle.weight_grid.specs.Cell.{level}
use Rattle.weight_grid.specs.Bilinear.{blend_of}
use Rattle.weight_grid.specs.inner.Points.{no_point, point_of, points_of, neighbour_step, read_of}
use Rattle.block_mode.specs.Back2D.{Limits}
use Rattle.block_header.specs.declared.BlockHeader.{BlockHeader}
use Rattle.block_header.specs.Counts.{weight_count}
use Rattle.block_fault.specs.Bits.{weight_at}
use Rattle.block_levels.proofs.Levels.{points_le}
use Rattle.block_core.proofs.Shows.{byte_levels}
use Rattle.texel.specs.Meaning.{weight_levels}
use Rattle.texel_weights.specs.inner.Points.{points_at}

pub small : (k planes : ℕ) → k < 64 → planes ≤ 2 → k * planes ≤ 126
small k planes h p = mul-le-mul {n₂ = 63} {m₂ = 2} (omega arith) p

module _ (B : ℕ) (h : BlockHeader) (l : Limits h.grid) (room : weight_count h.grid ≤ 64) where
  abbrev range : ℕ
  range = h.grid.range

  abbrev planes : ℕ
  planes = h.grid.planes

  -- the block's weights as a sequence
  abbrev pub sequence : ℕ
  sequence = sequence_at (encoding_at range) (bits_at range) (reverse 128 B) 0 (weight_count h.grid)

  abbrev weight : ℕ → ℕ
  weight i = unquant_weight range (number (encoding_at range) (bits_at range) sequence i)

  -- one of the block's weights
  here : (i : ℕ) → i < weight_count h.grid → cell.level_in (weight_levels range (weight_at B h)) i ≡ weight i
  unfolding cell.level_in weight_levels weight_at
  here i k =
      ap (λ (x : Level). x.0) (get_or_tab (λ j. level (unquant_weight range (weight_at B h j))) 64 i (level 0) (omega arith))
      ∙ rw (lt-ltb i (weight_count h.grid) k)

  module _ (k : ℕ) (inside : k < h.grid.width * h.grid.height * h.grid.depth) where
    last : k * planes + planes ≤ weight_count h.grid
    unfolding weight_count
    last = omega (arith, mul-le-mul_right planes inside, suc-mul k planes)

    listed : get_or (points_at B h) k no_point ≡ point_of (weight_levels range (weight_at B h)) planes k
    unfolding points_of
    listed = padded_here (point_of (weight_levels range (weight_at B h)) planes) no_point 64 (h.grid.width * h.grid.height * h.grid.depth) k no_point (omega (arith, points_le h.grid l room)) inside

    both : (t : Bool) → eqb planes 2 ≡ t → {a b : Stored} → a ≡ stored (number (encoding_at range) (bits_at range) sequence (k * planes))
        → (planes ≡ 2 → b ≡ stored (number (encoding_at range) (bits_at range) sequence (k * planes + 1)))
        → level_pair (unquant_weight range a.0) (pick t (unquant_weight range b.0) 0)
        ≡ level_pair (cell.level_in (weight_levels range (weight_at B h)) (k * planes)) (pick t (cell.level_in (weight_levels range (weight_at B h)) (k * planes + 1)) 0)
    both true e ea eb =
        let two : planes ≡ 2 = eqb-true planes 2 e in
        rw (ea, eb two, here (k * planes) (omega (arith, last, l.planes_low)), here (k * planes + 1) (omega (arith, last, two)))
    both false e ea eb = rw (ea, here (k * planes) (omega (arith, last, l.planes_low)))

    -- the point, from its stored weights
    pub point_told : {a b : Stored} {r : LevelPair} → a ≡ stored (number (encoding_at range) (bits_at range) sequence (k * planes))
        → (planes ≡ 2 → b ≡ stored (number (encoding_at range) (bits_at range) sequence (k * planes + 1)))
        → r ≡ level_pair (unquant_weight range a.0) (pick (eqb planes 2) (unquant_weight range b.0) 0) → r ≡ get_or (points_at B h) k no_point
    unfolding point_of
    point_told ea eb er = er ∙ both (eqb planes 2) refl ea eb ∙ sym listed

  -- so many numbers that were read from point m on
  module _ (m from s count : ℕ) (xs : StoredEight) (ef : from ≡ m * planes) (es : s ≡ sequence) (ex : Eight count (λ j. number (encoding_at range) (bits_at range) s (from + j)) xs) where
    read : (j i : ℕ) → j < count → from + j ≡ i → stored (xs.0 / 2 ^ (8 * j) % 256) ≡ stored (number (encoding_at range) (bits_at range) sequence i)
    read j i h e = ap stored (ex.at j h ∙ ap₂ (λ (q k : ℕ). number (encoding_at range) (bits_at range) q k) es e)

    -- that point, or its right neighbour
    pub point_in : (right k at : ℕ) (r : LevelPair) → at + planes ≤ count → k ≡ m + right → at ≡ right * planes → k < h.grid.width * h.grid.height * h.grid.depth
        → r ≡ level_pair (unquant_weight range (xs.0 / 2 ^ (8 * at) % 256)) (pick (eqb planes 2) (unquant_weight range (xs.0 / 2 ^ (8 * (at + 1)) % 256)) 0) → r ≡ get_or (points_at B h) k no_point
    point_in right k at r room ek ea inside er =
        let e : from + at ≡ k * planes = rw (ef, ek, ea) (sym (add-mul m right planes)) in
        point_told k inside (read at (k * planes) (omega (arith, l.planes_low, room)) e) (λ two. read (at + 1) (k * planes + 1) (omega (arith, two, room)) (omega (arith, e))) er

-- a plane of what is read, from the four points
pub read_told : (plane : LevelPair → ℕ) (points : List LevelPair) (width height gs gt : ℕ) {n right below v : ℕ} {p : List LevelPair} → n ≡ gt / 16 * width + gs / 16
    → right ≡ neighbour_step gs width 1 → below ≡ neighbour_step gt height width
    → p ≡ get_or points n no_point ∷ get_or points (n + right) no_point ∷ get_or points (n + below) no_point ∷ get_or points (n + below + right) no_point ∷ []
    → v ≡ blend_of (gs % 16) (gt % 16) (plane (get_or p 0 no_point)) (plane (get_or p 1 no_point)) (plane (get_or p 2 no_point)) (plane (get_or p 3 no_point))
    → v ≡ read_of plane points width height gs gt
unfolding read_of
read_told plane points width height gs gt en er eb ep ev = ev ∙ rw (ep, en, er, eb)

-- their levels are bytes
pub bytes_told : (B : ℕ) (h : BlockHeader) (n right below : ℕ) {p : List LevelPair}
    → p ≡ get_or (points_at B h) n no_point ∷ get_or (points_at B h) (n + right) no_point ∷ get_or (points_at B h) (n + below) no_point ∷ get_or (points_at B h) (n + below + right) no_point ∷ []
    → BytePair (get_or p 0 no_point) × BytePair (get_or p 1 no_point) × BytePair (get_or p 2 no_point) × BytePair (get_or p 3 no_point)
bytes_told B h n right below ep =
    let b = byte_levels h (weight_at B h) in
    rw ep (b n, b (n + right), b (n + below), b (n + below + right))
