-- A weight that is read and looked up, for every encoding.
-- Assumes nothing.
use mathlib.Core.Path.{◌≡◌, sym, ap, ◌∙◌, subst}
use mathlib.Core.List.{List}
use Prim.Native.Nat.{ℕ, ◌*◌, ◌^◌, ◌≤◌, ◌<◌}
use native.Mathlib.Nat.{lt_of_lt_of_le}
use native.Mathlib.Omega.{arith}
use lib.Dec.{ltb}
use lib.ListN.{get_or}
use Rattle.laws.specs.Choice.{pick}
use Rattle.laws.specs.Table.{tab, padded}
use Rattle.laws.proofs.Filling.{get_or_tab, tab_ext}
use Rattle.encoding.specs.declared.Encoding.{Encoding}
use Rattle.encoding.specs.declared.LevelPair.{LevelPair}
use Rattle.encoding.specs.inner.Levels.{level_pair}
use Rattle.encoding.specs.Encoding.{radix}
use Rattle.quantization.specs.Ranges.{encoding_at, bits_at, most_at}
use Rattle.quantization.specs.Unquantise.{unquant_weight}
use Rattle.quantization.proofs.Ranges.{reach, weight_most_le}
use Rattle.integer_sequence.specs.Reading.{number}
use Rattle.integer_sequence.proofs.Groups.{number_lt}
use Rattle.weight_reader.specs.inner.Weights.{no_levels, one_plane, point_by, by_table, weights_of}

-- the point of number k, from the number that was read
pub looked_up : (table : List ℕ) (κ : Encoding) (b s k : ℕ) {v : ℕ} {p : LevelPair} → radix κ * 2 ^ b ≤ 32 → v ≡ number κ b s k
    → (v < 32 → p ≡ level_pair (get_or table v 0) 0) → p ≡ point_by table (number κ b s k)
unfolding point_by
looked_up table κ b s k h e f =
    f (subst (λ (x : ℕ). x < 32) (sym e) (lt_of_lt_of_le (number_lt κ b s k) h)) ∙ ap (λ (x : ℕ). level_pair (get_or table x 0) 0) e

-- a weight range has at most 32 numbers
pub few_weights : (k : ℕ) → k ≤ 11 → reach k ≤ 32
unfolding most_at
few_weights k h = omega (arith, weight_most_le k h)

-- by the table of a range's levels
pub by_range : (range s n : ℕ) → range ≤ 11 → {table : List ℕ} → table ≡ tab (unquant_weight range) 32
    → by_table table (encoding_at range) (bits_at range) s n ≡ weights_of range s n
unfolding by_table weights_of point_by padded
by_range range s n h {table} et = tab_ext _ _ no_levels 64 (λ k l. ap (λ (x : ℕ). pick (ltb k n) (one_plane x) no_levels) (at k)) where
  at : (k : ℕ) → get_or table (number (encoding_at range) (bits_at range) s k) 0 ≡ unquant_weight range (number (encoding_at range) (bits_at range) s k)
  at k =
      ap (λ (t : List ℕ). get_or t (number (encoding_at range) (bits_at range) s k) 0) et
      ∙ get_or_tab (unquant_weight range) 32 (number (encoding_at range) (bits_at range) s k) 0 (lt_of_lt_of_le (number_lt (encoding_at range) (bits_at range) s k) (few_weights range h))
