-- The parts of a block that hold packed numbers.
-- Assumes nothing.
use mathlib.Core.Path.{◌≡◌, sym, ap, ◌∙◌}
use mathlib.Core.List.{List}
use Prim.Native.Nat.{ℕ, ◌+◌, ◌-◌, ◌*◌, ◌%◌, ◌^◌, ◌≤◌, ◌<◌, min}
use native.Mathlib.Nat.{mod-eq_of_lt, lt_of_lt_of_le}
use native.Mathlib.Omega.{arith}
use lib.ListN.{length, get_or, take}
use lib.Pow.{pow_mono}
use lib.Seq.{ext_get_or}
use Rattle.laws.specs.Table.{padded}
use Rattle.laws.proofs.Filling.{padded_here, length_padded}
use Rattle.bits.specs.Field.{field, reverse}
use Rattle.bits.proofs.Fields.{field_lt, field_none}
use Rattle.bits.proofs.Reverse.{reverse_lt, reverse_reverse}
use Rattle.encoding.specs.declared.Stored.{Stored}
use Rattle.quantization.specs.Ranges.{encoding_at, bits_at, range_bits}
use Rattle.integer_sequence.specs.Reading.{stored}
use Rattle.integer_sequence.specs.Writing.{packed, values}
use Rattle.integer_sequence.specs.inner.Sequences.{with_sequence}
use Rattle.block_mode.specs.declared.WeightGrid.{WeightGrid}
use Rattle.block_header.specs.declared.BlockHeader.{BlockHeader}
use Rattle.block_header.specs.Counts.{weight_count, weight_bits, endpoint_count, endpoint_range_of}
use Rattle.block_fault.specs.Bits.{endpoints_from}
use Rattle.symbolic_block.specs.declared.SymbolicBlock.{SymbolicBlock}
use Rattle.symbolic_block.specs.Fields.{sheet_grid, header_of}
use Rattle.symbolic_block.specs.Writing.{endpoint_stream, weight_stream}
use Rattle.symbolic_block.proofs.Numbers.{taken, packed_size, value, reverse_top}
use Rattle.symbolic_writer.specs.inner.Piled.{with_value, Packable}
use Rattle.symbolic_writer.proofs.Piled.{below_kept}

-- the endpoint numbers in a list of 64
abbrev pub long : List Stored → List Stored
long xs = padded 64 18 (λ i. get_or xs i (stored 0)) (stored 0)

-- begin as before
module _ (xs : List Stored) (e : length xs ≡ 18) (n : ℕ) (h : n ≤ 18) where
  long_64 : length (long xs) ≡ 64
  long_64 = length_padded (λ i. get_or xs i (stored 0)) (stored 0) 64 18

  same_at : (i : ℕ) → i < n → get_or (take n (values (long xs))) i 0 ≡ get_or (take n (values xs)) i 0
  same_at i m =
      value 64 n 0 (long xs) long_64 (omega arith) i m
      ∙ ap (λ (x : Stored). x.0) (padded_here (λ i. get_or xs i (stored 0)) (stored 0) 64 18 i (stored 0) (omega arith) (omega arith))
      ∙ sym (value 18 n 0 xs e h i m)

  pub taken_same : take n (values (long xs)) ≡ take n (values xs)
  taken_same =
      let l : length (take n (values (long xs))) ≡ n = taken 64 n 0 (long xs) long_64 (omega arith) in
      ext_get_or 0 (take n (values (long xs))) (take n (values xs)) (l ∙ sym (taken 18 n 0 xs e h)) (λ i m. same_at i (omega (arith, l)))

-- a sequence from bit 0 on
pub sequence_first : (k n B : ℕ) (xs : List Stored) → length xs ≡ 64 → n ≤ 64 → range_bits k n ≤ 128
    → with_sequence (encoding_at k) (bits_at k) B 0 (take n (values xs)) ≡ packed (encoding_at k) (bits_at k) (take n (values xs))
unfolding with_sequence
sequence_first k n B xs e h m =
    let P = packed (encoding_at k) (bits_at k) (take n (values xs)) in
    rw (field_none B 0) (ap (λ (x : ℕ). x % 2 ^ 128) (start P) ∙ mod-eq_of_lt (lt_of_lt_of_le (packed_size 64 n k xs e h) (pow_mono m)))
  where
    start : (x : ℕ) → 0 + x * 2 ^ 0 ≡ x
    start x = omega arith

-- w bits in reverse stand at the top of the reversed 128
pub reversed_top : (w x : ℕ) → w ≤ 128 → x < 2 ^ w → field (reverse 128 x) (128 - w) w ≡ reverse w x
reversed_top w x h l =
    let top = field (reverse 128 x) (128 - w) w in
    let low : field x 0 w ≡ reverse w top =
    ap (λ (y : ℕ). field y 0 w) (sym (reverse_reverse 128 x (lt_of_lt_of_le l (pow_mono h)))) ∙ reverse_top 128 w (reverse 128 x) h (reverse_lt 128 x) in
    sym (reverse_reverse w top (field_lt (reverse 128 x) (128 - w) w)) ∙ ap (reverse w) (sym low ∙ below_kept x w l)

-- ---- step by step

module _ (s : SymbolicBlock) (p : Packable s) where
  pub endpoint_steps : length s.endpoints ≡ 18 → (B : ℕ) {h : BlockHeader} {n k from r : ℕ} {xs : List Stored} → h ≡ header_of s → n ≡ endpoint_count h → k ≡ endpoint_range_of h
      → from ≡ endpoints_from s.partitions → xs ≡ long s.endpoints → r ≡ with_sequence (encoding_at k) (bits_at k) B from (take n (values xs))
      → r ≡ with_value B (endpoints_from s.partitions) (endpoint_stream s)
  unfolding with_sequence with_value endpoint_stream
  endpoint_steps z B {h} {n} {k} {from} {r} {xs} eh en ek ef ex er =
      let n-is : n ≡ endpoint_count (header_of s) = en ∙ ap endpoint_count eh in
      let k-is : k ≡ endpoint_range_of (header_of s) = ek ∙ ap endpoint_range_of eh in
      er ∙ rw (n-is, k-is, ef, ex, taken_same s.endpoints z (endpoint_count (header_of s)) p.endpoints_most)

  pub weight_steps : length s.weights ≡ 64 → (B : ℕ) {g : WeightGrid} {n from w b t r : ℕ} → g ≡ sheet_grid s → n ≡ weight_count g
      → b ≡ with_sequence (encoding_at s.range) (bits_at s.range) B 0 (take n (values s.weights)) → t ≡ reverse 128 b
      → from ≡ 128 - weight_bits g → w ≡ min (weight_bits g) 1000 → r ≡ field t from w → r ≡ reverse (weight_bits (sheet_grid s)) (weight_stream s)
  unfolding weight_stream weight_bits
  weight_steps z B {g} {n} {from} {w} {b} {t} {r} eg en eb et ef ew er =
      let n-is : n ≡ weight_count (sheet_grid s) = en ∙ ap weight_count eg in
      let w-is : w ≡ weight_bits (sheet_grid s) = ew ∙ ap (λ (x : WeightGrid). min (weight_bits x) 1000) eg ∙ omega (arith, p.bits_most) in
      let from_is : from ≡ 128 - weight_bits (sheet_grid s) = ef ∙ ap (λ (x : WeightGrid). 128 - weight_bits x) eg in
      let b-is : b ≡ weight_stream s = eb ∙ rw n-is (sequence_first s.range (weight_count (sheet_grid s)) B s.weights z p.weights_most (omega (arith, p.bits_most))) in
      er ∙ rw (et, b-is, from_is, w-is) (reversed_top (weight_bits (sheet_grid s)) (weight_stream s) (omega (arith, p.bits_most))
      (packed_size 64 (weight_count (sheet_grid s)) s.range s.weights z p.weights_most))
