-- The bits left hold the endpoint numbers: no two parts of a block overlap where 18 and 19 do not hold.
-- Assumes nothing.
use mathlib.Core.Path.{◌≡◌, refl}
use mathlib.Core.Bool.{Bool, true, false}
use mathlib.Core.List.{List}
use Prim.Native.Nat.{ℕ, zero, suc, ◌+◌, ◌-◌, ◌*◌, ◌/◌, ◌^◌, ◌≤◌, ◌<◌}
use native.Mathlib.Omega.{arith}
use lib.Dec.{eqb}
use lib.Pow.{pow_pos}
use borrow.Author.Tests.{eqb-true, eqb-false, eq-eqb}
use Rattle.laws.specs.Choice.{pick}
use Rattle.quantization.specs.Ranges.{range_bits}
use Rattle.quantization.proofs.Ranges.{endpoint_range_largest}
use Rattle.color_endpoint.specs.Table.{number_count, start_of}
use Rattle.block_header.specs.declared.BlockHeader.{BlockHeader}
use Rattle.block_header.specs.Counts.{weight_bits, component_bits, partition_index_bits, selector_bits, extra_bits, endpoint_count, bits_left, endpoint_range_of}
use Rattle.block_fault.specs.Bits.{endpoints_from}
use Rattle.symbolic_block.specs.Writing.{endpoints_end, component_from}

-- ---- widths that depend on the partitions

pub from_is : (P : ℕ) → endpoints_from P ≡ 13 + partition_index_bits P + selector_bits P + 4
unfolding endpoints_from
from_is P = omega arith

head_sum : (P : ℕ) → endpoints_from P + pick (eqb P 1) 111 99 ≡ 128
unfolding endpoints_from
head_sum P = go (eqb P 1) where
  go : (b : Bool) → 17 + pick b 0 10 + pick b 0 2 + pick b 111 99 ≡ 128
  go true = refl
  go false = refl

-- a field of w bits, or of none
bits_or_none_lt : (w x : ℕ) (none : Bool) → x ≤ pick none 0 (2 ^ w - 1) → x < 2 ^ pick none 0 w
bits_or_none_lt w x true h = omega arith
bits_or_none_lt w x false h = omega (arith, pow_pos w)

bits_or_none_le : (w x : ℕ) (none : Bool) → x < 2 ^ pick none 0 w → x ≤ pick none 0 (2 ^ w - 1)
bits_or_none_le w x true h = omega arith
bits_or_none_le w x false h = omega arith

pub index_lt : (P x : ℕ) → x ≤ pick (eqb P 1) 0 1023 → x < 2 ^ partition_index_bits P
unfolding partition_index_bits
index_lt P x = bits_or_none_lt 10 x (eqb P 1)

pub index_le : (P x : ℕ) → x < 2 ^ partition_index_bits P → x ≤ pick (eqb P 1) 0 1023
unfolding partition_index_bits
index_le P x = bits_or_none_le 10 x (eqb P 1)

pub selector_lt : (P x : ℕ) → x ≤ pick (eqb P 1) 0 3 → x < 2 ^ selector_bits P
unfolding selector_bits
selector_lt P x = bits_or_none_lt 2 x (eqb P 1)

pub selector_le : (P x : ℕ) → x < 2 ^ selector_bits P → x ≤ pick (eqb P 1) 0 3
unfolding selector_bits
selector_le P x = bits_or_none_le 2 x (eqb P 1)

-- a selector needs several partitions
pub several : (P x : ℕ) → x ≤ pick (eqb P 1) 0 3 → 1 ≤ P → 1 ≤ x → 2 ≤ P
several P x h p l = go (eqb P 1) refl h where
  go : (b : Bool) → eqb P 1 ≡ b → x ≤ pick b 0 3 → 2 ≤ P
  go true e m = omega arith
  go false e m = omega (arith, eqb-false P 1 e)

pub alone : (P x : ℕ) → x ≤ pick (eqb P 1) 0 3 → 1 ≤ P → P ≤ 1 → x ≡ 0
alone P x h p l = let m : x ≤ 0 = rw (eq-eqb P 1 (omega arith)) at h in omega arith

pub pick_le : (b : Bool) (x y m : ℕ) → x ≤ m → y ≤ m → pick b x y ≤ m
pick_le true x y m h l = h
pick_le false x y m h l = l

-- ---- on the planes

pub component_lt : (planes c : ℕ) → 1 ≤ planes → planes ≤ 2 → c ≤ pick (eqb planes 2) 3 0 → c < 2 ^ component_bits planes
unfolding component_bits
component_lt planes c l m h = go (eqb planes 2) refl h where
  go : (b : Bool) → eqb planes 2 ≡ b → c ≤ pick b 3 0 → c < 2 ^ (2 * (planes - 1))
  go true e h = let q : planes ≡ 2 = eqb-true planes 2 e in rw q (omega arith)
  go false e h = let q : planes ≡ 1 = omega (arith, eqb-false planes 2 e) in rw q (omega arith)

pub component_le : (planes c : ℕ) → 1 ≤ planes → planes ≤ 2 → c < 2 ^ component_bits planes → c ≤ pick (eqb planes 2) 3 0
unfolding component_bits
component_le planes c l m h = go (eqb planes 2) refl where
  go : (b : Bool) → eqb planes 2 ≡ b → c ≤ pick (eqb planes 2) 3 0
  go true e = let q : planes ≡ 2 = eqb-true planes 2 e in rw e (let k : c < 4 = rw q at h in omega arith)
  go false e = let q : planes ≡ 1 = omega (arith, eqb-false planes 2 e) in rw e (let k : c < 1 = rw q at h in omega arith)

-- ---- room

count_pos : (modes : List ℕ) (P : ℕ) → 1 ≤ P → 2 ≤ start_of modes P
unfolding start_of number_count
count_pos modes zero h = omega arith
count_pos modes (suc p) h = omega arith

module _ (h : BlockHeader) (some : 1 ≤ h.partitions) (enough : (13 * endpoint_count h + 4) / 5 ≤ bits_left h) where
  abbrev above : ℕ
  above = weight_bits h.grid + component_bits h.grid.planes + extra_bits h.partitions h.selector

  left_is : bits_left h ≡ pick (eqb h.partitions 1) 111 99 - above
  unfolding bits_left
  left_is = refl

  fits : range_bits (endpoint_range_of h) (endpoint_count h) ≤ bits_left h
  unfolding endpoint_range_of
  fits = (endpoint_range_largest (endpoint_count h) (bits_left h) enough).fits

  some_numbers : 2 ≤ endpoint_count h
  unfolding endpoint_count
  some_numbers = count_pos h.modes h.partitions some

  end_is : endpoints_end h ≡ endpoints_from h.partitions + range_bits (endpoint_range_of h) (endpoint_count h)
  unfolding endpoints_end
  end_is = refl

  pub component_from_is : component_from h ≡ 128 - weight_bits h.grid - extra_bits h.partitions h.selector - component_bits h.grid.planes
  unfolding component_from
  component_from_is = refl

  -- what lies below the weights, the extra mode bits and the plane channel ends where these begin
  pub room : endpoints_end h + above ≤ 128
  room =
      let l : 1 ≤ bits_left h = omega (arith, some_numbers) in
      omega (arith, left_is, fits, end_is, head_sum h.partitions)
