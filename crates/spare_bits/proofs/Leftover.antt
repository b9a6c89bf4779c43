-- How the code finds the spare bits, and where they lie.
-- Assumes nothing.
use mathlib.Core.Path.{◌≡◌, refl}
use mathlib.Core.Bool.{Bool, true, false, not}
use mathlib.Core.List.{List, [], ◌∷◌}
use Prim.Native.Nat.{ℕ, ◌+◌, ◌-◌, min}
use native.Mathlib.Omega.{arith}
use lib.Dec.{eqb}
use lib.ListN.{length, set}
use borrow.Author.Tests.{eq-eqb, ne_eqb, eqb-true, eqb-false}
use Rattle.bits.specs.Field.{field}
use Rattle.bits.specs.Block.{block_number}
use Rattle.bits.specs.declared.PhysicalBlock.{PhysicalBlock}
use Rattle.block_header.specs.declared.BlockHeader.{BlockHeader}
use Rattle.block_header.specs.Counts.{weight_bits, component_bits, extra_bits}
use Rattle.block_fault.specs.Bits.{endpoints_from}
use Rattle.symbolic_block.specs.Writing.{endpoints_end, component_from}
use Rattle.spare_bits.specs.Spare.{named_bits, spare_bits, some_set}

-- all named fields: those up to the end of the endpoint numbers, and those above
pub named_is : (h : BlockHeader) → endpoints_end h + (weight_bits h.grid + component_bits h.grid.planes + extra_bits h.partitions h.selector) ≡ named_bits h
unfolding endpoints_end endpoints_from named_bits
named_is h = omega arith

-- what is left of 128, weight bits of more than 1000 clipped
pub left_is : (h : BlockHeader) {end weights component extra : ℕ} → end ≡ endpoints_end h → weights ≡ min (weight_bits h.grid) 1000
    → component ≡ component_bits h.grid.planes → extra ≡ extra_bits h.partitions h.selector → 128 - (end + (weights + component + extra)) ≡ spare_bits h
unfolding spare_bits
left_is h e w c x = rw (e, w, c, x) (omega (arith, named_is h))

module _ (part : PhysicalBlock) (B p w : ℕ) (e : block_number part ≡ field B p w) where
  pub low_set : (part.lo ≡ 0 → ⊥) → true ≡ some_set B p w
  unfolding some_set block_number
  low_set h = rw (ne_eqb (field B p w) 0 (λ q. h (omega (arith, e, q))))

  pub high_set : part.lo ≡ 0 → not (eqb part.hi 0) ≡ some_set B p w
  unfolding some_set block_number
  high_set h = go (eqb part.hi 0) refl where
    go : (b : Bool) → eqb part.hi 0 ≡ b → not b ≡ not (eqb (field B p w) 0)
    go true q = rw (eq-eqb (field B p w) 0 (omega (arith, e, h, eqb-true part.hi 0 q)))
    go false q = rw (ne_eqb (field B p w) 0 (λ z. eqb-false part.hi 0 q (omega (arith, e, h, z))))

-- the bits between
pub between_is : (h : BlockHeader) → spare_bits h ≡ component_from h - endpoints_end h
unfolding spare_bits component_from
between_is h = omega (arith, named_is h)

-- two numbers put into a list of two
pub two_set : (l : List ℕ) {a b x y : ℕ} → length l ≡ 2 → a ≡ x → b ≡ y → set (set l 0 a) 1 b ≡ x ∷ y ∷ []
two_set [] e p q = absurd (omega (arith, e))
two_set (u ∷ []) e p q = absurd (omega (arith, e))
two_set (u ∷ v ∷ []) e p q = rw (p, q)
two_set (u ∷ v ∷ w ∷ l) e p q = absurd (omega (arith, e))
