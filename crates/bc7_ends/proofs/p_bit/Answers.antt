use mathlib.Core.Path.{◌≡◌, sym, ap, ◌∙◌}
use mathlib.Core.Bool.{true}
use Prim.Native.Nat.{ℕ, ◌*◌, ◌≤◌, ◌<◌}
use native.Mathlib.Omega.{arith}
use borrow.Author.Tests.{eqb-true, ne_eqb}
use Rattle.bits.proofs.Fields.{field_lt}
use Rattle.bc7_layout.specs.declared.Mode.{Mode}
use Rattle.bc7_layout.specs.Modes.{mode_row, subsets, endpoint_pbits, shared_pbits}
use Rattle.bc7_layout.proofs.Tables.{subsets_most}
use Rattle.bc7_block.specs.Picture.{has_pbit}
use Rattle.bc7_ends.proofs.Places.{p_own, p_of_subset}
use Rattle.bc7_ends.proofs.p_bit.Goals as goal

-- one kind of P bits by the row
own : (m : ℕ) (w : Mode) → w ≡ mode_row m → w.ends ≡ 1 → endpoint_pbits m ≡ 1
unfolding endpoint_pbits
own m w e h = sym (ap (λ (v : Mode). v.ends) e) ∙ h

not_own : (m : ℕ) (w : Mode) → w ≡ mode_row m → (w.ends ≡ 1 → ⊥) → endpoint_pbits m ≡ 1 → ⊥
unfolding endpoint_pbits
not_own m w e h z = h (ap (λ (v : Mode). v.ends) e ∙ z)

shared : (m : ℕ) (v : ℕ → ℕ) → has_pbit m v ≡ true → (endpoint_pbits m ≡ 1 → ⊥) → shared_pbits m ≡ 1
unfolding has_pbit
shared m v h z = eqb-true (shared_pbits m) 1 (rw (ne_eqb (endpoint_pbits m) 1 z) at h)

x_most : (m x : ℕ) → m < 8 → x < 2 * subsets m → x ≤ 6
x_most m x h l = let n = subsets_most m h in omega arith

one_bit : (r s p : ℕ) → r ≡ s → s ≡ p → p < 2 → r ≤ 1
one_bit r s p a b h = omega arith

pub overflow_add-f : goal.overflow_add-f
overflow_add-f c = let p = c.requires in omega (arith, p.0.p_bits_most, x_most _ _ p.0.known p.1)

pub returns-then-row-eq1 : goal.returns-then-row-eq1
returns-then-row-eq1 c =
    let p = c.requires in
    let f = c.small_field.ensures in
    (c.wide.ensures.0 ∙ p_own _ p.0.known _ _ _ p.1 p.0.p_bits_lem (own _ _ p.0.row c.if-row-eq1.true) f, one_bit _ _ _ c.wide.ensures.0 f (field_lt _ _ 1))

pub returns : goal.returns
returns c =
    let p = c.requires in
    let f = c.small_field-2.ensures in
    let n = not_own _ _ p.0.row c.if-row-eq1.false in
    (c.wide-2.ensures.0 ∙ p_of_subset _ p.0.known _ _ _ p.1 p.0.p_bits_lem n (shared _ _ p.2 n) f, one_bit _ _ _ c.wide-2.ensures.0 f (field_lt _ _ 1))
