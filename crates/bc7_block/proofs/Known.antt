-- A block has a mode, one of eight, or none and the fault; and each of its fields fits its bits.
-- Assumes nothing.
use mathlib.Core.Path.{◌≡◌, refl, sym, ap, ◌∙◌}
use mathlib.Core.Bool.{Bool, true, false}
use Prim.Native.Nat.{ℕ, ◌^◌, ◌<◌}
use native.Mathlib.Omega.{arith}
use borrow.Author.Tests.{eqb-true, eqb-false}
use Rattle.laws.specs.Choice.{pick}
use Rattle.bits.specs.Field.{field}
use Rattle.bits.proofs.Fields.{field_lt}
use Rattle.bc7_layout.specs.Layout.{field_width, lowest_one, first_byte, mode_at, is_reserved, field_at}
use Rattle.bc7_layout.proofs.Tables.{mode_lt}
use Rattle.bc7_block.specs.Reading.{fault_of}
use Rattle.bc7_block.proofs.Demand.{width_holds, read_partition}

module _ (B : ℕ) where
  none_set : is_reserved B ≡ true → mode_at B ≡ 8
  unfolding is_reserved mode_at first_byte lowest_one
  none_set e = ap (lowest_one 8) (eqb-true (field B 0 8) 0 e)

  some_set_lem : is_reserved B ≡ false → mode_at B < 8
  unfolding is_reserved mode_at first_byte
  some_set_lem e = mode_lt (field B 0 8) (field_lt B 0 8) (eqb-false (field B 0 8) 0 e)

  pub reserved_mode : mode_at B ≡ 8 → is_reserved B ≡ true
  reserved_mode h = go (is_reserved B) refl where
    go : (b : Bool) → is_reserved B ≡ b → is_reserved B ≡ true
    go true e = e
    go false e = absurd (omega (arith, some_set_lem e))

  pub known-mode : (mode_at B ≡ 8 → ⊥) → (is_reserved B ≡ false) × (mode_at B < 8)
  known-mode h = go (is_reserved B) refl where
    go : (b : Bool) → is_reserved B ≡ b → (is_reserved B ≡ false) × (mode_at B < 8)
    go true e = absurd (h (none_set e))
    go false e = (e, some_set_lem e)

  pub sound : mode_at B < 8 → fault_of B ≡ 0
  unfolding fault_of
  sound h = ap (λ (b : Bool). pick b 71 0) (known-mode (λ e. omega arith)).0

  pub fits : mode_at B < 8 → (k : ℕ) → k < 60 → field_at B k < 2 ^ field_width (mode_at B) (field_at B 1) k
  fits h k l = rw (read_partition B (sound h)) (width_holds B k)
