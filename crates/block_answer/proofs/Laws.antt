-- The refusals of a one-block call one by one.
-- Assumes nothing.
use mathlib.Core.Path.{◌≡◌, refl}
use mathlib.Core.Bool.{Bool, true, false, not}
use Prim.Native.Nat.{ℕ, ◌*◌, ◌≤◌, ◌<◌}
use native.Mathlib.Omega.{arith}
use lib.Dec.{eqb, ltb}
use borrow.Author.Tests.{lt-ltb, le-ltb, ltb-false, eq-eqb, ne_eqb, eqb-true}
use Rattle.laws.specs.Choice.{pick}
use Rattle.footprint.specs.Footprint.{texels_of}
use Rattle.footprint.proofs.Laws.{texels_le}
use Rattle.block_answer.specs.Told.{block_refusal}

module _ (fp bytes numbers : ℕ) where
  pub unknown_footprint_lem : 23 < fp → 1 ≡ block_refusal fp bytes numbers
  unfolding block_refusal
  unknown_footprint_lem h = rw (lt-ltb _ _ h)

  module _ (known : fp ≤ 23) where
    pub not_sixteen : (bytes ≡ 16 → ⊥) → 4 ≡ block_refusal fp bytes numbers
    unfolding block_refusal
    not_sixteen h = rw (le-ltb _ _ known, ne_eqb _ _ h)

    pub wrong_numbers : bytes ≡ 16 → (numbers ≡ 4 * texels_of fp → ⊥) → 5 ≡ block_refusal fp bytes numbers
    unfolding block_refusal
    wrong_numbers b h = rw (le-ltb _ _ known, eq-eqb _ _ b, ne_eqb _ _ h)

    pub accepted : bytes ≡ 16 → numbers ≡ 4 * texels_of fp → 0 ≡ block_refusal fp bytes numbers
    unfolding block_refusal
    accepted b h = rw (le-ltb _ _ known, eq-eqb _ _ b, eq-eqb _ _ h)

-- and back
pub record Accepted (fp bytes numbers : ℕ) : Type 0 where
  pub known : fp ≤ 23
  pub sixteen : bytes ≡ 16
  pub size : numbers ≡ 4 * texels_of fp

pub not_refused : (fp bytes numbers : ℕ) → block_refusal fp bytes numbers ≡ 0 → Accepted fp bytes numbers
unfolding block_refusal
not_refused fp bytes numbers e = go (ltb 23 fp) (eqb bytes 16) (eqb numbers (4 * texels_of fp)) refl refl refl e where
  go : (a b c : Bool) → ltb 23 fp ≡ a → eqb bytes 16 ≡ b → eqb numbers (4 * texels_of fp) ≡ c
      → ◌≡◌ {A = ℕ} (pick a 1 (pick (not b) 4 (pick (not c) 5 0))) 0 → Accepted fp bytes numbers
  go true b c p q r e = absurd (omega arith)
  go false false c p q r e = absurd (omega arith)
  go false true false p q r e = absurd (omega arith)
  go false true true p q r e = record { known = ltb-false 23 fp p; sixteen = eqb-true bytes 16 q; size = eqb-true numbers _ r }

-- the buffer of 864 numbers is long enough
pub fits_in : (fp bytes numbers : ℕ) → block_refusal fp bytes numbers ≡ 0 → numbers ≤ 864
fits_in fp bytes numbers e = omega (arith, (not_refused fp bytes numbers e).size, texels_le fp)
