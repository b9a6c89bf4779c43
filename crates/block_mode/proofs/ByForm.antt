-- A mode by its form is the mode: one test over all modes.
-- Assumes nothing.
use mathlib.Core.Path.{◌≡◌, refl, ◌∙◌}
use mathlib.Core.Bool.{Bool, true, false}
use Prim.Native.Nat.{ℕ, ◌%◌, ◌≤◌, ◌<◌}
use native.Mathlib.Omega.{arith}
use native.Mathlib.Nat.{mod-lt}
use lib.Dec.{T, ltb, eqb}
use borrow.Author.Tests.{ne_eqb, lt-ltb, le-ltb}
use Rattle.laws.specs.Choice.{all}
use Rattle.laws.proofs.Computed.{each}
use Rattle.block_mode.specs.declared.BlockMode.{BlockMode}
use Rattle.block_mode.specs.declared.BlockMode.TheVariants.{VoidExtent, Reserved, Grid}
use Rattle.block_mode.specs.Mode2D.{block_mode}
use Rattle.block_mode.specs.inner.Forms.{form_of, marks_of, grid_of, mode_by}
use Rattle.block_mode.proofs.Modes.{is_grid, is_grid_lem, low_eleven}

-- x is the answer y
same : BlockMode → BlockMode → Bool
same VoidExtent VoidExtent = true
same VoidExtent Reserved = false
same VoidExtent (Grid g) = false
same Reserved VoidExtent = false
same Reserved Reserved = true
same Reserved (Grid g) = false
same (Grid k) VoidExtent = false
same (Grid k) Reserved = false
same (Grid k) (Grid g) = is_grid (Grid k) g

is_same : (x y : BlockMode) → T (same x y) → x ≡ y
unfolding same
is_same VoidExtent VoidExtent t = refl
is_same VoidExtent Reserved t = absurd t
is_same VoidExtent (Grid g) t = absurd t
is_same Reserved VoidExtent t = absurd t
is_same Reserved Reserved t = refl
is_same Reserved (Grid g) t = absurd t
is_same (Grid k) VoidExtent t = absurd t
is_same (Grid k) Reserved t = absurd t
is_same (Grid k) (Grid g) t = is_grid_lem (Grid k) g t

test_forms : T (all (λ m. same (mode_by m) (block_mode m)) 2048)
unfolding same is_grid mode_by block_mode
test_forms = tt

pub mode_by_lem : (n : ℕ) → mode_by (n % 2048) ≡ block_mode n
mode_by_lem n = is_same _ _ (each (λ m. same (mode_by m) (block_mode m)) 2048 test_forms (n % 2048) (mod-lt n (omega arith))) ∙ low_eleven n

-- what is told of each of the three
module _ (n : ℕ) where
  pub by_void : n % 2048 % 512 ≡ 508 → VoidExtent ≡ block_mode n
  unfolding mode_by
  by_void e = rw e at (mode_by_lem n)

  pub by_reserved : (n % 2048 % 512 ≡ 508 → ⊥) → 8 ≤ marks_of (n % 2048) → Reserved ≡ block_mode n
  unfolding mode_by
  by_reserved ne h = rw (ne_eqb _ _ ne, le-ltb _ _ h) at (mode_by_lem n)

  pub by_grid : (n % 2048 % 512 ≡ 508 → ⊥) → marks_of (n % 2048) < 8 → Grid (grid_of (n % 2048) (form_of (n % 2048)) (marks_of (n % 2048))) ≡ block_mode n
  unfolding mode_by
  by_grid ne h = rw (ne_eqb _ _ ne, lt-ltb _ _ h) at (mode_by_lem n)
