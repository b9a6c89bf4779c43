-- The block mode both ways, by one test over all modes and one over all grids.
-- Assumes nothing.
use Rattle.std.specs.Prelude.{None, Option, Some}
use mathlib.Core.Path.{◌≡◌, refl, subst, sym, ap, ◌∙◌}
use mathlib.Core.Bool.{Bool, true, false}
use Prim.Native.Nat.{ℕ, ◌+◌, ◌-◌, ◌/◌, ◌%◌, ◌^◌, ◌<◌}
use native.Mathlib.Omega.{arith}
use native.Mathlib.Nat.{mod-lt}
use lib.Pow
use lib.Dec.{T, leb, ltb, eqb, leb→le, ltb→lt, eqb→eq}
use Rattle.laws.specs.Choice.{both, all}
use Rattle.laws.proofs.Computed.{both_left, both_right, each}
use Rattle.block_mode.specs.declared.WeightGrid.{WeightGrid}
use Rattle.block_mode.specs.declared.BlockMode.{BlockMode}
use Rattle.block_mode.specs.declared.BlockMode.TheVariants.{VoidExtent, Reserved, Grid}
use Rattle.block_mode.specs.Mode2D.{block_mode}
use Rattle.block_mode.specs.OneMode.{OneMode}
use Rattle.block_mode.specs.Back2D.{is_side, in_limits, Limits, flat_mode_of}

-- ---- tests

-- the answer is the mode m
unfoldable pub is_mode : Option ℕ → ℕ → Bool
is_mode (Some n) m = eqb n m
is_mode None m = false

-- the answer is the grid g
unfoldable pub is_grid : BlockMode → WeightGrid → Bool
is_grid VoidExtent g = false
is_grid Reserved g = false
is_grid (Grid k) g = both (eqb k.width g.width) (both (eqb k.height g.height) (both (eqb k.depth g.depth) (both (eqb k.range g.range) (eqb k.planes g.planes))))

-- a grid that is read is in its limits, and its bits are those that were read
read_back : BlockMode → ℕ → Bool
read_back VoidExtent m = true
read_back Reserved m = true
read_back (Grid g) m = both (in_limits g) (is_mode (flat_mode_of g) m)

-- bits that are written are read as the grid
written_back : Option ℕ → WeightGrid → Bool
written_back (Some m) g = both (ltb m 2048) (is_grid (block_mode m) g)
written_back None g = true

abbrev grid : ℕ → ℕ → ℕ → ℕ → WeightGrid
grid w h r p = record { width = w; height = h; depth = 1; range = r; planes = p }

test_read : T (all (λ m. read_back (block_mode m) m) 2048)
unfolding read_back is_mode block_mode flat_mode_of
test_read = tt

-- counted from the smallest grid within the limits
abbrev back : ℕ → ℕ → ℕ → ℕ → Bool
back w h r p = written_back (flat_mode_of (grid (w + 2) (h + 2) r (p + 1))) (grid (w + 2) (h + 2) r (p + 1))

test_written : T (all (λ p. all (λ r. all (λ h. all (λ w. back w h r p) 11) 11) 12) 2)
unfolding written_back is_grid block_mode flat_mode_of
test_written = tt

-- ---- what the tests say

is_mode_lem : (x : Option ℕ) (m : ℕ) → T (is_mode x m) → x ≡ Some m
unfolding is_mode
is_mode_lem (Some n) m t = ap (λ (k : ℕ). Some k) (eqb→eq n m t)
is_mode_lem None m t = absurd t

pub same_grid : (k g : WeightGrid) → k.width ≡ g.width → k.height ≡ g.height → k.depth ≡ g.depth → k.range ≡ g.range → k.planes ≡ g.planes → k ≡ g
same_grid k g w h d r p = λ i. record { width = w i; height = h i; depth = d i; range = r i; planes = p i }

pub is_grid_lem : (x : BlockMode) (g : WeightGrid) → T (is_grid x g) → x ≡ Grid g
unfolding is_grid
is_grid_lem VoidExtent g t = absurd t
is_grid_lem Reserved g t = absurd t
is_grid_lem (Grid k) g t =
    let a = eqb k.width g.width in
    let b = eqb k.height g.height in
    let z = eqb k.depth g.depth in
    let c = eqb k.range g.range in
    let d = eqb k.planes g.planes in
    let t1 = both_right a (both b (both z (both c d))) t in
    let t2 = both_right b (both z (both c d)) t1 in
    let t3 = both_right z (both c d) t2 in
    ap (λ (n : WeightGrid). Grid n)
    (same_grid k g
    (eqb→eq k.width g.width (both_left a (both b (both z (both c d))) t))
    (eqb→eq k.height g.height (both_left b (both z (both c d)) t1))
    (eqb→eq k.depth g.depth (both_left z (both c d) t2))
    (eqb→eq k.range g.range (both_left c d t3))
    (eqb→eq k.planes g.planes (both_right c d t3)))

-- the limits as facts
pub limits : (g : WeightGrid) → T (in_limits g) → Limits g
unfolding in_limits
limits g t =
    let w = is_side g.width in
    let h = is_side g.height in
    let z = eqb g.depth 1 in
    let r = leb g.range 11 in
    let p = leb 1 g.planes in
    let q = leb g.planes 2 in
    let t1 = both_right w (both h (both z (both r (both p q)))) t in
    let t2 = both_right h (both z (both r (both p q))) t1 in
    let t3 = both_right z (both r (both p q)) t2 in
    let t4 = both_right r (both p q) t3 in
    let tw = both_left w (both h (both z (both r (both p q)))) t in
    let th = both_left h (both z (both r (both p q))) t1 in
    let one : g.depth ≡ 1 = eqb→eq g.depth 1 (both_left z (both r (both p q)) t2) in
    record {
      width_low = leb→le 2 g.width (both_left (leb 2 g.width) (leb g.width 12) tw);
      width_most = leb→le g.width 12 (both_right (leb 2 g.width) (leb g.width 12) tw);
      height_low = leb→le 2 g.height (both_left (leb 2 g.height) (leb g.height 12) th);
      height_most = leb→le g.height 12 (both_right (leb 2 g.height) (leb g.height 12) th);
      depth_low = omega (arith, one);
      depth_most = omega (arith, one);
      range_most = leb→le g.range 11 (both_left r (both p q) t3);
      planes_low = leb→le 1 g.planes (both_left p q t4);
      planes_most = leb→le g.planes 2 (both_right p q t4);
    }

-- a flat grid has depth 1
pub flat_depth : (g : WeightGrid) → T (in_limits g) → g.depth ≡ 1
unfolding in_limits
flat_depth g t =
    let w = is_side g.width in
    let h = is_side g.height in
    let z = eqb g.depth 1 in
    let r = both (leb g.range 11) (both (leb 1 g.planes) (leb g.planes 2)) in
    eqb→eq g.depth 1 (both_left z r (both_right h (both z r) (both_right w (both h (both z r)) t)))

-- ---- the theorems

module _ (m : ℕ) (h : m < 2048) (g : WeightGrid) (e : block_mode m ≡ Grid g) where
  read : T (both (in_limits g) (is_mode (flat_mode_of g) m))
  unfolding read_back
  read = rw e at (each (λ m. read_back (block_mode m) m) 2048 test_read m h)

  -- a mode that is a grid has 2 to 12 weights a side, a range of the twelve, and one or two planes
  pub mode_limits : Limits g
  mode_limits = limits g (both_left (in_limits g) (is_mode (flat_mode_of g) m) read)

  pub mode_flat : g.depth ≡ 1
  mode_flat = flat_depth g (both_left (in_limits g) (is_mode (flat_mode_of g) m) read)

  -- and its bits are found again
  pub mode_found : flat_mode_of g ≡ Some m
  mode_found = is_mode_lem (flat_mode_of g) m (both_right (in_limits g) (is_mode (flat_mode_of g) m) read)

past_limits : (g : WeightGrid) → in_limits g ≡ false → flat_mode_of g ≡ None
unfolding flat_mode_of
past_limits g e = rw e

pub never : (m : ℕ) → None ≡ Some m → ⊥
never m e = let z : ◌≡◌ {A = ℕ} 0 1 = cc in omega arith

-- the test over all grids, at one within the limits
written : (g : WeightGrid) → Limits g → g.depth ≡ 1 → T (written_back (flat_mode_of g) g)
written g l one =
    let w = g.width - 2 in let h = g.height - 2 in let r = g.range in let p = g.planes - 1 in
    let t : T (written_back (flat_mode_of (grid (w + 2) (h + 2) r (p + 1))) (grid (w + 2) (h + 2) r (p + 1))) =
    each (λ w. back w h r p) 11
    (each (λ h. all (λ w. back w h r p) 11) 11
    (each (λ r. all (λ h. all (λ w. back w h r p) 11) 11) 12
    (each (λ p. all (λ r. all (λ h. all (λ w. back w h r p) 11) 11) 12) 2 test_written p (omega arith))
    r (omega arith)) h (omega arith)) w (omega arith) in
    subst (λ (k : WeightGrid). T (written_back (flat_mode_of k) k))
    (same_grid (grid (w + 2) (h + 2) r (p + 1)) g (omega arith) (omega arith) (omega (arith, one)) refl (omega arith)) t

-- bits that are found for a grid are a mode that is this grid
pub found_mode : (g : WeightGrid) (m : ℕ) → flat_mode_of g ≡ Some m → (m < 2048) × (block_mode m ≡ Grid g)
unfolding written_back
found_mode g m e = go (in_limits g) refl where
  back : T (both (ltb m 2048) (is_grid (block_mode m) g)) → (m < 2048) × (block_mode m ≡ Grid g)
  back t = (ltb→lt m 2048 (both_left (ltb m 2048) (is_grid (block_mode m) g) t), is_grid_lem (block_mode m) g (both_right (ltb m 2048) (is_grid (block_mode m) g) t))

  go : (b : Bool) → in_limits g ≡ b → (m < 2048) × (block_mode m ≡ Grid g)
  go true i = back (rw e at (written g (limits g (rw i tt)) (flat_depth g (rw i tt))))
  go false i = absurd (never m (sym (past_limits g i) ∙ e))

-- ---- the whole

pub one_mode : OneMode
one_mode = record {
  mode_limits = mode_limits;
  mode_found = mode_found;
  found_mode = found_mode;
  no_mode = λ g n m h e. never m (sym n ∙ mode_found m h g e);
  not_found = not_found;
  one_mode = λ m n g hm hn em en. let a = mode_found m hm g em in let b = mode_found n hn g en in cc;
}
  where
    not_found : (g : WeightGrid) → ((m : ℕ) → m < 2048 → block_mode m ≡ Grid g → ⊥) → flat_mode_of g ≡ None
    not_found g n = go (flat_mode_of g) refl where
      go : (x : Option ℕ) → flat_mode_of g ≡ x → x ≡ None
      go (Some m) e = let f = found_mode g m e in absurd (n m f.0 f.1)
      go None e = refl

-- a field of d + w + p bits is one of the number
pub under : (m d w p : ℕ) → m % 2 ^ (d + w + p) / 2 ^ p % 2 ^ w ≡ m / 2 ^ p % 2 ^ w
under m d w p = ap (λ (x : ℕ). x % 2 ^ w) (Pow.field m (d + w) p) ∙ Pow.mod-mod-pow (m / 2 ^ p) d w

-- only the low eleven bits count
pub low_eleven : (m : ℕ) → block_mode (m % 2048) ≡ block_mode m
unfolding block_mode
low_eleven m =
    rw (under m 2 9 0, under m 9 2 0, under m 7 2 2, under m 6 1 4, under m 4 2 5, under m 2 2 7, under m 3 1 7, under m 2 1 8, under m 1 1 9, under m 0 2 9, under m 0 1 10)

-- so any number whose low bits are a grid is within the limits
pub any_limits : (m : ℕ) (g : WeightGrid) → block_mode m ≡ Grid g → Limits g
any_limits m g e = mode_limits (m % 2048) (mod-lt m (omega arith)) g (low_eleven m ∙ e)
