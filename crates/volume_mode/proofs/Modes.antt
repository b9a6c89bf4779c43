-- The block mode of a volume both ways, by one test over all modes and one over all grids; then that of any block.
-- Assumes nothing.
use Rattle.std.specs.Prelude.{None, Option, Some}
use mathlib.Core.Path.{◌≡◌, refl, subst, sym, ap, ◌∙◌}
use mathlib.Core.Bool.{Bool, true, false, not}
use Prim.Native.Nat.{ℕ, zero, suc, ◌+◌, ◌-◌, ◌*◌, ◌%◌, ◌≤◌, ◌<◌}
use native.Mathlib.Nat.{mod-lt}
use native.Mathlib.Omega.{arith}
use lib.Dec.{T, leb, ltb, eqb, leb→le, ltb→lt, eqb→eq}
use borrow.Author.Tests.{lt-ltb, le-ltb}
use Rattle.laws.specs.Choice.{pick, both, either, all}
use Rattle.laws.proofs.Computed.{both_left, both_right, each}
use Rattle.block_mode.specs.declared.WeightGrid.{WeightGrid}
use Rattle.block_mode.specs.declared.BlockMode.{BlockMode}
use Rattle.block_mode.specs.declared.BlockMode.TheVariants.{VoidExtent, Reserved, Grid}
use Rattle.block_mode.specs.Mode2D.{block_mode}
use Rattle.block_mode.specs.Back2D.{Limits, R21, flat_mode_of}
use Rattle.block_mode.proofs.Modes as flat
use Rattle.block_mode.proofs.Modes.{is_mode, is_grid, is_grid_lem, same_grid, under, never}
use Rattle.volume_mode.specs.Mode3D.{volume_mode}
use Rattle.volume_mode.specs.Back3D.{in_volume, volume_bits, is_low, is_turn, is_double}
use Rattle.volume_mode.specs.inner.Edges.{Edges}
use Rattle.volume_mode.specs.Either.{block_mode_in, is_deep, block_mode_of}
use Rattle.volume_mode.specs.LeastMode.{TwoModes, LeastMode}
use Rattle.volume_mode.proofs.Limits.{edges, edge_limits}

-- ---- tests

-- the answer is a mode not above m, and m itself unless the grid has two
reaches : Option ℕ → WeightGrid → ℕ → Bool
reaches (Some n) g m = both (leb n m) (either (eqb n m) (is_double g))
reaches None g m = false

-- a grid that is read is in its limits, and bits not above those that were read are found for it
read_back : BlockMode → ℕ → Bool
read_back VoidExtent m = true
read_back Reserved m = true
read_back (Grid g) m = both (in_volume g) (reaches (volume_bits g) g m)

-- bits that are written are read as the grid
written_back : Option ℕ → WeightGrid → Bool
written_back (Some m) g = both (ltb m 2048) (is_grid (volume_mode m) g)
written_back None g = true

abbrev grid : ℕ → ℕ → ℕ → ℕ → ℕ → WeightGrid
grid w h d r p = record { width = w; height = h; depth = d; range = r; planes = p }

test_read : T (all (λ m. read_back (volume_mode m) m) 2048)
unfolding read_back reaches volume_mode volume_bits is_double
test_read = tt

-- counted from the smallest grid within the limits
abbrev back : ℕ → ℕ → ℕ → ℕ → ℕ → Bool
back w h d r p = written_back (volume_bits (grid (w + 2) (h + 2) (d + 2) r (p + 1))) (grid (w + 2) (h + 2) (d + 2) r (p + 1))

test_written : T (all (λ p. all (λ r. all (λ d. all (λ h. all (λ w. back w h d r p) 5) 5) 5) 12) 2)
unfolding written_back is_grid volume_mode volume_bits
test_written = tt

-- ---- what the tests say

-- the bits found for a grid: not above m, and m itself unless the grid has two modes
pub record Found (bits : Option ℕ) (double : Bool) (m : ℕ) : Type 0 where
  pub mode : ℕ
  pub is : bits ≡ Some mode
  pub least : mode ≤ m
  pub only : double ≡ false → mode ≡ m

either_left : (a b : Bool) → T (either a b) → b ≡ false → T a
either_left true b t e = tt
either_left false b t e = absurd (subst (λ (c : Bool). T c) e t)

reached : (x : Option ℕ) (g : WeightGrid) (m : ℕ) → T (reaches x g m) → Found x (is_double g) m
unfolding reaches
reached (Some n) g m t = record {
  mode = n;
  is = refl;
  least = leb→le n m (both_left (leb n m) (either (eqb n m) (is_double g)) t);
  only = λ e. eqb→eq n m (either_left (eqb n m) (is_double g) (both_right (leb n m) (either (eqb n m) (is_double g)) t) e);
}
reached None g m t = absurd t

-- ---- a volume's mode

module _ (m : ℕ) (h : m < 2048) (g : WeightGrid) (e : volume_mode m ≡ Grid g) where
  read : T (both (in_volume g) (reaches (volume_bits g) g m))
  unfolding read_back
  read = rw e at (each (λ m. read_back (volume_mode m) m) 2048 test_read m h)

  pub volume_edges : Edges g
  volume_edges = edges g (both_left (in_volume g) (reaches (volume_bits g) g m) read)

  -- bits are found again: the smaller where there are two
  pub volume_found : Found (volume_bits g) (is_double g) m
  volume_found = reached (volume_bits g) g m (both_right (in_volume g) (reaches (volume_bits g) g m) read)

past_limits : (g : WeightGrid) → in_volume g ≡ false → volume_bits g ≡ None
unfolding volume_bits
past_limits g e = rw e

written : (g : WeightGrid) → Edges g → T (written_back (volume_bits g) g)
written g l =
    let w = g.width - 2 in let h = g.height - 2 in let d = g.depth - 2 in let r = g.range in let p = g.planes - 1 in
    let t : T (written_back (volume_bits (grid (w + 2) (h + 2) (d + 2) r (p + 1))) (grid (w + 2) (h + 2) (d + 2) r (p + 1))) =
    each (λ w. back w h d r p) 5
    (each (λ h. all (λ w. back w h d r p) 5) 5
    (each (λ d. all (λ h. all (λ w. back w h d r p) 5) 5) 5
    (each (λ r. all (λ d. all (λ h. all (λ w. back w h d r p) 5) 5) 5) 12
    (each (λ p. all (λ r. all (λ d. all (λ h. all (λ w. back w h d r p) 5) 5) 5) 12) 2 test_written p (omega arith))
    r (omega arith)) d (omega arith)) h (omega arith)) w (omega arith) in
    subst (λ (k : WeightGrid). T (written_back (volume_bits k) k))
    (same_grid (grid (w + 2) (h + 2) (d + 2) r (p + 1)) g (omega arith) (omega arith) (omega arith) refl (omega arith)) t

-- bits that are found for a grid are a mode that is this grid
pub found_volume : (g : WeightGrid) (m : ℕ) → volume_bits g ≡ Some m → (m < 2048) × (volume_mode m ≡ Grid g)
unfolding written_back
found_volume g m e = go (in_volume g) refl where
  back : T (both (ltb m 2048) (is_grid (volume_mode m) g)) → (m < 2048) × (volume_mode m ≡ Grid g)
  back t = (ltb→lt m 2048 (both_left (ltb m 2048) (is_grid (volume_mode m) g) t), is_grid_lem (volume_mode m) g (both_right (ltb m 2048) (is_grid (volume_mode m) g) t))

  go : (b : Bool) → in_volume g ≡ b → (m < 2048) × (volume_mode m ≡ Grid g)
  go true i = back (rw e at (written g (edges g (rw i tt))))
  go false i = absurd (never m (sym (past_limits g i) ∙ e))

-- only the low eleven bits count
pub low_eleven : (m : ℕ) → volume_mode (m % 2048) ≡ volume_mode m
unfolding volume_mode
low_eleven m =
    rw (under m 2 9 0, under m 9 2 0, under m 7 2 2, under m 6 1 4, under m 4 2 5, under m 2 2 7, under m 1 1 9, under m 0 2 9, under m 0 1 10)

-- so many modes below n are not the one that is written for their grid
pub second : BlockMode → ℕ → Bool
second VoidExtent m = false
second Reserved m = false
second (Grid g) m = not (is_mode (volume_bits g) m)

pub count : (ℕ → Bool) → ℕ → ℕ
count f zero = 0
count f (suc n) = count f n + pick (f n) 1 0

-- the doubles are eighteen: three grids in six ranges
pub eighteen : count (λ m. second (volume_mode m) m) 2048 ≡ 18
unfolding count second is_mode volume_mode volume_bits
eighteen = refl

-- ---- any block's mode

-- the grid of a mode has depth 1 in a flat block, 2 to 6 in a volume
pub mode_deep : (volume : Bool) (m : ℕ) → m < 2048 → (g : WeightGrid) → block_mode_in volume m ≡ Grid g → is_deep g ≡ volume
unfolding block_mode_in is_deep
mode_deep true m h g e = lt-ltb 1 g.depth (volume_edges m h g e).depth_low
mode_deep false m h g e = le-ltb 1 g.depth (omega (arith, flat.mode_flat m h g e))

pub mode_limits : (volume : Bool) (m : ℕ) → m < 2048 → (g : WeightGrid) → block_mode_in volume m ≡ Grid g → Limits g
unfolding block_mode_in
mode_limits true m h g e = edge_limits g (volume_edges m h g e)
mode_limits false m h g e = flat.mode_limits m h g e

-- a mode that is a grid has bits found for it: not above it, and its own unless it is a volume's grid with two modes
pub mode_found : (volume : Bool) (m : ℕ) → m < 2048 → (g : WeightGrid) → block_mode_in volume m ≡ Grid g → Found (block_mode_of g) (both volume (is_double g)) m
unfolding block_mode_in block_mode_of
mode_found true m h g e = rw (mode_deep true m h g e) (volume_found m h g e)
mode_found false m h g e =
    rw (mode_deep false m h g e)
    (record { mode = m; is = flat.mode_found m h g e; least = omega arith; only = λ n. refl })

-- bits that are found for a grid are a mode that is this grid
pub found_mode : (g : WeightGrid) (m : ℕ) → block_mode_of g ≡ Some m → (m < 2048) × (block_mode_in (is_deep g) m ≡ Grid g)
unfolding block_mode_in block_mode_of
found_mode g m e = go (is_deep g) refl e where
  go : (b : Bool) → is_deep g ≡ b → pick b (volume_bits g) (flat_mode_of g) ≡ Some m → (m < 2048) × (pick b (volume_mode m) (block_mode m) ≡ Grid g)
  go true i q = found_volume g m q
  go false i q = flat.found_mode g m q

number : Option ℕ → ℕ
number (Some k) = k
number None = 0

mode_number_lem : (a b : ℕ) → Some a ≡ Some b → a ≡ b
unfolding number
mode_number_lem a b p = ap number p

-- so they are the smallest of the modes that are this grid
pub least_mode : (g : WeightGrid) (n : ℕ) → block_mode_of g ≡ Some n → (m : ℕ) → m < 2048 → block_mode_in (is_deep g) m ≡ Grid g → n ≤ m
least_mode g n e m h r =
    let f = mode_found (is_deep g) m h g r in
    let q : f.mode ≡ n = mode_number_lem f.mode n (sym f.is ∙ e) in
    omega (arith, f.least, q)

-- only the low eleven bits of a number count, so any whose low bits are a grid is within the limits
pub any_limits : (volume : Bool) (m : ℕ) (g : WeightGrid) → block_mode_in volume m ≡ Grid g → Limits g
unfolding block_mode_in
any_limits true m g e = mode_limits true (m % 2048) (mod-lt m (omega arith)) g (low_eleven m ∙ e)
any_limits false m g e = flat.any_limits m g e

-- where no bits are found, no mode is this grid
pub no_mode : (volume : Bool) (g : WeightGrid) → block_mode_of g ≡ None → (m : ℕ) → m < 2048 → block_mode_in volume m ≡ Grid g → ⊥
no_mode volume g n m h e = let f = mode_found volume m h g e in never f.mode (sym n ∙ f.is)

-- and where no mode is this grid, none are found
not_found : (g : WeightGrid) → ((m : ℕ) → m < 2048 → block_mode_in (is_deep g) m ≡ Grid g → ⊥) → block_mode_of g ≡ None
not_found g h = go (block_mode_of g) refl where
  go : (x : Option ℕ) → block_mode_of g ≡ x → x ≡ None
  go None e = refl
  go (Some m) e = let f = found_mode g m e in absurd (h m f.0 f.1)

-- ---- grids with two modes

-- the axis of six weights, and the mode that is not written: that axis in bits 6..5, bits 8..7 set
unfoldable axis_of : WeightGrid → ℕ
axis_of g = pick (eqb g.width 6) 0 (pick (eqb g.height 6) 1 2)

unfoldable other_of : WeightGrid → ℕ
unfolding axis_of
other_of g = 4 * R21 g + 16 * (g.range % 2) + 384 + 32 * axis_of g

-- the answer is a mode below the other, and both are read as the grid
paired : Option ℕ → WeightGrid → Bool
paired (Some n) g = both (ltb n (other_of g)) (both (ltb (other_of g) 2048) (both (is_grid (volume_mode n) g) (is_grid (volume_mode (other_of g)) g)))
paired None g = false

test_paired : (a b c : ℕ) → Bool
test_paired a b c = all (λ r. paired (volume_bits (grid a b c r 1)) (grid a b c r 1)) 6

wide : T (test_paired 6 2 2)
unfolding test_paired paired other_of is_grid volume_mode volume_bits
wide = tt

high : T (test_paired 2 6 2)
unfolding test_paired paired other_of is_grid volume_mode volume_bits
high = tt

deep : T (test_paired 2 2 6)
unfolding test_paired paired other_of is_grid volume_mode volume_bits
deep = tt

-- a mode that is a grid with two is one of them
one_of_two : BlockMode → ℕ → Bool
one_of_two VoidExtent m = true
one_of_two Reserved m = true
one_of_two (Grid g) m = either (not (is_double g)) (either (is_mode (volume_bits g) m) (eqb m (other_of g)))

test_two : T (all (λ m. one_of_two (volume_mode m) m) 2048)
unfolding one_of_two other_of is_mode volume_mode volume_bits is_double
test_two = tt

either_right : (a b : Bool) → T (either a b) → a ≡ false → T b
either_right a b t e = rw e at t

-- "6x2x2 and its turns", as facts
is_turn_lem : (a b c : ℕ) → T (is_turn a b c) → (a ≡ 6) × ((b ≡ 2) × (c ≡ 2))
is_turn_lem a b c t =
    let u = both_right (eqb a 6) (both (eqb b 2) (eqb c 2)) t in
    (eqb→eq a 6 (both_left (eqb a 6) (both (eqb b 2) (eqb c 2)) t), (eqb→eq b 2 (both_left (eqb b 2) (eqb c 2) u), eqb→eq c 2 (both_right (eqb b 2) (eqb c 2) u)))

turned : (g : WeightGrid) (a b c : ℕ) → T (test_paired a b c) → g.width ≡ a → g.height ≡ b → g.depth ≡ c → g.range < 6 → g.planes ≡ 1
    → T (paired (volume_bits g) g)
unfolding test_paired
turned g a b c t w h d r p =
    subst (λ (k : WeightGrid). T (paired (volume_bits k) k)) (same_grid (grid a b c g.range 1) g (sym w) (sym h) (sym d) refl (sym p))
    (each (λ r. paired (volume_bits (grid a b c r 1)) (grid a b c r 1)) 6 t g.range r)

module _ (g : WeightGrid) (double : is_double g ≡ true) where
  turns : Bool
  turns = either (is_turn g.width g.height g.depth) (either (is_turn g.height g.width g.depth) (is_turn g.depth g.width g.height))

  parts : T (both (is_low g) turns)
  unfolding turns is_double
  parts = subst (λ (b : Bool). T b) (sym double) tt

  low : T (is_low g)
  low = both_left (is_low g) turns parts

  pairing : T (paired (volume_bits g) g)
  unfolding turns
  pairing =
      let r : g.range < 6 = ltb→lt g.range 6 (both_left (ltb g.range 6) (eqb g.planes 1) low) in
      let p : g.planes ≡ 1 = eqb→eq g.planes 1 (both_right (ltb g.range 6) (eqb g.planes 1) low) in
      by r p (is_turn g.width g.height g.depth) refl (is_turn g.height g.width g.depth) refl (both_right (is_low g) turns parts) where
        by : g.range < 6 → g.planes ≡ 1 → (a : Bool) → is_turn g.width g.height g.depth ≡ a → (b : Bool) → is_turn g.height g.width g.depth ≡ b
            → T (either a (either b (is_turn g.depth g.width g.height))) → T (paired (volume_bits g) g)
        by r p true e b f t = let k = is_turn_lem _ _ _ (subst (λ (b : Bool). T b) (sym e) tt) in turned g 6 2 2 wide k.0 k.1.0 k.1.1 r p
        by r p false e true f t = let k = is_turn_lem _ _ _ (subst (λ (b : Bool). T b) (sym f) tt) in turned g 2 6 2 high k.1.0 k.0 k.1.1 r p
        by r p false e false f t = let k = is_turn_lem _ _ _ t in turned g 2 2 6 deep k.1.0 k.1.1 k.0 r p

  two_of : (x : Option ℕ) → volume_bits g ≡ x → T (paired x g) → TwoModes g
  unfolding paired one_of_two is_mode block_mode_in block_mode_of
  two_of None e t = absurd t
  two_of (Some n) e t =
      let m = other_of g in
      let t1 = both_right (ltb n m) (both (ltb m 2048) (both (is_grid (volume_mode n) g) (is_grid (volume_mode m) g))) t in
      let t2 = both_right (ltb m 2048) (both (is_grid (volume_mode n) g) (is_grid (volume_mode m) g)) t1 in
      let lt : n < m = ltb→lt n m (both_left (ltb n m) (both (ltb m 2048) (both (is_grid (volume_mode n) g) (is_grid (volume_mode m) g))) t) in
      let w : m < 2048 = ltb→lt m 2048 (both_left (ltb m 2048) (both (is_grid (volume_mode n) g) (is_grid (volume_mode m) g)) t1) in
      let first : volume_mode n ≡ Grid g = is_grid_lem (volume_mode n) g (both_left (is_grid (volume_mode n) g) (is_grid (volume_mode m) g) t2) in
      let second : volume_mode m ≡ Grid g = is_grid_lem (volume_mode m) g (both_right (is_grid (volume_mode n) g) (is_grid (volume_mode m) g) t2) in
      let deeper : is_deep g ≡ true = mode_deep true m w g second in
      record {
        smaller = n;
        larger = m;
        found = rw deeper e;
        order = lt;
        within = w;
        smaller_is = first;
        larger_is = second;
        no_other = λ k h q other.
            let u : T (either (not (is_double g)) (either (is_mode (volume_bits g) k) (eqb k m))) = rw q at (each (λ m. one_of_two (volume_mode m) m) 2048 test_two k h) in
            let v : T (either (is_mode (volume_bits g) k) (eqb k m)) = either_right (not (is_double g)) (either (is_mode (volume_bits g) k) (eqb k m)) u (ap not double) in
            eqb→eq k m (either_right (is_mode (volume_bits g) k) (eqb k m) v (ap (λ (x : Option ℕ). is_mode x k) e ∙ apart k (eqb n k) refl other));
      } where
        apart : (k : ℕ) → (b : Bool) → eqb n k ≡ b → (k ≡ n → ⊥) → eqb n k ≡ false
        apart k true q other = absurd (other (sym (eqb→eq n k (subst (λ (b : Bool). T b) (sym q) tt))))
        apart k false q other = q

  two_modes : TwoModes g
  two_modes = two_of (volume_bits g) refl pairing

-- ---- the whole

pub least : LeastMode
least = record {
  mode_deep = mode_deep;
  found_mode = found_mode;
  least_mode = least_mode;
  only_mode = λ volume m h g e n. let f = mode_found volume m h g e in f.is ∙ ap Some (f.only n);
  two_modes = two_modes;
  no_mode = no_mode;
  not_found = not_found;
}
