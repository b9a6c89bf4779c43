-- The refusals of a volume picture call one by one, and what holds once none does: no count wraps.
-- Assumes nothing.
use mathlib.Core.Path.{◌≡◌, refl, sym, ◌∙◌, subst}
use mathlib.Core.Bool.{Bool, true, false, true≢false}
use Prim.Native.Nat.{ℕ, ◌*◌, ◌≤◌, ◌<◌}
use native.Mathlib.Nat.{mul-le-mul}
use native.Mathlib.Decide.{dec_le, dec_lt, ℕ_discrete}
use native.Mathlib.Omega.{arith}
use borrow.Author.Tests.{eq-eqb, ne_eqb, lt-ltb, le-ltb}
use Rattle.laws.specs.Choice.{either}
use Rattle.footprint.specs.Footprint.{footprints, width_of, height_of, depth_of}
use Rattle.footprint.proofs.Laws.{bounds, flat_bounds, flat_depth, volume_depth, texels_le}
use Rattle.block_core.proofs.Frames.{texels_by_layers}
use Rattle.image_size.specs.Sides.{bad_side, blocks_across}
use Rattle.image_size.proofs.Laws.{limit_le, within_limit, side_fine, across_le, across_pos}
use Rattle.volume_layout.specs.declared.VolumeGrid.{VolumeGrid}
use Rattle.volume_layout.specs.Numbers.{texels_in}
use Rattle.volume_layout.specs.Call.{depth_limit, bad_depth, bad_sizes, blocks_of, volume_refusal}
use Rattle.volume_layout.specs.inner.Grid.{volume_grid}
use Rattle.volume_layout.specs.Sizes.{NeverWraps}
use Rattle.volume_layout.specs.inner.Parts.{SoundGrid}
use Rattle.image_layout.proofs.Sizes.{across_most}

-- ---- sizes that are not refused

pub depth_le : depth_limit ≤ 2048
unfolding depth_limit
depth_le = omega arith

pub depth_fine : (n : ℕ) → bad_depth n ≡ false → (0 < n) × (n ≤ depth_limit)
unfolding bad_depth
depth_fine n = within_limit depth_limit n

-- sides and depth of an accepted volume
pub record Sized (w h d : ℕ) : Type 0 where
  pub width_least : 0 < w
  pub width_most : w ≤ 16384
  pub height_least : 0 < h
  pub height_most : h ≤ 16384
  pub depth_least : 0 < d
  pub depth_most : d ≤ 2048

three_no : (a b c : Bool) → either a (either b c) ≡ false → (a ≡ false) × (b ≡ false) × (c ≡ false)
three_no true b c e = absurd (true≢false e)
three_no false true c e = absurd (true≢false e)
three_no false false true e = absurd (true≢false e)
three_no false false false e = (refl, refl, refl)

pub sized : (w h d : ℕ) → bad_sizes w h d ≡ false → Sized w h d
unfolding bad_sizes
sized w h d e =
    let k = three_no (bad_side w) (bad_side h) (bad_depth d) e in
    let x = side_fine w k.0 in
    let y = side_fine h k.1 in
    let z = depth_fine d k.2 in
    let l = limit_le in
    let m = depth_le in
    record { width_least = x.0; width_most = omega arith; height_least = y.0; height_most = omega arith; depth_least = z.0; depth_most = omega arith }

-- ---- the refusals in their order

module _ (fp w h d bytes places : ℕ) where
  pub refused_1 : 23 < fp → volume_refusal fp w h d bytes places ≡ 1
  unfolding volume_refusal
  refused_1 a = rw (lt-ltb 23 fp a)

  module _ (a : fp ≤ 23) where
    pub refused_3 : bad_sizes w h d ≡ true → volume_refusal fp w h d bytes places ≡ 3
    unfolding volume_refusal
    refused_3 b = rw (le-ltb 23 fp a, b)

    module _ (b : bad_sizes w h d ≡ false) where
      pub refused_4 : (bytes ≡ 16 * blocks_of fp w h d → ⊥) → volume_refusal fp w h d bytes places ≡ 4
      unfolding volume_refusal
      refused_4 c = rw (le-ltb 23 fp a, b, ne_eqb bytes (16 * blocks_of fp w h d) c)

      module _ (c : bytes ≡ 16 * blocks_of fp w h d) where
        pub refused_5 : (places ≡ 4 * texels_in w h d → ⊥) → volume_refusal fp w h d bytes places ≡ 5
        unfolding volume_refusal
        refused_5 e = rw (le-ltb 23 fp a, b, eq-eqb bytes (16 * blocks_of fp w h d) c, ne_eqb places (4 * texels_in w h d) e)

        pub refused_none : places ≡ 4 * texels_in w h d → volume_refusal fp w h d bytes places ≡ 0
        unfolding volume_refusal
        refused_none e = rw (le-ltb 23 fp a, b, eq-eqb bytes (16 * blocks_of fp w h d) c, eq-eqb places (4 * texels_in w h d) e)

-- ---- counts

pub sound : (fp w h d : ℕ) → fp < 24 → bad_sizes w h d ≡ false → SoundGrid (volume_grid fp w h d)
unfolding volume_grid
sound fp w h d f e =
    let s = sized w h d e in
    let b = bounds fp f in
    let p : 0 < width_of fp = let z = b.width_least in omega arith in
    let q : 0 < height_of fp = let z = b.height_least in omega arith in
    let r : 0 < depth_of fp = let z = b.depth_least in omega arith in
    record {
      footprint = f;
      width_least = s.width_least;
      width_most = s.width_most;
      height_least = s.height_least;
      height_most = s.height_most;
      depth_least = s.depth_least;
      depth_most = s.depth_most;
      columns = refl;
      columns_least = p;
      columns_most = b.width_most;
      rows = refl;
      rows_least = q;
      rows_most = b.height_most;
      layers = refl;
      layers_least = r;
      layers_most = b.depth_most;
      room = subst (λ (n : ℕ). n ≤ 216) (texels_by_layers fp) (texels_le fp);
      across = refl;
      across_least = across_pos w (width_of fp) p s.width_least;
      across_most = omega (arith, across_le w (width_of fp) p, s.width_most);
      down = refl;
      down_least = across_pos h (height_of fp) q s.height_least;
      down_most = omega (arith, across_le h (height_of fp) q, s.height_most);
      deep = refl;
      deep_most = omega (arith, across_le d (depth_of fp) r, s.depth_most);
    }

pub three : (a b c k m n : ℕ) → a ≤ k → b ≤ m → c ≤ n → a * b * c ≤ k * m * n
three a b c k m n p q r = mul-le-mul (mul-le-mul p q) r

-- products of a layout, as the code makes them
pub record Products (g : VolumeGrid) : Type 0 where
  pub rows : g.deep * g.down ≤ 2048 * 16384
  pub blocks : g.deep * g.down * g.across ≤ 2048 * 16384 * 16384

pub products : (g : VolumeGrid) → SoundGrid g → Products g
products g s = record {
  rows = mul-le-mul s.deep_most s.down_most;
  blocks = three g.deep g.down g.across 2048 16384 16384 s.deep_most s.down_most s.across_most;
}

-- ---- no count wraps

blocks_most : (fp w h d : ℕ) → fp < 24 → bad_sizes w h d ≡ false → blocks_of fp w h d ≤ 34359738368
unfolding blocks_of
blocks_most fp w h d f e =
    let s = sized w h d e in
    let b = bounds fp f in
    let x = s.width_most in
    let y = s.height_most in
    let z = s.depth_most in
    let u = b.width_least in
    let v = b.height_least in
    elim (dec_lt fp 14) [
      | yes p ↦
          let m = flat_bounds fp p in
          let i = m.width_least in
          let j = m.height_least in
          let t = flat_depth fp p in
          let r = three (blocks_across d (depth_of fp)) (blocks_across h (height_of fp)) (blocks_across w (width_of fp)) 2048 4096 4096 (across_most d (depth_of fp) 2048 (omega arith) (omega arith))
          (across_most h (height_of fp) 4096 (omega arith) (omega arith)) (across_most w (width_of fp) 4096 (omega arith) (omega arith)) in
          omega arith
      | no p ↦
          let t = volume_depth fp (omega arith) f in
          let r = three (blocks_across d (depth_of fp)) (blocks_across h (height_of fp)) (blocks_across w (width_of fp)) 683 5462 5462 (across_most d (depth_of fp) 683 (omega arith) (omega arith))
          (across_most h (height_of fp) 5462 (omega arith) (omega arith)) (across_most w (width_of fp) 5462 (omega arith) (omega arith)) in
          omega arith
    ]

texels_most : (w h d : ℕ) → bad_sizes w h d ≡ false → texels_in w h d ≤ 549755813888
unfolding texels_in
texels_most w h d e =
    let s = sized w h d e in
    let r = three d h w 2048 16384 16384 s.depth_most s.height_most s.width_most in
    omega arith

blocks_there : blocks_of 0 16384 16384 2048 ≡ 34359738368
unfolding blocks_of blocks_across width_of height_of depth_of footprints
blocks_there = refl

texels_there : texels_in 16384 16384 2048 ≡ 549755813888
unfolding texels_in
texels_there = refl

pub never_wraps : NeverWraps
never_wraps = record { blocks = blocks_most; texels = texels_most; blocks_reached = blocks_there; texels_reached = texels_there }

-- the counts of a layout are the volume's
module _ (fp w h d : ℕ) {g : VolumeGrid} (e : g ≡ volume_grid fp w h d) where
  pub block_count : {r : ℕ} → r ≡ g.deep * g.down * g.across → r ≡ blocks_of fp w h d
  unfolding blocks_of volume_grid
  block_count k = rw (k, e)

  pub texel_count : {r : ℕ} → r ≡ g.depth * g.height * g.width → r ≡ texels_in w h d
  unfolding texels_in volume_grid
  texel_count k = rw (k, e)

-- ---- what an accepted call is

by_bool : {X : Type 0} (b : Bool) → (b ≡ true → X) → (b ≡ false → X) → X
by_bool true f g = f refl
by_bool false f g = g refl

-- an accepted call
pub record Accept (fp w h d bytes places : ℕ) : Type 0 where
  pub footprint : fp < 24
  pub sizes : bad_sizes w h d ≡ false
  pub exact_bytes : bytes ≡ 16 * blocks_of fp w h d
  pub exact_places : places ≡ 4 * texels_in w h d

pub accept : (fp w h d bytes places : ℕ) → volume_refusal fp w h d bytes places ≡ 0 → Accept fp w h d bytes places
accept fp w h d n m z =
    elim (dec_le fp 23) [
      | no p ↦ absurd (let k : ◌≡◌ {A = ℕ} 1 0 = sym (refused_1 fp w h d n m (omega arith)) ∙ z in omega arith)
      | yes a ↦
          by_bool (bad_sizes w h d) (λ p. absurd (let k : ◌≡◌ {A = ℕ} 3 0 = sym (refused_3 fp w h d n m a p) ∙ z in omega arith))
          (λ b. elim (ℕ_discrete n (16 * blocks_of fp w h d)) [
            | no p ↦ absurd (let k : ◌≡◌ {A = ℕ} 4 0 = sym (refused_4 fp w h d n m a b p) ∙ z in omega arith)
            | yes c ↦ elim (ℕ_discrete m (4 * texels_in w h d)) [
              | no p ↦ absurd (let k : ◌≡◌ {A = ℕ} 5 0 = sym (refused_5 fp w h d n m a b c p) ∙ z in omega arith)
              | yes e ↦ record { footprint = omega arith; sizes = b; exact_bytes = c; exact_places = e }
            ]
          ])
    ]

module _ (fp w h d bytes places : ℕ) where
  pub record Passed (g : VolumeGrid) : Type 0 where
    pub is_sound : SoundGrid g
    pub exact_bytes : bytes ≡ 16 * (g.deep * g.down * g.across)
    pub exact_places : places ≡ 4 * (g.depth * g.height * g.width)

  pub passed : (g : VolumeGrid) → volume_refusal fp w h d bytes places ≡ 0 → g ≡ volume_grid fp w h d → Passed g
  unfolding volume_grid blocks_of texels_in
  passed g z r =
      let a = accept fp w h d bytes places z in
      record {
        is_sound = rw r (sound fp w h d a.footprint a.sizes);
        exact_bytes = rw r a.exact_bytes;
        exact_places = rw r a.exact_places;
      }
