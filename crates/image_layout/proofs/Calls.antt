-- The refusals of an image call one by one, what holds once none does, and the answer and the buffer in each case.
-- Assumes nothing.
use mathlib.Core.Path.{◌≡◌, refl, sym, ap, ◌∙◌}
use mathlib.Core.Bool.{Bool, true, false}
use mathlib.Core.List.{List}
use Prim.Native.Nat.{ℕ, ◌*◌, ◌≤◌, ◌<◌}
use native.Mathlib.Decide.{dec_le, ℕ_discrete}
use native.Mathlib.Omega.{arith}
use lib.Dec.{ltb}
use lib.ListN.{length}
use borrow.Author.Tests.{eq-eqb, ne_eqb, lt-ltb, le-ltb}
use Rattle.std.specs.Prelude.{Result, Ok, Err}
use Rattle.laws.specs.Choice.{pick, either}
use Rattle.reason.specs.declared.Refusal.{Refusal}
use Rattle.reason.specs.Numbers.{refusal_number}
use Rattle.reason.proofs.Told.{refusal_some}
use Rattle.footprint.specs.Footprint.{width_of, height_of}
use Rattle.footprint.proofs.Laws.{flat_bounds}
use Rattle.interpolation.specs.declared.Kind.{Kind}
use Rattle.block_reading.specs.declared.Reading.{Reading}
use Rattle.image_layout.specs.declared.ImageGrid.{ImageGrid}
use Rattle.image_layout.specs.declared.Tally.{Tally}
use Rattle.image_layout.specs.inner.Grid.{image_grid}
use Rattle.image_size.specs.Sides.{blocks_across, blocks_of, bad_side, size_refusal}
use Rattle.image_layout.specs.Numbers.{fault_at_in, image_numbers_in}
use Rattle.image_layout.specs.Faulty.{tally_of}
use Rattle.image_layout.specs.Call.{image_refusal, image_tally_in, image_answer_in, image_out_in, told_of, image_told_in}
use Rattle.image_size.proofs.Laws.{limit_le, sized, side_fine, across_covers, across_le, across_pos}
use Rattle.picture_regions.proofs.Covering.{mul_bound}
use Rattle.picture_regions.proofs.Blocks.{Covered}
use Rattle.image_layout.specs.inner.Rows.{flat_picture}
use Rattle.image_layout.specs.inner.Parts.{SoundGrid}

-- ---- the refusals in their order

module _ (fp w h bytes places : ℕ) where
  pub refused_1 : 13 < fp → image_refusal fp w h bytes places ≡ 1
  unfolding image_refusal
  refused_1 a = rw (lt-ltb 13 fp a)

  module _ (a : fp ≤ 13) where
    pub refused_3w : bad_side w ≡ true → image_refusal fp w h bytes places ≡ 3
    unfolding image_refusal
    refused_3w b = rw (le-ltb 13 fp a, b)

    module _ (b : bad_side w ≡ false) where
      pub refused_3h : bad_side h ≡ true → image_refusal fp w h bytes places ≡ 3
      unfolding image_refusal
      refused_3h c = rw (le-ltb 13 fp a, b, c)

      module _ (c : bad_side h ≡ false) where
        pub refused_4 : (bytes ≡ 16 * blocks_of fp w h → ⊥) → image_refusal fp w h bytes places ≡ 4
        unfolding image_refusal
        refused_4 d = rw (le-ltb 13 fp a, b, c, ne_eqb bytes (16 * blocks_of fp w h) d)

        module _ (d : bytes ≡ 16 * blocks_of fp w h) where
          pub refused_5 : (places ≡ 4 * (h * w) → ⊥) → image_refusal fp w h bytes places ≡ 5
          unfolding image_refusal
          refused_5 e = rw (le-ltb 13 fp a, b, c, eq-eqb bytes (16 * blocks_of fp w h) d, ne_eqb places (4 * (h * w)) e)

          pub refused_none : places ≡ 4 * (h * w) → image_refusal fp w h bytes places ≡ 0
          unfolding image_refusal
          refused_none e = rw (le-ltb 13 fp a, b, c, eq-eqb bytes (16 * blocks_of fp w h) d, eq-eqb places (4 * (h * w)) e)

-- ---- what holds past the refusals

pub sound : (fp w h : ℕ) → fp < 14 → bad_side w ≡ false → bad_side h ≡ false → SoundGrid (image_grid fp w h)
unfolding image_grid
sound fp w h f a b =
    let s = flat_bounds fp f in
    let x = side_fine w a in
    let y = side_fine h b in
    let l = limit_le in
    let p : 0 < width_of fp = let z = s.width_least in omega arith in
    let q : 0 < height_of fp = let z = s.height_least in omega arith in
    record {
      footprint = f;
      width_least = x.0;
      width_most = omega arith;
      height_least = y.0;
      height_most = omega arith;
      columns = refl;
      columns_least = p;
      columns_most = s.width_most;
      rows = refl;
      rows_least = q;
      rows_most = s.height_most;
      across = refl;
      across_least = across_pos w (width_of fp) p x.0;
      across_most = omega (arith, across_le w (width_of fp) p);
      down = refl;
      down_most = omega (arith, across_le h (height_of fp) q);
    }

-- its blocks cover it
pub covered : (g : ImageGrid) → SoundGrid g → Covered (flat_picture g)
covered g s = record {
  width_least = s.width_least;
  columns_least = s.columns_least;
  across = s.across;
  row_lt = λ y h. rw s.down (across_covers g.height g.rows y s.rows_least h);
}

-- how large an image is
pub record Sizes (g : ImageGrid) : Type 0 where
  pub blocks : g.down * g.across ≤ 16384 * 16384
  pub texels : g.height * g.width ≤ 16384 * 16384

pub sizes : (g : ImageGrid) → SoundGrid g → Sizes g
sizes g s = record {
  blocks = mul_bound g.down g.across 16384 16384 s.down_most s.across_most;
  texels = mul_bound g.height g.width 16384 16384 s.height_most s.width_most;
}

by_bool : {X : Type 0} (b : Bool) → (b ≡ true → X) → (b ≡ false → X) → X
by_bool true f g = f refl
by_bool false f g = g refl

-- an accepted call
pub record Accept (fp w h bytes places : ℕ) : Type 0 where
  pub footprint : fp < 14
  pub width : bad_side w ≡ false
  pub height : bad_side h ≡ false
  pub exact_bytes : bytes ≡ 16 * blocks_of fp w h
  pub exact_places : places ≡ 4 * (h * w)

pub accept : (fp w h bytes places : ℕ) → image_refusal fp w h bytes places ≡ 0 → Accept fp w h bytes places
accept fp w h n m z =
    elim (dec_le fp 13) [
      | no p ↦ absurd (let k : ◌≡◌ {A = ℕ} 1 0 = sym (refused_1 fp w h n m (omega arith)) ∙ z in omega arith)
      | yes a ↦
          by_bool (bad_side w) (λ p. absurd (let k : ◌≡◌ {A = ℕ} 3 0 = sym (refused_3w fp w h n m a p) ∙ z in omega arith))
          (λ b. by_bool (bad_side h) (λ p. absurd (let k : ◌≡◌ {A = ℕ} 3 0 = sym (refused_3h fp w h n m a b p) ∙ z in omega arith))
          (λ c. elim (ℕ_discrete n (16 * blocks_of fp w h)) [
            | no p ↦ absurd (let k : ◌≡◌ {A = ℕ} 4 0 = sym (refused_4 fp w h n m a b c p) ∙ z in omega arith)
            | yes d ↦ elim (ℕ_discrete m (4 * (h * w))) [
              | no p ↦ absurd (let k : ◌≡◌ {A = ℕ} 5 0 = sym (refused_5 fp w h n m a b c d p) ∙ z in omega arith)
              | yes e ↦ record { footprint = omega arith; width = b; height = c; exact_bytes = d; exact_places = e }
            ]
          ]))
    ]

-- ---- the first stage

-- the products of a layout do not wrap
pub small : (fp w h : ℕ) → 0 ≡ size_refusal fp w h → (g : ImageGrid) → g ≡ image_grid fp w h → Sizes g
small fp w h z g l = let k = sized fp w h (sym z) in rw l (sizes _ (sound fp w h (let f = k.footprint in omega arith) k.wide k.high))

module _ (fp w h bytes places : ℕ) where
  -- the refusals of the sides come first
  pub by_size : (n : ℕ) → 0 < n → n ≡ size_refusal fp w h → n ≡ image_refusal fp w h bytes places
  unfolding size_refusal image_refusal
  by_size n p e = e ∙ go (ltb 13 fp) (either (bad_side w) (bad_side h)) _ (rw (← e) p)
    where
      go : (a b : Bool) (rest : ℕ) → 0 < pick a 1 (pick b 3 0) → ◌≡◌ {A = ℕ} (pick a 1 (pick b 3 0)) (pick a 1 (pick b 3 rest))
      go true b rest l = refl
      go false true rest l = refl
      go false false rest l = absurd (omega arith)

  -- what is known of an image whose sides are taken
  module _ (z : 0 ≡ size_refusal fp w h) (g : ImageGrid) (l : g ≡ image_grid fp w h) where
    pub wrong_bytes : (bytes ≡ 16 * (g.down * g.across) → ⊥) → 4 ≡ image_refusal fp w h bytes places
    unfolding image_grid blocks_of
    wrong_bytes n = let k = sized fp w h (sym z) in sym (refused_4 fp w h bytes places k.footprint k.wide k.high (λ e. n (rw l e)))

    pub wrong_places : bytes ≡ 16 * (g.down * g.across) → (places ≡ 4 * (g.height * g.width) → ⊥) → 5 ≡ image_refusal fp w h bytes places
    unfolding image_grid blocks_of
    wrong_places e n = let k = sized fp w h (sym z) in sym (refused_5 fp w h bytes places k.footprint k.wide k.high (rw l at e) (λ e. n (rw l e)))

    pub right : bytes ≡ 16 * (g.down * g.across) → places ≡ 4 * (g.height * g.width) → image_refusal fp w h bytes places ≡ 0
    unfolding image_grid blocks_of
    right e p = let k = sized fp w h (sym z) in refused_none fp w h bytes places k.footprint k.wide k.high (rw l at e) (rw l at p)

  pub record Passed (g : ImageGrid) : Type 0 where
    pub is_sound : SoundGrid g
    pub exact_bytes : bytes ≡ 16 * (g.down * g.across)
    pub exact_places : places ≡ 4 * (g.height * g.width)

  pub passed : (g : ImageGrid) → image_refusal fp w h bytes places ≡ 0 → g ≡ image_grid fp w h → Passed g
  unfolding image_grid blocks_of
  passed g z r =
      let a = accept fp w h bytes places z in
      record {
        is_sound = rw r (sound fp w h a.footprint a.width a.height);
        exact_bytes = rw r a.exact_bytes;
        exact_places = rw r a.exact_places;
      }

-- ---- the answer, the numbers told of it, and the buffer

-- the answer tells these numbers
pub answer_told : (reading : Reading) (fp : ℕ) (kind : Kind) (w h : ℕ) (s : List ℕ) (places : ℕ) (r : Result Tally Refusal)
    → image_answer_in reading fp kind w h s places r → told_of r ≡ image_told_in reading fp kind w h s places
unfolding image_told_in
answer_told reading fp kind w h s places (Ok t) e = rw (e.0, e.1)
answer_told reading fp kind w h s places (Err refusal) e = rw (← e, ne_eqb (refusal_number refusal) 0 (λ z. let p = refusal_some refusal in omega arith))

-- what a call promises: its answer, the numbers told of it, and the buffer
pub record Promised (reading : Reading) (fp : ℕ) (kind : Kind) (w h : ℕ) (s old : List ℕ) (r : Result Tally Refusal) (new : List ℕ) : Type 0 where
  pub answer : image_answer_in reading fp kind w h s (length old) r
  pub told : told_of r ≡ image_told_in reading fp kind w h s (length old)
  pub image : new ≡ image_out_in reading fp kind w h s old

module _ (reading : Reading) (fp : ℕ) (kind : Kind) (w h : ℕ) (s old : List ℕ) where
  -- a refused call: its number, and the buffer as it was
  pub refused : (refusal : Refusal) → refusal_number refusal ≡ image_refusal fp w h (length s) (length old) → Promised reading fp kind w h s old (Err refusal) old
  unfolding image_out_in
  refused refusal e = record {
    answer = e;
    told = answer_told reading fp kind w h s (length old) (Err refusal) e;
    image = rw (← e, ne_eqb (refusal_number refusal) 0 (λ z. let p = refusal_some refusal in omega arith));
  }

  -- an accepted one
  pub decoded_out : image_refusal fp w h (length s) (length old) ≡ 0 → image_numbers_in reading fp kind w h s ≡ image_out_in reading fp kind w h s old
  unfolding image_out_in
  decoded_out z = rw z refl

  pub decoded : (g : ImageGrid) (t : Tally) (new : List ℕ) → image_refusal fp w h (length s) (length old) ≡ 0 → g ≡ image_grid fp w h
      → t ≡ tally_of (fault_at_in reading g.footprint kind s) (g.down * g.across) → new ≡ image_numbers_in reading g.footprint kind g.width g.height s
      → Promised reading fp kind w h s old (Ok t) new
  unfolding image_tally_in image_grid blocks_of
  decoded g t new z l e n =
      let a : image_answer_in reading fp kind w h s (length old) (Ok t) = (z, rw l at e) in
      record { answer = a; told = answer_told reading fp kind w h s (length old) (Ok t) a; image = (rw l at n) ∙ decoded_out z }
