-- The refusals one by one, and blocks that are stored one after the other.
-- Assumes nothing.
use mathlib.Core.Path.{◌≡◌, refl, sym, ap, ◌∙◌}
use mathlib.Core.Bool.{Bool, true, false, not}
use mathlib.Core.List.{List}
use Prim.Native.Nat.{ℕ, ◌+◌, ◌-◌, ◌*◌, ◌/◌, ◌%◌, ◌≤◌, ◌<◌, min}
use native.Mathlib.Decide.{dec_lt}
use native.Mathlib.Nat.{div-lt_iff_lt-mul, mod-lt, zero-add}
use native.Mathlib.Omega.{arith}
use lib.Dec.{eqb}
use lib.ListN.{length, get_or}
use lib.Seq.{ext_get_or}
use borrow.Author.Tests.{eq-eqb, ne_eqb, eqb-true}
use Rattle.laws.specs.Choice.{pick, either}
use Rattle.laws.specs.Table.{tab}
use Rattle.laws.specs.inner.Filled.{Filled}
use Rattle.laws.proofs.Filling.{Filling, filled_all}
use Rattle.laws.proofs.Reasons.{none_either}
use Rattle.image_size.specs.Sides.{bad_side, size_refusal, blocks_across, blocks_of}
use Rattle.image_size.proofs.Laws.{limit_le, side_fine, sized, across_inside, across_pos, product_most}
use Rattle.picture_regions.proofs.Covering.{below_row}
use Rattle.footprint.specs.Footprint.{footprints, width_of, height_of}
use Rattle.grey_caption.specs.Caption.{footprint, caption_of}
use Rattle.caption_image.specs.Image.{caption_image_refusal, wanted_at, wanted_of, caption_blocks, caption_image_out, caption_block_refusal, caption_block_out}
use Rattle.caption_image.specs.inner.Places.{Lent}
use Rattle.block_store.specs.inner.Places.{Put}

-- ---- refusals

module _ (w h bytes greys : ℕ) where
  pub refused_3 : (size_refusal footprint w h ≡ 0 → ⊥) → 3 ≡ caption_image_refusal w h bytes greys
  unfolding caption_image_refusal size_refusal
  refused_3 n = go (either (bad_side w) (bad_side h)) n where
    go : (b : Bool) → (◌≡◌ {A = ℕ} (pick b 3 0) 0 → ⊥) → ◌≡◌ {A = ℕ} 3 (pick b 3 (pick (not (eqb bytes (16 * blocks_of footprint w h))) 4 (pick (not (eqb greys (h * w))) 5 0)))
    go true n = refl
    go false n = absurd (n refl)

  -- the same of the number that a refused size has
  pub refused_size : (n : ℕ) → 0 < n → n ≡ size_refusal footprint w h → n ≡ caption_image_refusal w h bytes greys
  unfolding caption_image_refusal size_refusal
  refused_size n p e = go (either (bad_side w) (bad_side h)) e where
    go : (b : Bool) → n ≡ pick b 3 0 → n ≡ pick b 3 (pick (not (eqb bytes (16 * blocks_of footprint w h))) 4 (pick (not (eqb greys (h * w))) 5 0))
    go true e = e
    go false e = absurd (omega arith)

  module _ (z : size_refusal footprint w h ≡ 0) where
    sides : either (bad_side w) (bad_side h) ≡ false
    sides = none_either (bad_side w) (bad_side h) (sized footprint w h z).wide (sized footprint w h z).high

    pub refused_4 : (bytes ≡ 16 * blocks_of footprint w h → ⊥) → 4 ≡ caption_image_refusal w h bytes greys
    unfolding caption_image_refusal
    refused_4 n = rw (sides, ne_eqb _ _ n)

    module _ (b : bytes ≡ 16 * blocks_of footprint w h) where
      pub refused_5 : (greys ≡ h * w → ⊥) → 5 ≡ caption_image_refusal w h bytes greys
      unfolding caption_image_refusal
      refused_5 n = rw (sides, eq-eqb _ _ b, ne_eqb _ _ n)

      pub refused_none : greys ≡ h * w → 0 ≡ caption_image_refusal w h bytes greys
      unfolding caption_image_refusal
      refused_none g = rw (sides, eq-eqb _ _ b, eq-eqb _ _ g)

-- no image has too many texels to count
pub area : (w h : ℕ) → size_refusal footprint w h ≡ 0 → h * w ≤ 268435456
area w h z =
    let s = sized footprint w h z in
    product_most _ _ (omega (arith, (side_fine _ s.high).1, limit_le)) (omega (arith, (side_fine _ s.wide).1, limit_le))

-- what is known of a call that is not refused
pub record Accepted (w h bytes greys : ℕ) : Type 0 where
  pub wide : bad_side w ≡ false
  pub high : bad_side h ≡ false
  pub exact_bytes : bytes ≡ 16 * blocks_of footprint w h
  pub exact_greys : greys ≡ h * w

pub accepted : (w h bytes greys : ℕ) → caption_image_refusal w h bytes greys ≡ 0 → Accepted w h bytes greys
unfolding caption_image_refusal
accepted w h bytes greys e = go (bad_side w) (bad_side h) (eqb bytes (16 * blocks_of footprint w h)) (eqb greys (h * w)) refl refl refl refl e where
  go : (a b c d : Bool) → bad_side w ≡ a → bad_side h ≡ b → eqb bytes (16 * blocks_of footprint w h) ≡ c → eqb greys (h * w) ≡ d
      → ◌≡◌ {A = ℕ} (pick (either a b) 3 (pick (not c) 4 (pick (not d) 5 0))) 0 → Accepted w h bytes greys
  go true b c d p q r s e = absurd (omega arith)
  go false true c d p q r s e = absurd (omega arith)
  go false false false d p q r s e = absurd (omega arith)
  go false false true false p q r s e = absurd (omega arith)
  go false false true true p q r s e = record { wide = p; high = q; exact_bytes = eqb-true bytes _ r; exact_greys = eqb-true greys _ s }

pub lent : (w h : ℕ) (wanted : List ℕ) → bad_side w ≡ false → bad_side h ≡ false → length wanted ≡ h * w → Lent w h wanted
lent w h wanted a b e = record {
  w_low = (side_fine w a).0;
  w_most = omega (arith, (side_fine w a).1, limit_le);
  h_low = (side_fine h b).0;
  h_most = omega (arith, (side_fine h b).1, limit_le);
  greys = e;
}

-- the buffer after a call
module _ (e0 e1 w h : ℕ) (wanted old : List ℕ) where
  pub untouched : (caption_image_refusal w h (length old) (length wanted) ≡ 0 → ⊥) → old ≡ caption_image_out e0 e1 w h wanted old
  unfolding caption_image_out
  untouched n = rw (ne_eqb _ _ n)

  pub written : caption_image_refusal w h (length old) (length wanted) ≡ 0 → caption_blocks e0 e1 w h wanted ≡ caption_image_out e0 e1 w h wanted old
  unfolding caption_image_out
  written e = rw (eq-eqb _ _ e)

-- ---- places

-- a place within the sides is one of the wanted greys
pub place_in : (w h x y : ℕ) → x < w → y < h → y * w + x < h * w
place_in w h x y l m = omega (arith, below_row w y h m)

-- a block begins within the sides
module _ (w h b : ℕ) (l : 0 < w) (m : b < blocks_of footprint w h) where
  pub column_in : 4 * (b % blocks_across w 4) < w
  column_in =
      let p : 0 < blocks_across w 4 = across_pos w 4 (omega arith) l in
      omega (arith, across_inside w 4 (b % blocks_across w 4) (omega arith) (mod-lt b p))

  pub row_in : 4 * (b / blocks_across w 4) < h
  unfolding blocks_of width_of height_of footprints
  row_in =
      let p : 0 < blocks_across w 4 = across_pos w 4 (omega arith) l in
      omega (arith, across_inside h 4 (b / blocks_across w 4) (omega arith) ((div-lt_iff_lt-mul p).1 m))

-- the same, with the count of blocks across in a local
pub record Begins (w h b across : ℕ) : Type 0 where
  pub some : 0 < across
  pub column : 4 * (b % across) < w
  pub row : 4 * (b / across) < h

pub begins : (w h b across N : ℕ) (wanted : List ℕ) → Lent w h wanted → across ≡ blocks_across w 4 → N ≡ 16 * blocks_of footprint w h → b < N / 16 → Begins w h b across
begins w h b across N wanted l e n m =
    let k : b < blocks_of footprint w h = omega arith in
    rw e (record { some = across_pos w 4 (omega arith) l.w_low; column = column_in w h b l.w_low k; row = row_in w h b l.w_low k })

-- ---- stores

-- the bytes of all blocks
abbrev pub byte_at : ℕ → ℕ → ℕ → ℕ → List ℕ → ℕ → ℕ
byte_at e0 e1 w h wanted n = get_or (caption_of e0 e1 (wanted_of w h wanted (n / 16))) (n % 16) 0

-- one block more
pub block_more : (f : ℕ → ℕ) (N b : ℕ) (bytes old new : List ℕ) → Put (16 * b) 16 bytes old new → ((k : ℕ) → k < 16 → get_or bytes k 0 ≡ f (16 * b + k))
    → Filling f 0 N old (16 * b) → Filling f 0 N new (16 * (b + 1))
unfolding Filled
block_more f N b bytes old new p same g = record {
  size = p.size ∙ g.size;
  holds = λ k l. elim (dec_lt k (16 * b)) [
    | yes m ↦ p.below k m ∙ g.holds k m
    | no m ↦
        let e : k ≡ 16 * b + (k - 16 * b) = omega arith in
        ap (λ (j : ℕ). get_or new j 0) e ∙ p.here (k - 16 * b) (omega arith) ∙ same (k - 16 * b) (omega arith) ∙ sym (ap f e)
  ];
}

pub block_bytes_lem : (e0 e1 w h : ℕ) (wanted : List ℕ) (b across : ℕ) {greys bytes : List ℕ} → across ≡ blocks_across w 4
    → greys ≡ tab (λ i. wanted_at w h wanted (4 * (b % across) + i % 4) (4 * (b / across) + i / 4)) 16 → bytes ≡ caption_of e0 e1 greys
    → (k : ℕ) → k < 16 → get_or bytes k 0 ≡ byte_at e0 e1 w h wanted (16 * b + k)
unfolding wanted_of
block_bytes_lem e0 e1 w h wanted b across p q r k l =
    let s : (16 * b + k) / 16 ≡ b = omega arith in
    let t : (16 * b + k) % 16 ≡ k = omega arith in
    ap (λ (x : List ℕ). get_or x k 0) (r ∙ ap (caption_of e0 e1) (rw p at q)) ∙ rw (s, t)

-- ---- one block

-- a whole block of 4 by 4 is its own sixteen greys
sixteen_greys : (wanted greys : List ℕ) → length wanted ≡ 16 → greys ≡ tab (λ i. wanted_at 4 4 wanted (0 + i % 4) (0 + i / 4)) 16 → greys ≡ wanted
unfolding Filled wanted_at
sixteen_greys wanted greys n e =
    e ∙ sym (filled_all _ 0 wanted 16 n (λ k l.
    let a : min (0 + k / 4) 3 * 4 + min (0 + k % 4) 3 ≡ k = omega arith in sym (ap (λ (j : ℕ). get_or wanted j 0) a)))

module _ (e0 e1 : ℕ) (wanted old : List ℕ) where
  pub block_4 : (length old ≡ 16 → ⊥) → (4 ≡ caption_block_refusal (length old) (length wanted)) × (old ≡ caption_block_out e0 e1 wanted old)
  unfolding caption_block_refusal caption_block_out
  block_4 n = (rw (ne_eqb _ _ n), rw (ne_eqb _ _ n))

  module _ (m : length old ≡ 16) where
    pub block_5 : (length wanted ≡ 16 → ⊥) → (5 ≡ caption_block_refusal (length old) (length wanted)) × (old ≡ caption_block_out e0 e1 wanted old)
    unfolding caption_block_refusal caption_block_out
    block_5 n = (rw (eq-eqb _ _ m, ne_eqb _ _ n), rw (eq-eqb _ _ m, ne_eqb _ _ n))

    pub block_done : {greys bytes new : List ℕ} → length wanted ≡ 16 → greys ≡ tab (λ i. wanted_at 4 4 wanted (0 + i % 4) (0 + i / 4)) 16
        → bytes ≡ caption_of e0 e1 greys → length bytes ≡ 16 → Put 0 16 bytes old new
        → (0 ≡ caption_block_refusal (length old) (length wanted)) × (new ≡ caption_block_out e0 e1 wanted old)
    unfolding caption_block_refusal caption_block_out
    block_done {greys} {bytes} {new} n g b s p =
        (rw (eq-eqb _ _ m, eq-eqb _ _ n), rw (eq-eqb _ _ m, eq-eqb _ _ n) (whole ∙ b ∙ ap (caption_of e0 e1) (sixteen_greys wanted greys n g)))
      where
        whole : new ≡ bytes
        whole = ext_get_or 0 new bytes (p.size ∙ m ∙ sym s) (λ i l. let k : i < 16 = omega (arith, p.size) in
            ap (λ (j : ℕ). get_or new j 0) (sym (zero-add i)) ∙ p.here i k)
