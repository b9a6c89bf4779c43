-- Making and asking, test by test.
-- Assumes nothing.
use mathlib.Core.Path.{◌≡◌, refl, sym, ap, ◌∙◌}
use mathlib.Core.Bool.{Bool, true, false, not, true≢false}
use mathlib.Core.List.{List, [], ◌∷◌}
use Prim.Native.Nat.{ℕ, ◌+◌, ◌*◌, ◌/◌, ◌%◌, ◌≤◌, ◌<◌}
use native.Mathlib.Decide.{ℕ_discrete}
use native.Mathlib.Nat.{mod-lt}
use native.Mathlib.Omega.{arith}
use lib.Dec.{eqb, ltb}
use lib.ListN.{length}
use borrow.Author.Tests.{eq-eqb, ne_eqb, lt-ltb, le-ltb}
use Rattle.std.specs.Prelude.{Result, Ok, Err}
use Rattle.std.specs.Result.{is_err}
use Rattle.laws.specs.Choice.{pick, either}
use Rattle.reason.specs.declared.Refusal.{Refusal}
use Rattle.reason.specs.Numbers.{refusal_told}
use Rattle.reason.proofs.Told.{refusal_some}
use Rattle.laws.specs.Reasons.{when, first_of}
use Rattle.footprint.specs.Footprint.{width_of, height_of}
use Rattle.interpolation.specs.declared.Kind.{Kind}
use Rattle.interpolation.specs.declared.Kind.TheVariants.{Unorm16, Srgb8, Float16}
use Rattle.interpolation.specs.declared.Texel.{Texel}
use Rattle.texel.specs.Meaning.{channel, shown_channel}
use Rattle.texel.specs.BlockTexel.{block_texel}
use Rattle.block_reading.specs.Shown.{number_at_in}
use Rattle.image_size.specs.Sides.{bad_side, size_refusal, blocks_across, blocks_of}
use Rattle.image_size.proofs.Laws.{limit_le, sized, side_fine, across_le, product_most}
use Rattle.footprint.proofs.Laws.{flat_bounds}
use Rattle.image_layout.specs.Geometry.{block_index}
use Rattle.image_layout.proofs.Independence.{index_in}
use Rattle.image_layout.specs.Numbers.{block_at, fault_at, fault_at_in, image_number_at_in}
use Rattle.one_texel.specs.declared.OneTexel.{OneTexel}
use Rattle.one_texel.specs.Texel.{one_texel}
use Rattle.image_texel.specs.Making.{MadeSides, view_refusal, view_sides}
use Rattle.image_texel.specs.inner.Fits.{Fits, shown_texel}
use Rattle.image_texel.specs.Asking.{Asked, may_ask, asked_in, refused_asking, asked_at}

-- ---- making

-- the size first, then the bytes
by_size : (fp w h bytes : ℕ) → view_refusal fp w h bytes ≡ pick (eqb (size_refusal fp w h) 0) (pick (eqb bytes (16 * blocks_of fp w h)) 0 4) (size_refusal fp w h)
unfolding view_refusal size_refusal
by_size fp w h bytes = go (ltb 13 fp) (either (bad_side w) (bad_side h)) (eqb bytes (16 * blocks_of fp w h)) where
  go : (a b c : Bool) → first_of (when a 1 ∷ when b 3 ∷ when (not c) 4 ∷ [])
      ≡ pick (eqb (first_of (when a 1 ∷ when b 3 ∷ [])) 0) (pick c 0 4) (first_of (when a 1 ∷ when b 3 ∷ []))
  go true b c = refl
  go false true c = refl
  go false false true = refl
  go false false false = refl

pub bad_size : (fp w h bytes e : ℕ) → e ≡ size_refusal fp w h → (e ≡ 0 → ⊥) → e ≡ view_refusal fp w h bytes
bad_size fp w h bytes e q z = q ∙ sym (by_size fp w h bytes ∙ rw (ne_eqb (size_refusal fp w h) 0 (λ k. z (q ∙ k))))

pub bad_bytes : (fp w h bytes e b : ℕ) → e ≡ size_refusal fp w h → e ≡ 0 → b ≡ blocks_of fp w h → (bytes ≡ 16 * b → ⊥) → 4 ≡ view_refusal fp w h bytes
bad_bytes fp w h bytes e b q z eb k =
    sym (by_size fp w h bytes ∙ rw (eq-eqb (size_refusal fp w h) 0 (sym q ∙ z), ne_eqb bytes (16 * blocks_of fp w h) (λ p. k (p ∙ ap (λ (m : ℕ). 16 * m) (sym eb)))))

pub all_good : (fp w h bytes e b : ℕ) → e ≡ size_refusal fp w h → e ≡ 0 → b ≡ blocks_of fp w h → bytes ≡ 16 * b → 0 ≡ view_refusal fp w h bytes
all_good fp w h bytes e b q z eb k =
    sym (by_size fp w h bytes ∙ rw (eq-eqb (size_refusal fp w h) 0 (sym q ∙ z), eq-eqb bytes (16 * blocks_of fp w h) (k ∙ ap (λ (m : ℕ). 16 * m) eb)))

module _ (bytes fp w h : ℕ) where
  pub sides_taken : view_refusal fp w h bytes ≡ 0 → view_sides bytes fp w h ≡ record { width = w; height = h; refusal = 0 }
  unfolding view_sides
  sides_taken e = rw (eq-eqb (view_refusal fp w h bytes) 0 e)

  pub sides_refused : (view_refusal fp w h bytes ≡ 0 → ⊥) → view_sides bytes fp w h ≡ record { width = 0; height = 0; refusal = view_refusal fp w h bytes }
  unfolding view_sides
  sides_refused e = rw (ne_eqb (view_refusal fp w h bytes) 0 e)

  pub refused_sides : (e : ℕ) → e ≡ view_refusal fp w h bytes → (e ≡ 0 → ⊥) → ◌≡◌ {A = MadeSides} (record { width = 0; height = 0; refusal = e }) (view_sides bytes fp w h)
  refused_sides e q z = ap none q ∙ sym (sides_refused (λ k. z (q ∙ k))) where
    none : ℕ → MadeSides
    none n = record { width = 0; height = 0; refusal = n }

  pub taken_sides : (e : ℕ) → e ≡ view_refusal fp w h bytes → e ≡ 0 → ◌≡◌ {A = MadeSides} (record { width = w; height = h; refusal = 0 }) (view_sides bytes fp w h)
  taken_sides e q z = sym (sides_taken (sym q ∙ z))

-- what a view that is not refused has
pub record Taken (fp w h bytes : ℕ) : Type 0 where
  pub size : size_refusal fp w h ≡ 0
  pub exact : bytes ≡ 16 * blocks_of fp w h

pub taken : (fp w h bytes : ℕ) → view_refusal fp w h bytes ≡ 0 → Taken fp w h bytes
taken fp w h bytes e =
    elim (ℕ_discrete (size_refusal fp w h) 0) [
      | no p ↦ absurd (p (bad_size fp w h bytes (size_refusal fp w h) refl p ∙ e))
      | yes p ↦ elim (ℕ_discrete bytes (16 * blocks_of fp w h)) [
        | yes q ↦ record { size = p; exact = q }
        | no q ↦ absurd (let z : ◌≡◌ {A = ℕ} 4 0 = bad_bytes fp w h bytes (size_refusal fp w h) (blocks_of fp w h) refl p refl q ∙ e in omega arith)
      ]
    ]

index_is : (fp w x y : ℕ) {columns rows across b : ℕ} → columns ≡ width_of fp → rows ≡ height_of fp → across ≡ blocks_across w columns → b ≡ y / rows * across + x / columns
    → b ≡ block_index fp w x y
unfolding block_index
index_is fp w x y ec er ea eb = rw (eb, ea, ec, er)

blocks_most : (fp w h : ℕ) → size_refusal fp w h ≡ 0 → blocks_of fp w h ≤ 268435456
unfolding blocks_of
blocks_most fp w h e =
    let s = sized fp w h e in
    let b = flat_bounds fp (let k = s.footprint in omega arith) in
    product_most (blocks_across h (height_of fp)) (blocks_across w (width_of fp))
    (omega (arith, across_le h (height_of fp) (let k = b.height_least in omega arith), (side_fine h s.high).1, limit_le))
    (omega (arith, across_le w (width_of fp) (let k = b.width_least in omega arith), (side_fine w s.wide).1, limit_le))

-- the sides and the block of a place inside
pub record Bounded (columns rows across w bytes x y : ℕ) : Type 0 where
  pub columns_most : columns ≤ 12
  pub rows_most : rows ≤ 12
  pub column : x % columns < columns
  pub row : y % rows < rows
  pub small : y / rows * across + x / columns < 268435456
  pub room : 16 * (y / rows * across + x / columns) + 16 ≤ bytes

module _ (fp w h bytes : ℕ) (e : view_refusal fp w h bytes ≡ 0) where
  -- its footprint is flat
  pub flat_blocks : fp < 14
  flat_blocks = let k = (sized fp w h (taken fp w h bytes e).size).footprint in omega arith

  pub wide_fine : {columns : ℕ} → columns ≡ width_of fp → (0 < columns) × (w ≤ 16384)
  wide_fine ec =
      let s = sized fp w h (taken fp w h bytes e).size in
      let b = flat_bounds fp flat_blocks in
      (omega (arith, b.width_least), omega (arith, (side_fine w s.wide).1, limit_le))

  pub bounded : (x y : ℕ) {columns rows across : ℕ} → x < w → y < h → columns ≡ width_of fp → rows ≡ height_of fp → across ≡ blocks_across w columns → Bounded columns rows across w bytes x y
  bounded x y {columns} {rows} {across} hx hy ec er ea =
      let t = taken fp w h bytes e in
      let b = flat_bounds fp flat_blocks in
      let p : 0 < columns = omega (arith, b.width_least) in
      let q : 0 < rows = omega (arith, b.height_least) in
      let i : y / rows * across + x / columns < blocks_of fp w h = rw (index_is fp w x y {columns = columns} {rows = rows} {across = across} ec er ea refl) (index_in fp Unorm16 w h x y 0 hx hy (omega arith) flat_blocks) in
      record {
        columns_most = omega (arith, b.width_most);
        rows_most = omega (arith, b.height_most);
        column = mod-lt x p;
        row = mod-lt y q;
        small = omega (arith, i, blocks_most fp w h t.size);
        room = omega (arith, i, t.exact);
      }

-- ---- asking

module _ (fp w h : ℕ) (s : List ℕ) (kind : Kind) (x y : ℕ) where
  pub asked_refused : (view_refusal fp w h (length s) ≡ 0 → ⊥) → refused_asking ≡ asked_at fp w h s kind x y
  unfolding asked_at may_ask
  asked_refused e = rw (ne_eqb (view_refusal fp w h (length s)) 0 e)

  module _ (e : view_refusal fp w h (length s) ≡ 0) where
    pub asked_right : w ≤ x → refused_asking ≡ asked_at fp w h s kind x y
    unfolding asked_at may_ask
    asked_right k = rw (eq-eqb (view_refusal fp w h (length s)) 0 e, le-ltb x w k)

    pub asked_below : x < w → h ≤ y → refused_asking ≡ asked_at fp w h s kind x y
    unfolding asked_at may_ask
    asked_below l k = rw (eq-eqb (view_refusal fp w h (length s)) 0 e, lt-ltb x w l, le-ltb y h k)

    pub asked_inside : x < w → y < h → asked_in fp w s kind x y ≡ asked_at fp w h s kind x y
    unfolding asked_at may_ask
    asked_inside l k = rw (eq-eqb (view_refusal fp w h (length s)) 0 e, lt-ltb x w l, lt-ltb y h k)

-- whether making was refused
pub was_refused : (r : Result Unit Refusal) (n : ℕ) → refusal_told r ≡ n → is_err r ≡ true → n ≡ 0 → ⊥
was_refused (Err refusal) n e q z = let p = refusal_some refusal in omega (arith, e, z)
was_refused (Ok x) n e q z = true≢false (sym q)

pub was_taken : (r : Result Unit Refusal) (n : ℕ) → refusal_told r ≡ n → is_err r ≡ false → n ≡ 0
was_taken (Err refusal) n e q = absurd (true≢false q)
was_taken (Ok x) n e q = sym e

-- a view with no sides
pub no_sides : (fp : ℕ) (s : List ℕ) (kind : Kind) (x y : ℕ) → asked_at fp 0 0 s kind x y ≡ refused_asking
no_sides fp s kind x y =
    elim (ℕ_discrete (view_refusal fp 0 0 (length s)) 0) [
      | yes e ↦ sym (asked_right fp 0 0 s kind x y e (omega arith))
      | no e ↦ sym (asked_refused fp 0 0 s kind x y e)
    ]

-- ---- what a kind shows

pub shown_0 : (t : Texel) → (t ≡ shown_texel Unorm16 t) × Fits Unorm16 t
unfolding shown_texel
shown_0 t = (refl, record { bytes = λ q. absurd (let z : ◌≡◌ {A = ℕ} 0 1 = cc in omega arith) })

pub shown_2 : (t : Texel) → (t ≡ shown_texel Float16 t) × Fits Float16 t
unfolding shown_texel
shown_2 t = (refl, record { bytes = λ q. absurd (let z : ◌≡◌ {A = ℕ} 0 1 = cc in omega arith) })

pub shown_1 : (r g b a : ℕ) → r < 65536 → g < 65536 → b < 65536 → a < 65536
    → (◌≡◌ {A = Texel} (record { r = r / 256; g = g / 256; b = b / 256; a = a / 256 }) (shown_texel Srgb8 (record { r = r; g = g; b = b; a = a })))
    × Fits Srgb8 (record { r = r / 256; g = g / 256; b = b / 256; a = a / 256 })
unfolding shown_texel
shown_1 r g b a hr hg hb ha = (refl, record { bytes = λ q. (omega arith, omega arith, omega arith, omega arith) })

pub fits_none : (kind : Kind) (a : Asked) → a ≡ refused_asking → Fits kind a.texel
fits_none kind a e = rw e (record { bytes = λ q. (omega arith, omega arith, omega arith, omega arith) })

-- ---- the texel's own block

-- each channel of a block's texel as the picture has it
shown_as : (fp : ℕ) (kind : Kind) (w : ℕ) (s : List ℕ) (x y : ℕ)
    → shown_texel kind (block_texel fp kind (block_at s (block_index fp w x y)) (x % width_of fp) (y % height_of fp) 0) ≡ (asked_in fp w s kind x y).texel
unfolding shown_texel asked_in image_number_at_in number_at_in shown_channel channel
shown_as fp kind w s x y = refl

whole : (fp w : ℕ) (s : List ℕ) (kind : Kind) (x y : ℕ) {fault : ℕ} {u : Texel} → fault ≡ fault_at fp kind s (block_index fp w x y) → u ≡ (asked_in fp w s kind x y).texel
    → ◌≡◌ {A = Asked} (record { refusal = 0; fault = fault; texel = u }) (asked_in fp w s kind x y)
unfolding asked_in
whole fp w s kind x y f v = rw (f, v)

pub asked_told : (fp w : ℕ) (s : List ℕ) (kind : Kind) (x y : ℕ) {columns rows across b dx dy : ℕ} {B : ℕ} (t : OneTexel) {u : Texel}
    → columns ≡ width_of fp → rows ≡ height_of fp → across ≡ blocks_across w columns → b ≡ y / rows * across + x / columns → B ≡ block_at s b
    → dx ≡ x % columns → dy ≡ y % rows → t ≡ one_texel fp kind B dx dy → u ≡ shown_texel kind t.texel
    → ◌≡◌ {A = Asked} (record { refusal = 0; fault = t.fault; texel = u }) (asked_in fp w s kind x y)
unfolding one_texel fault_at_in
asked_told fp w s kind x y t {u} ec er ea eb e_b ex ey et eu =
    let k : t ≡ one_texel fp kind (block_at s (block_index fp w x y)) (x % width_of fp) (y % height_of fp) = et ∙ rw (e_b, index_is fp w x y ec er ea eb, ex, ey, ec, er) in
    whole fp w s kind x y (ap (λ (a : OneTexel). a.fault) k) (eu ∙ ap (λ (a : OneTexel). shown_texel kind a.texel) k ∙ shown_as fp kind w s x y)
