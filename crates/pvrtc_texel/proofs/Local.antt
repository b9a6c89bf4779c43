-- Words that are not listed do not count: `texel_same`; and what is in the list.
-- Assumes nothing.
use mathlib.Core.Path.{◌≡◌, refl, sym, ap, ap₂, ◌∙◌}
use mathlib.Core.Bool.{Bool, true, false}
use mathlib.Core.Logic.{◌⊎◌, inl, inr, ⊎_elim}
use mathlib.Core.List.Memᴰ
use mathlib.Core.List.{List, [], ◌∷◌, Memᴰ}
use Prim.Native.Nat.{ℕ, zero, suc, ◌+◌, ◌-◌, ◌*◌, ◌/◌, ◌≤◌, ◌<◌}
use native.Mathlib.Nat.{mod-lt, mod-eq_of_lt, add-mod_right, zero-mul, mul-zero, suc-mul, add_comm}
use native.Mathlib.Omega.{arith}
use native.Mathlib.Decide.{dec_lt}
use lib.Dec.{eqb}
use lib.ListN.{length, length-append}
use borrow.Author.Tests.{eqb-true, eqb-false}
use Rattle.laws.specs.Choice.{pick}
use Rattle.pvrtc_order.specs.Order.{word_place}
use Rattle.pvrtc_texel.specs.Word.{colour_a, colour_b}
use Rattle.pvrtc_texel.specs.Texel.{low_word, high_word, relative, interpolated, unorm8, upscaled, texel_at}
use Rattle.pvrtc_texel.specs.Counting.{counting_along, places_in_row, places_in}

-- ---- one axis

-- a listed column or row is the low one, or the high one off the samples
pub which : (n x X : ℕ) → Memᴰ X (counting_along n x) → (X ≡ low_word n x) ⊎ ((X ≡ high_word n x) × (relative x ≡ 0 → ⊥))
unfolding counting_along
which n x X = go (eqb (relative x) 0) refl where
  go : (b : Bool) → eqb (relative x) 0 ≡ b → Memᴰ X (pick b (low_word n x ∷ []) (low_word n x ∷ high_word n x ∷ []))
      → (X ≡ low_word n x) ⊎ ((X ≡ high_word n x) × (relative x ≡ 0 → ⊥))
  go true e i = ⊎_elim (λ q. inl q) (λ j. absurd (Memᴰ.not-nil j)) (Memᴰ.cases_cons i)
  go false e i =
      ⊎_elim (λ q. inl q)
      (λ j. ⊎_elim (λ q. inr (q, eqb-false (relative x) 0 e)) (λ k. absurd (Memᴰ.not-nil k)) (Memᴰ.cases_cons j))
      (Memᴰ.cases_cons i)

module _ (n x : ℕ) (h : x < 4 * n) where
  pub low_counts : Memᴰ (low_word n x) (counting_along n x)
  unfolding counting_along
  low_counts = go (eqb (relative x) 0) where
    go : (b : Bool) → Memᴰ (low_word n x) (pick b (low_word n x ∷ []) (low_word n x ∷ high_word n x ∷ []))
    go true = Memᴰ.head refl
    go false = Memᴰ.head refl

  pub high_counts : (relative x ≡ 0 → ⊥) → Memᴰ (high_word n x) (counting_along n x)
  unfolding counting_along
  high_counts q = go (eqb (relative x) 0) refl where
    go : (b : Bool) → eqb (relative x) 0 ≡ b → Memᴰ (high_word n x) (pick b (low_word n x ∷ []) (low_word n x ∷ high_word n x ∷ []))
    go true e = absurd (q (eqb-true (relative x) 0 e))
    go false e = Memᴰ.tail (Memᴰ.head refl)

  pub own_low : relative x < 2 → x / 4 ≡ low_word n x
  unfolding low_word relative
  own_low l =
      let e : (x + 2) / 4 + (n - 1) ≡ x / 4 + n = omega arith in
      rw e (sym (add-mod_right (x / 4) n ∙ mod-eq_of_lt (omega arith)))

  pub own_high : 2 ≤ relative x → x / 4 ≡ high_word n x
  unfolding high_word relative
  own_high l = let e : (x + 2) / 4 ≡ x / 4 = omega arith in rw e (sym (mod-eq_of_lt (omega arith)))

  -- the word that holds the texel's modulation counts
  pub own_counts : Memᴰ (x / 4) (counting_along n x)
  own_counts =
      elim (dec_lt (relative x) 2) [
        | yes p ↦ Memᴰ.cast (own_low p) low_counts
        | no p ↦ Memᴰ.cast (own_high (omega arith)) (high_counts (λ q. omega arith))
      ]

  pub along_lt : (X : ℕ) → Memᴰ X (counting_along n x) → X < n
  unfolding low_word high_word
  along_lt X i =
      ⊎_elim (λ e. rw e (mod-lt _ (omega arith))) (λ e. rw e.0 (mod-lt _ (omega arith))) (which n x X i)

-- at most two
pub counting_length : (n x : ℕ) → length (counting_along n x) ≤ 2
unfolding counting_along
counting_length n x = go (eqb (relative x) 0) where
  go : (b : Bool) → length (pick b (low_word n x ∷ []) (low_word n x ∷ high_word n x ∷ [])) ≤ 2
  go true = omega arith
  go false = omega arith

-- ---- sums of four

weighted : (k c d : ℕ) → ((k ≡ 0 → ⊥) → c ≡ d) → c * k ≡ d * k
weighted zero c d h = rw (mul-zero c, mul-zero d)
weighted (suc k) c d h = ap (λ (v : ℕ). v * suc k) (h (λ q. omega arith))

left_zero : (a b : ℕ) → (a * b ≡ 0 → ⊥) → a ≡ 0 → ⊥
left_zero a b h e = h (rw (e, zero-mul b))

right_zero : (a b : ℕ) → (a * b ≡ 0 → ⊥) → b ≡ 0 → ⊥
right_zero a b h e = h (rw (e, mul-zero a))

-- a sample without weight does not count
interpolated_same : (xr yr c00 c10 c01 c11 d00 d10 d01 d11 : ℕ) → c00 ≡ d00 → ((xr ≡ 0 → ⊥) → c10 ≡ d10) → ((yr ≡ 0 → ⊥) → c01 ≡ d01)
    → ((xr ≡ 0 → ⊥) → (yr ≡ 0 → ⊥) → c11 ≡ d11) → interpolated xr yr c00 c10 c01 c11 ≡ interpolated xr yr d00 d10 d01 d11
unfolding interpolated
interpolated_same xr yr c00 c10 c01 c11 d00 d10 d01 d11 e00 e10 e01 e11 =
    ap₂ ◌+◌
    (ap₂ ◌+◌
    (ap₂ ◌+◌ (ap (λ (v : ℕ). v * ((4 - xr) * (4 - yr))) e00) (weighted (xr * (4 - yr)) c10 d10 (λ q. e10 (left_zero xr (4 - yr) q))))
    (weighted ((4 - xr) * yr) c01 d01 (λ q. e01 (right_zero (4 - xr) yr q))))
    (weighted (xr * yr) c11 d11 (λ q. e11 (left_zero xr yr q) (right_zero xr yr q)))

-- ---- a texel of two images that agree where it counts

module _ (n m : ℕ) (word other : ℕ → ℕ → ℕ) (x y : ℕ) (hx : x < 4 * n) (hy : y < 4 * m)
    (same : (X Y : ℕ) → Memᴰ X (counting_along n x) → Memᴰ Y (counting_along m y) → word X Y ≡ other X Y) where
  upscaled_same : (colour : ℕ → ℕ → ℕ) (c : ℕ) → upscaled n m word colour x y c ≡ upscaled n m other colour x y c
  unfolding upscaled
  upscaled_same colour c =
      ap (unorm8 c)
      (interpolated_same (relative x) (relative y) _ _ _ _ _ _ _ _
      (ap (λ (W : ℕ). colour W c) (same _ _ (low_counts n x hx) (low_counts m y hy)))
      (λ p. ap (λ (W : ℕ). colour W c) (same _ _ (high_counts n x hx p) (low_counts m y hy)))
      (λ q. ap (λ (W : ℕ). colour W c) (same _ _ (low_counts n x hx) (high_counts m y hy q)))
      (λ p q. ap (λ (W : ℕ). colour W c) (same _ _ (high_counts n x hx p) (high_counts m y hy q))))

  pub texel_same : (c : ℕ) → texel_at n m word x y c ≡ texel_at n m other x y c
  unfolding texel_at
  texel_same c = rw (same (x / 4) (y / 4) (own_counts n x hx) (own_counts m y hy), upscaled_same colour_a c, upscaled_same colour_b c)

-- ---- places

module _ (a b : ℕ) where
  in_row : {X : ℕ} (Y : ℕ) {Xs : List ℕ} → Memᴰ X Xs → Memᴰ (word_place a b X Y) (places_in_row a b Y Xs)
  in_row Y (Memᴰ.head e) = Memᴰ.head (ap (λ (X : ℕ). word_place a b X Y) e)
  in_row Y (Memᴰ.tail i) = Memᴰ.tail (in_row Y i)

  pub in_places : {X Y : ℕ} {Xs Ys : List ℕ} → Memᴰ X Xs → Memᴰ Y Ys → Memᴰ (word_place a b X Y) (places_in a b Xs Ys)
  in_places {X} {Y} {Xs} i (Memᴰ.head {x = Z} {xs = Ys} e) =
      Memᴰ.append_left (places_in a b Xs Ys) (Memᴰ.cast (ap (word_place a b X) e) (in_row Z i))
  in_places {X} {Y} {Xs} i (Memᴰ.tail {x = Z} {xs = Ys} j) = Memᴰ.append_right (places_in_row a b Z Xs) (in_places i j)

  row_length : (Y : ℕ) (Xs : List ℕ) → length (places_in_row a b Y Xs) ≡ length Xs
  row_length Y [] = refl
  row_length Y (X ∷ Xs) = ap suc (row_length Y Xs)

  pub places_length : (Xs Ys : List ℕ) → length (places_in a b Xs Ys) ≡ length Ys * length Xs
  places_length Xs [] = sym (zero-mul (length Xs))
  places_length Xs (Y ∷ Ys) =
      length-append (places_in_row a b Y Xs) (places_in a b Xs Ys) ∙ ap₂ ◌+◌ (row_length Y Xs) (places_length Xs Ys)
      ∙ add_comm (length Xs) (length Ys * length Xs) ∙ sym (suc-mul (length Ys) (length Xs))

-- a listed place is that of a listed column and row
pub record Listed (a b : ℕ) (Xs Ys : List ℕ) (p : ℕ) : Type 0 where
  pub column : ℕ
  pub row : ℕ
  pub in_columns : Memᴰ column Xs
  pub in_rows : Memᴰ row Ys
  pub place : p ≡ word_place a b column row

module _ (a b : ℕ) where
  from_row : (p Y : ℕ) (Xs : List ℕ) {Ys : List ℕ} → Memᴰ Y Ys → Memᴰ p (places_in_row a b Y Xs) → Listed a b Xs Ys p
  from_row p Y [] j i = absurd (Memᴰ.not-nil i)
  from_row p Y (X ∷ Xs) j i =
      ⊎_elim (λ e. record { column = X; row = Y; in_columns = Memᴰ.head refl; in_rows = j; place = e })
      (λ k. let l = from_row p Y Xs j k in record { column = l.column; row = l.row; in_columns = Memᴰ.tail l.in_columns; in_rows = l.in_rows; place = l.place })
      (Memᴰ.cases_cons i)

  pub listed : (p : ℕ) (Xs Ys : List ℕ) → Memᴰ p (places_in a b Xs Ys) → Listed a b Xs Ys p
  listed p Xs [] i = absurd (Memᴰ.not-nil i)
  listed p Xs (Y ∷ Ys) i =
      ⊎_elim (λ j. from_row p Y Xs (Memᴰ.head refl) j)
      (λ j. let l = listed p Xs Ys j in record { column = l.column; row = l.row; in_columns = l.in_columns; in_rows = Memᴰ.tail l.in_rows; place = l.place })
      (Memᴰ.append_cases (places_in_row a b Y Xs) i)
