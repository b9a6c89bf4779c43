-- The blocks of a picture one after another: what the result buffer holds once the first b of them are copied into it.
-- Assumes nothing.
use mathlib.Core.Path.{◌≡◌, sym, ap, ap₂, ◌∙◌}
use mathlib.Core.List.{List}
use Prim.Native.Nat.{ℕ, ◌+◌, ◌*◌, ◌/◌, ◌%◌, ◌≤◌, ◌<◌}
use native.Mathlib.Nat.{not-suc-le-zero, div-add-mod', mod-lt, div-lt_iff_lt-mul}
use native.Mathlib.Decide.{dec_lt}
use native.Mathlib.Omega.{arith}
use lib.ListN.{length, get_or}
use Rattle.laws.specs.Table.{tab}
use Rattle.laws.specs.inner.Filled.{Filled}
use Rattle.laws.proofs.Filling.{filled_all}
use Rattle.image_size.specs.Sides.{blocks_across}
use Rattle.image_size.proofs.Laws.{across_covers}
use Rattle.picture_regions.specs.Picture.{place}
use Rattle.picture_regions.specs.inner.Regions.{Picture, block_in, RowsCopied, Cropped, Tile}
use Rattle.picture_regions.proofs.Covering.{below_row, in_piece, quotient, remainder}

-- blocks cover the picture
pub record Covered (p : Picture) : Type 0 where
  pub width_least : 0 < p.width
  pub columns_least : 0 < p.columns
  pub across : p.across ≡ blocks_across p.width p.columns
  pub row_lt : (q : ℕ) → q < p.rows → p.row q < p.down

-- q is one of n rows that are copied to
pub record Reached (to : ℕ → ℕ) (n q : ℕ) : Type 0 where
  pub index : ℕ
  pub below : index < n
  pub is : to index ≡ q

-- the first b blocks show f
pub record ShownTo (p : Picture) (b : ℕ) (f : ℕ → ℕ → ℕ → ℕ) (new : List ℕ) : Type 0 where
  pub inside : (x q c : ℕ) → x < p.width → q < p.rows → c < 4 → block_in p x q < b → get_or new (place p.width x q c) 0 ≡ f x q c

module _ (p : Picture) (covered : Covered p) where
  column_lt : (x : ℕ) → x < p.width → x / p.columns < p.across
  column_lt x h = rw covered.across (across_covers p.width p.columns x covered.columns_least h)

  -- every texel lies in one of the blocks
  pub block_lt : (x q : ℕ) → x < p.width → q < p.rows → block_in p x q < p.down * p.across
  unfolding block_in
  block_lt x q hx hq = omega (arith, column_lt x hx, below_row p.across (p.row q) p.down (covered.row_lt q hq))

  -- block bx of the row k of blocks, copied as far as it is within the picture: each of its rows and no other
  pub tile_of : (show : ℕ → ℕ) (bx k cols n : ℕ) (to from : ℕ → ℕ) (f : ℕ → ℕ → ℕ → ℕ) (buf old new : List ℕ) → bx < p.across
      → Cropped p.width (bx * p.columns) p.columns cols
      → ((q : ℕ) → q < p.rows → p.row q ≡ k → Reached to n q) → ((i : ℕ) → i < n → p.row (to i) ≡ k)
      → RowsCopied show p.width (bx * p.columns) cols p.columns to from n buf old new
      → ((dx i c : ℕ) → dx < p.columns → i < n → c < 4 → show (get_or buf (place p.columns dx (from i) c) 0) ≡ f (bx * p.columns + dx) (to i) c)
      → Tile p (k * p.across + bx) f old new
  unfolding block_in
  tile_of show bx k cols n to from f buf old new hb crop all only pl shows = record {
    inside = λ x q c hx hq hc e.
        let m = column_lt x hx in
        let ek : p.row q ≡ k = sym (quotient (p.row q) p.across (x / p.columns) m) ∙ ap (λ (i : ℕ). i / p.across) e ∙ quotient k p.across bx hb in
        let ex : x / p.columns ≡ bx = sym (remainder (p.row q) p.across (x / p.columns) m) ∙ ap (λ (i : ℕ). i % p.across) e ∙ remainder k p.across bx hb in
        let ax : bx * p.columns + x % p.columns ≡ x = ap (λ (i : ℕ). i * p.columns + x % p.columns) (sym ex) ∙ div-add-mod' x p.columns in
        let mx = mod-lt x covered.columns_least in
        let r = all q hq ek in
        ap₂ (λ (a b : ℕ). get_or new (place p.width a b c) 0) (sym ax) (sym r.is)
        ∙ pl.inside (x % p.columns) r.index c (crop.all (x % p.columns) mx (omega arith)) r.below hc
        ∙ shows (x % p.columns) r.index c mx r.below hc
        ∙ ap₂ (λ (a b : ℕ). f a b c) ax r.is;
    outside = λ x q c hx hq hc other.
        let lc = crop.in_block in
        pl.outside x q c hx hc
        (λ u v i li e. other (ap₂ (λ (a b : ℕ). a * p.across + b) (ap p.row e ∙ only i li) (in_piece x p.columns bx u (omega arith))));
  }

  module _ (f : ℕ → ℕ → ℕ → ℕ) where
    pub shown_none : (l : List ℕ) → ShownTo p 0 f l
    shown_none l = record { inside = λ x q c hx hy hc k. absurd (not-suc-le-zero k) }

    pub shown_more : (b : ℕ) (l new : List ℕ) → ShownTo p b f l → Tile p b f l new → ShownTo p (b + 1) f new
    shown_more b l new s t = record {
      inside = λ x q c hx hq hc k.
          elim (dec_lt (block_in p x q) b) [
            | yes r ↦ t.outside x q c hx hq hc (λ e. omega arith) ∙ s.inside x q c hx hq hc r
            | no r ↦ t.inside x q c hx hq hc (omega arith)
          ];
    }

    -- once all blocks are shown, the buffer is the table of the picture's numbers
    pub shown_all : (l : List ℕ) → length l ≡ 4 * (p.rows * p.width) → ShownTo p (p.down * p.across) f l
        → l ≡ tab (λ k. f (k / 4 % p.width) (k / 4 / p.width) (k % 4)) (4 * (p.rows * p.width))
    unfolding Filled
    shown_all l size s =
        filled_all (λ k. f (k / 4 % p.width) (k / 4 / p.width) (k % 4)) 0 l (4 * (p.rows * p.width)) size
        (λ k hk.
        let e : 4 * (k / 4) + k % 4 ≡ k = omega arith in
        let d : k / 4 / p.width * p.width + k / 4 % p.width ≡ k / 4 = div-add-mod' (k / 4) p.width in
        let hq : k / 4 / p.width < p.rows = (div-lt_iff_lt-mul covered.width_least).1 (omega arith) in
        let hx : k / 4 % p.width < p.width = mod-lt (k / 4) covered.width_least in
        ap (λ (i : ℕ). get_or l i 0) (sym e ∙ ap (λ (i : ℕ). 4 * i + k % 4) (sym d))
        ∙ s.inside (k / 4 % p.width) (k / 4 / p.width) (k % 4) hx hq (omega arith) (block_lt (k / 4 % p.width) (k / 4 / p.width) hx hq))
