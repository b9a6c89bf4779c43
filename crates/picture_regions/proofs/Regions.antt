-- What a result buffer holds while a block is copied into it row by row, by place: row q, column x, channel c. `show` says what is shown of a number
-- of the block, so that one law serves every kind, format and element type.
-- Assumes nothing.
use mathlib.Core.Path.{◌≡◌, refl, sym, ap, ◌∙◌}
use mathlib.Core.List.{List}
use Prim.Native.Nat.{ℕ, ◌+◌, ◌*◌, ◌≤◌, ◌<◌}
use native.Mathlib.Nat.{not-suc-le-zero}
use native.Mathlib.Decide.{dec_lt, ℕ_discrete}
use native.Mathlib.Omega.{arith}
use lib.ListN.{length, get_or, set, length-set}
use lib.Seq.{get_or-set_same, get_or-set_other}
use Rattle.picture_regions.specs.Picture.{place}
use Rattle.picture_regions.proofs.Covering.{below_row}
use Rattle.picture_regions.specs.inner.Regions.{Pasted, RowsCopied}

-- ---- a run of numbers

module _ (show : ℕ → ℕ) (src : List ℕ) (from : ℕ) (old : List ℕ) (at : ℕ) where
  pub pasted_none : Pasted show src from 0 old at old
  pasted_none = record { inside = λ k h. absurd (not-suc-le-zero h); outside = λ k h. refl }

  pub pasted_more : (n : ℕ) (l : List ℕ) (v : ℕ) → at + n < length l → v ≡ show (get_or src (from + n) 0)
      → Pasted show src from n old at l → Pasted show src from (n + 1) old at (set l (at + n) v)
  pasted_more n l v h e p = record {
    inside = λ k hk.
        elim (dec_lt k n) [
          | yes q ↦ get_or-set_other l (at + n) (at + k) v 0 (λ r. omega (arith, r)) ∙ p.inside k q
          | no q ↦ let r : k ≡ n = omega arith in rw r (get_or-set_same l (at + n) v 0 h ∙ e)
        ];
    outside = λ k f.
        get_or-set_other l (at + n) k v 0 (λ r. f (omega (arith, r)) (omega (arith, r))) ∙ p.outside k (λ a b. f a (omega arith));
  }

  -- i of n numbers are copied
  pub record Pasting (n : ℕ) (l : List ℕ) (i : ℕ) : Type 0 where
    pub most : i ≤ n
    pub same : length l ≡ length old
    pub pasted : Pasted show src from i old at l

  pub pasting_none : (n : ℕ) → Pasting n old 0
  pasting_none n = record { most = omega arith; same = refl; pasted = pasted_none }

  pub pasting_more : {n i : ℕ} {l : List ℕ} (v : ℕ) → i < n → at + i < length l → v ≡ show (get_or src (from + i) 0) → Pasting n l i → Pasting n (set l (at + i) v) (i + 1)
  pasting_more {i = i} {l = l} v h k e p = record { most = omega arith; same = simp length-set p.same; pasted = pasted_more i l v k e p.pasted }

  pub pasting_all : {n i : ℕ} {l : List ℕ} → n ≤ i → Pasting n l i → Pasted show src from n old at l
  pasting_all {n} {i} {l} h p = let q : i ≡ n = omega (arith, p.most) in rw q at p.pasted

-- ---- rows of a block

-- where as much is shown of every number
pub placed_as : (show other : ℕ → ℕ) → ((k : ℕ) → show k ≡ other k) → (w x0 cols bw : ℕ) (to from : ℕ → ℕ) (n : ℕ) (buf old new : List ℕ)
    → RowsCopied show w x0 cols bw to from n buf old new → RowsCopied other w x0 cols bw to from n buf old new
placed_as show other same w x0 cols bw to from n buf old new p = record {
  inside = λ dx i c a b h. p.inside dx i c a b h ∙ same _;
  outside = p.outside;
}

module _ (show : ℕ → ℕ) (w x0 cols bw : ℕ) (to from : ℕ → ℕ) (buf old : List ℕ) where
  pub placed_none : RowsCopied show w x0 cols bw to from 0 buf old old
  placed_none = record { inside = λ dx i c a b h. absurd (not-suc-le-zero b); outside = λ x q c a b h. refl }

  -- numbers of two rows are the same only in one row
  apart_rows : (x q r c : ℕ) → x < w → c < 4 → x0 + cols ≤ w → (q ≡ r → ⊥)
      → 4 * (r * w + x0) ≤ 4 * (q * w + x) + c → 4 * (q * w + x) + c < 4 * (r * w + x0) + 4 * cols → ⊥
  apart_rows x q r c a h fits ne u v =
      elim (dec_lt q r) [
        | yes e ↦ let s = below_row w q r e in omega arith
        | no e ↦ let s = below_row w r q (omega (arith, ne)) in omega arith
      ]

  pub placed_more : (n : ℕ) (l new : List ℕ) → x0 + cols ≤ w → ((i : ℕ) → i < n → to i ≡ to n → ⊥) → RowsCopied show w x0 cols bw to from n buf old l
      → Pasted show buf (4 * (from n * bw)) (4 * cols) l (4 * (to n * w + x0)) new → RowsCopied show w x0 cols bw to from (n + 1) buf old new
  placed_more n l new fits other p q = record {
    inside = λ dx i c a b h.
        elim (ℕ_discrete i n) [
          | yes e ↦
              let u : 4 * (to n * w + x0) + (4 * dx + c) ≡ 4 * (to n * w + (x0 + dx)) + c = omega arith in
              let j : 4 * (from n * bw) + (4 * dx + c) ≡ 4 * (from n * bw + dx) + c = omega arith in
              rw e (ap (λ (k : ℕ). get_or new k 0) (sym u) ∙ q.inside (4 * dx + c) (omega arith) ∙ ap (λ (k : ℕ). show (get_or buf k 0)) j)
          | no e ↦
              let r : i < n = omega (arith, e) in
              q.outside (4 * (to i * w + (x0 + dx)) + c) (apart_rows (x0 + dx) (to i) (to n) c (omega arith) h fits (other i r)) ∙ p.inside dx i c a r h
        ];
    outside = λ x k c a h f.
        q.outside (4 * (k * w + x) + c) (away x k c a h f) ∙ p.outside x k c a h (λ s t i v e. f s t i (omega arith) e);
  }
    where
      away : (x k c : ℕ) → x < w → c < 4 → (x0 ≤ x → x < x0 + cols → (i : ℕ) → i < n + 1 → k ≡ to i → ⊥)
          → 4 * (to n * w + x0) ≤ 4 * (k * w + x) + c → 4 * (k * w + x) + c < 4 * (to n * w + x0) + 4 * cols → ⊥
      away x k c a h f u v =
          elim (ℕ_discrete k (to n)) [
            | yes e ↦ let s : k * w ≡ to n * w = ap (λ (m : ℕ). m * w) e in f (omega arith) (omega arith) n (omega arith) e
            | no e ↦ apart_rows x k (to n) c a h fits e u v
          ]
