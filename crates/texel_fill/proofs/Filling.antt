-- A run is filled with one texel, four numbers at a time.
-- Assumes nothing.
use mathlib.Core.Path.{◌≡◌, sym, ap, ◌∙◌}
use mathlib.Core.List.{List}
use Prim.Native.Nat.{ℕ, ◌+◌, ◌-◌, ◌*◌, ◌%◌, ◌≤◌, ◌<◌}
use native.Mathlib.Decide.{dec_lt}
use native.Mathlib.Omega.{arith}
use lib.ListN.{length, length-set, get_or, set}
use Rattle.laws.specs.inner.Filled.{put_four}
use Rattle.laws.proofs.Filling.{get_or_tab, length_four}
use Rattle.interpolation.specs.declared.Texel.{Texel}
use Rattle.block_buffer.specs.inner.Painted.{four_of}
use Rattle.picture_regions.proofs.Regions.{pasted_none, pasted_more}
use Rattle.picture_regions.specs.inner.Regions.{Pasted}
use Rattle.texel_fill.specs.inner.Everywhere.{everywhere}

-- every number of it, by its channel
pub number_at : (t : Texel) (k : ℕ) → k < 864 → get_or (everywhere t) k 0 ≡ get_or (four_of t) (k % 4) 0
unfolding everywhere
number_at t k h = get_or_tab (λ k. get_or (four_of t) (k % 4) 0) 864 k 0 h

module _ (show : ℕ → ℕ) (t : Texel) (old : List ℕ) (at : ℕ) where
  -- one number more
  more : (m c : ℕ) (l : List ℕ) (v : ℕ) → m < 864 → m % 4 ≡ c → at + m < length l → v ≡ show (get_or (four_of t) c 0)
      → Pasted show (everywhere t) 0 m old at l → Pasted show (everywhere t) 0 (m + 1) old at (set l (at + m) v)
  more m c l v few e room ev p =
      let z : (0 + m) % 4 ≡ c = omega (arith, e) in
      pasted_more show (everywhere t) 0 old at m l v room (ev ∙ ap show (sym (number_at t (0 + m) (omega arith) ∙ ap (λ (k : ℕ). get_or (four_of t) k 0) z))) p

  -- one texel more
  pub pasted_texel : (i : ℕ) (l : List ℕ) {a b c d : ℕ} → i < 216 → at + 4 * i + 4 ≤ length l → a ≡ show t.r → b ≡ show t.g → c ≡ show t.b → d ≡ show t.a
      → Pasted show (everywhere t) 0 (4 * i) old at l → Pasted show (everywhere t) 0 (4 * (i + 1)) old at (put_four l (at + 4 * i) a b c d)
  pasted_texel i l {a} {b} {c} {d} few room ea eb ec ed p =
      let m = 4 * i in
      let l1 = set l (at + m) a in
      let l2 = set l1 (at + (m + 1)) b in
      let l3 = set l2 (at + (m + 1 + 1)) c in
      let n1 : length l1 ≡ length l = length-set l (at + m) a in
      let n2 : length l2 ≡ length l1 = length-set l1 (at + (m + 1)) b in
      let n3 : length l3 ≡ length l2 = length-set l2 (at + (m + 1 + 1)) c in
      let e1 : at + m + 1 ≡ at + (m + 1) = omega arith in
      let e2 : at + m + 2 ≡ at + (m + 1 + 1) = omega arith in
      let e3 : at + m + 3 ≡ at + (m + 1 + 1 + 1) = omega arith in
      let e4 : 4 * (i + 1) ≡ m + 1 + 1 + 1 + 1 = omega arith in
      rw (e1, e2, e3, e4)
      (more (m + 1 + 1 + 1) 3 l3 d (omega arith) (omega arith) (omega (arith, n1, n2, n3)) ed
      (more (m + 1 + 1) 2 l2 c (omega arith) (omega arith) (omega (arith, n1, n2)) ec
      (more (m + 1) 1 l1 b (omega arith) (omega arith) (omega (arith, n1)) eb
      (more m 0 l a (omega arith) (omega arith) (omega arith) ea p))))

  -- four texels
  pub four_texels : {a b c d : ℕ} → at + 16 ≤ length old → a ≡ show t.r → b ≡ show t.g → c ≡ show t.b → d ≡ show t.a
      → Pasted show (everywhere t) 0 16 old at (put_four (put_four (put_four (put_four old at a b c d) (at + 4) a b c d) (at + 8) a b c d) (at + 12) a b c d)
  four_texels {a} {b} {c} {d} room ea eb ec ed =
      let l1 = put_four old at a b c d in
      let l2 = put_four l1 (at + 4) a b c d in
      let l3 = put_four l2 (at + 8) a b c d in
      let n1 : length l1 ≡ length old = length_four old at a b c d in
      let n2 : length l2 ≡ length l1 = length_four l1 (at + 4) a b c d in
      let n3 : length l3 ≡ length l2 = length_four l2 (at + 8) a b c d in
      let z : at + 4 * 0 ≡ at = omega arith in
      pasted_texel 3 l3 (omega arith) (omega (arith, n1, n2, n3)) ea eb ec ed
      (pasted_texel 2 l2 (omega arith) (omega (arith, n1, n2)) ea eb ec ed
      (pasted_texel 1 l1 (omega arith) (omega (arith, n1)) ea eb ec ed
      (rw z at (pasted_texel 0 old (omega arith) (omega arith) ea eb ec ed (pasted_none show (everywhere t) 0 old at)))))

  -- the last four of n, over m numbers that reach them
  pub pasted_last : (n m : ℕ) (l new : List ℕ) → 4 ≤ n → n ≤ 216 → m ≤ 4 * n → 4 * n ≤ m + 16
      → Pasted show (everywhere t) 0 m old at l → Pasted show (everywhere t) 0 16 l (at + 4 * (n - 4)) new → Pasted show (everywhere t) 0 (4 * n) old at new
  pasted_last n m l new least most below reach p q = record {
    inside = λ k h.
        elim (dec_lt k (4 * (n - 4))) [
          | yes r ↦ q.outside (at + k) (λ u v. omega arith) ∙ p.inside k (omega arith)
          | no r ↦
              let i = k - 4 * (n - 4) in
              let e : at + 4 * (n - 4) + i ≡ at + k = omega arith in
              let z : (0 + i) % 4 ≡ (0 + k) % 4 = omega arith in
              ap (λ (x : ℕ). get_or new x 0) (sym e) ∙ q.inside i (omega arith)
              ∙ ap show (number_at t (0 + i) (omega arith) ∙ ap (λ (x : ℕ). get_or (four_of t) x 0) z ∙ sym (number_at t (0 + k) (omega arith)))
        ];
    outside = λ k f. q.outside k (λ u v. f (omega arith) (omega arith)) ∙ p.outside k (λ u v. f u (omega arith));
  }

-- the same is shown from any texel on
pub from_any : (show : ℕ → ℕ) (t : Texel) (from n : ℕ) (old : List ℕ) (at : ℕ) (new : List ℕ) → from % 4 ≡ 0 → from + n ≤ 864
    → Pasted show (everywhere t) 0 n old at new → Pasted show (everywhere t) from n old at new
from_any show t from n old at new e h p = record {
  inside = λ k l.
      let z : (0 + k) % 4 ≡ (from + k) % 4 = omega (arith, e) in
      p.inside k l ∙ ap show (number_at t (0 + k) (omega arith) ∙ ap (λ (c : ℕ). get_or (four_of t) c 0) z ∙ sym (number_at t (from + k) (omega arith)));
  outside = p.outside;
}
