-- Rows of three numbers for each word, filled word by word.
-- Assumes nothing.
use mathlib.Core.Path.{◌≡◌, refl, sym, ap, subst, ◌∙◌}
use mathlib.Core.List.{List}
use Prim.Native.Nat.{ℕ, ◌+◌, ◌-◌, ◌*◌, ◌/◌, ◌%◌, ◌^◌, ◌≤◌, ◌<◌}
use native.Mathlib.Nat.{not-suc-le-zero, mod-lt, add-mod_right, mod-eq_of_lt}
use native.Mathlib.Omega.{arith}
use native.Mathlib.Decide.{dec_lt}
use lib.ListN.{length, get_or, set, length-set}
use lib.Seq.{get_or-set_same, get_or-set_other}
use lib.Pow.{pow_pos, pow_mono}
use Rattle.laws.specs.inner.Filled.{Filled}
use Rattle.pvrtc_texel.specs.Texel.{low_word, high_word}
use Rattle.pvrtc_texel.specs.Word.{colour_a, colour_b}
use Rattle.pvrtc_texel.specs.Image.{word_at}
use Rattle.pvrtc_word.specs.inner.Lanes.{lanes}
use Rattle.pvrtc_rows.specs.inner.Rows.{around, Three, ThreesFrom, Threes, put_three, WordRow, EndRows, Window}

-- ---- words along a side

pub around_lt : (n i : ℕ) → 0 < n → around n i < n
unfolding around
around_lt n i h = mod-lt _ h

-- the low and the high word of a texel
pub around_low : (n x : ℕ) → around n ((x + 2) / 4) ≡ low_word n x
unfolding around low_word
around_low n x = refl

pub around_high : (n x : ℕ) → 0 < n → around n ((x + 2) / 4 + 1) ≡ high_word n x
unfolding around high_word
around_high n x h = let e : (x + 2) / 4 + 1 + (n - 1) ≡ (x + 2) / 4 + n = omega arith in rw e (add-mod_right ((x + 2) / 4) n)

-- the word that a texel lies in
pub around_own : (n x : ℕ) → x < 4 * n → around n (x / 4 + 1) ≡ x / 4
unfolding around
around_own n x h =
    let e : x / 4 + 1 + (n - 1) ≡ x / 4 + n = omega arith in
    rw e (add-mod_right (x / 4) n ∙ mod-eq_of_lt (omega arith))

-- ---- three numbers more

module _ (l : List ℕ) (k a b c : ℕ) where
  pub length_three : length (put_three l k a b c) ≡ length l
  length_three = simp length-set

  put_other : (j : ℕ) → (j / 3 ≡ k → ⊥) → get_or (put_three l k a b c) j 0 ≡ get_or l j 0
  put_other j h =
      get_or-set_other (set (set l (3 * k) a) (3 * k + 1) b) (3 * k + 2) j c 0 (λ e. h (omega (arith, e)))
      ∙ get_or-set_other (set l (3 * k) a) (3 * k + 1) j b 0 (λ e. h (omega (arith, e)))
      ∙ get_or-set_other l (3 * k) j a 0 (λ e. h (omega (arith, e)))

  -- another word's numbers stay
  pub three_other : (i : ℕ) {u v w : ℕ} → (i ≡ k → ⊥) → Three l i u v w → Three (put_three l k a b c) i u v w
  three_other i h o = record {
    first = put_other (3 * i) (λ e. h (omega (arith, e))) ∙ o.first;
    second = put_other (3 * i + 1) (λ e. h (omega (arith, e))) ∙ o.second;
    third = put_other (3 * i + 2) (λ e. h (omega (arith, e))) ∙ o.third;
  }

  pub put_here : 3 * k + 3 ≤ length l → Three (put_three l k a b c) k a b c
  put_here h =
      let l1 : List ℕ = set l (3 * k) a in
      let l2 : List ℕ = set l1 (3 * k + 1) b in
      let n1 : length l1 ≡ length l = length-set l (3 * k) a in
      let n2 : length l2 ≡ length l1 = length-set l1 (3 * k + 1) b in
      record {
        first =
            get_or-set_other l2 (3 * k + 2) (3 * k) c 0 (λ e. omega (arith, e)) ∙ get_or-set_other l1 (3 * k + 1) (3 * k) b 0 (λ e. omega (arith, e))
            ∙ get_or-set_same l (3 * k) a 0 (omega arith);
        second = get_or-set_other l2 (3 * k + 2) (3 * k + 1) c 0 (λ e. omega (arith, e)) ∙ get_or-set_same l1 (3 * k + 1) b 0 (omega arith);
        third = get_or-set_same l2 (3 * k + 2) c 0 (omega arith);
      }

module _ (u v w : ℕ → ℕ) where
  pub from_none : (l : List ℕ) (a : ℕ) → ThreesFrom u v w l a a
  unfolding ThreesFrom
  from_none l a i h m = absurd (omega arith)

  from_more : (l : List ℕ) (m k : ℕ) {a b c : ℕ} → 3 * k + 3 ≤ length l → ThreesFrom u v w l m k → a ≡ u k → b ≡ v k → c ≡ w k
      → ThreesFrom u v w (put_three l k a b c) m (k + 1)
  unfolding ThreesFrom
  from_more l m k {a} {b} {c} h t ea eb ec i hm hi =
      elim (dec_lt i k) [
        | yes p ↦ three_other l k a b c i (λ e. omega (arith, e)) (t i hm p)
        | no p ↦
            let e : i ≡ k = omega arith in
            let o = put_here l k a b c h in
            subst (λ (j : ℕ). Three (put_three l k a b c) j (u j) (v j) (w j)) (sym e)
            (record { first = o.first ∙ ea; second = o.second ∙ eb; third = o.third ∙ ec })
      ]

  -- and so of the row that a call leaves
  pub from_put : (l l' : List ℕ) (m k : ℕ) {a b c : ℕ} → k < 1026 → length l ≡ 3078 → ThreesFrom u v w l m k → l' ≡ put_three l k a b c → a ≡ u k → b ≡ v k → c ≡ w k
      → (length l' ≡ 3078) × ThreesFrom u v w l' m (k + 1)
  from_put l l' m k {a} {b} {c} h n t e ea eb ec =
      (ap length e ∙ length_three l k a b c ∙ n, subst (λ x. ThreesFrom u v w x m (k + 1)) (sym e) (from_more l m k (omega (arith, n)) t ea eb ec))

  -- the same from the first word on
  pub threes_none : (l : List ℕ) → Threes u v w l 0
  unfolding Threes ThreesFrom
  threes_none l i h = from_none l 0 i (omega arith) h

  pub threes_put : (l l' : List ℕ) (k : ℕ) {a b c : ℕ} → k < 1026 → length l ≡ 3078 → Threes u v w l k → l' ≡ put_three l k a b c → a ≡ u k → b ≡ v k → c ≡ w k
      → (length l' ≡ 3078) × Threes u v w l' (k + 1)
  unfolding Threes ThreesFrom
  threes_put l l' k h n t e ea eb ec =
      let r = from_put l l' 0 k h n (λ i z m. t i m) e ea eb ec in
      (r.0, λ i m. r.1 i (omega arith) m)

  -- a list that is equal so far has the same numbers
  pub threes_copied : (l m : List ℕ) (k : ℕ) → Filled (λ j. get_or l j 0) 0 m (3 * k) → Threes u v w l k → Threes u v w m k
  unfolding Threes Filled
  threes_copied l m k f t i h =
      let o = t i h in
      record {
        first = f (3 * i) (omega arith) ∙ o.first;
        second = f (3 * i + 1) (omega arith) ∙ o.second;
        third = f (3 * i + 2) (omega arith) ∙ o.third;
      }

-- ---- the two words at the edges

-- the numbers of another word, where both are the same
abbrev copied : List ℕ → ℕ → ℕ → List ℕ
copied l from to = put_three l to (get_or l (3 * from) 0) (get_or l (3 * from + 1) 0) (get_or l (3 * from + 2) 0)

copied_here : (l : List ℕ) (from to : ℕ) {u v w : ℕ} → 3 * to + 3 ≤ length l → Three l from u v w → Three (copied l from to) to u v w
copied_here l from to h t =
    let o = put_here l to (get_or l (3 * from) 0) (get_or l (3 * from + 1) 0) (get_or l (3 * from + 2) 0) h in
    record { first = o.first ∙ t.first; second = o.second ∙ t.second; third = o.third ∙ t.third }

around_before : (n : ℕ) → 0 < n → around n n ≡ around n 0
unfolding around
around_before n h = let e : n + (n - 1) ≡ 0 + (n - 1) + n = omega arith in rw e (add-mod_right (0 + (n - 1)) n)

around_after : (n : ℕ) → 0 < n → around n 1 ≡ around n (n + 1)
unfolding around
around_after n h = let e : n + 1 + (n - 1) ≡ 1 + (n - 1) + n = omega arith in sym (rw e (add-mod_right (1 + (n - 1)) n))

around_zero : (n : ℕ) → 0 < n → around n 0 ≡ n - 1
unfolding around
around_zero n h = let e : 0 + (n - 1) ≡ n - 1 = omega arith in rw e (mod-eq_of_lt (omega arith))

-- word i stands at place i + 1
pub around_next : (n i : ℕ) → i < n → around n (i + 1) ≡ i
unfolding around
around_next n i h = let e : i + 1 + (n - 1) ≡ i + n = omega arith in rw e (add-mod_right i n ∙ mod-eq_of_lt h)

-- a row of which words 0, .., n - 1 are unpacked and the edges copied
pub row_closed : (n : ℕ) (word : ℕ → ℕ) (l l1 l2 : List ℕ) → 0 < n → n ≤ 1024 → length l ≡ 3078
    → ThreesFrom (λ i. lanes (colour_a (word (around n i)))) (λ i. lanes (colour_b (word (around n i)))) (λ i. word (around n i)) l 1 (n + 1)
    → l1 ≡ copied l n 0 → l2 ≡ copied l1 1 (n + 1) → WordRow n word l2
unfolding Threes ThreesFrom
row_closed n word l l1 l2 p q size t e1 e2 = record {
  size = ap length e2 ∙ length_three l1 (n + 1) _ _ _ ∙ size1;
  words = λ i h. subst (λ (x : List ℕ). At x i) (sym e2) (elim (dec_lt i (n + 1)) [
    | yes m ↦ three_other l1 (n + 1) _ _ _ i (λ z. omega (arith, z)) (below i m)
    | no m ↦
        let z : i ≡ n + 1 = omega arith in
        subst (At (copied l1 1 (n + 1))) (sym z)
        (subst (At2 (copied l1 1 (n + 1)) (n + 1)) (around_after n p) (copied_here l1 1 (n + 1) (omega (arith, size1)) (below 1 (omega arith))))
  ]);
}
  where
    -- the numbers of word X at place i
    At2 : List ℕ → ℕ → ℕ → Type 0
    At2 x i X = Three x i (lanes (colour_a (word X))) (lanes (colour_b (word X))) (word X)

    At : List ℕ → ℕ → Type 0
    At x i = At2 x i (around n i)

    size1 : length l1 ≡ 3078
    size1 = ap length e1 ∙ length_three l 0 _ _ _ ∙ size

    below : (i : ℕ) → i < n + 1 → At l1 i
    below i h = subst (λ (x : List ℕ). At x i) (sym e1) (elim (dec_lt 0 i) [
      | yes m ↦ three_other l 0 _ _ _ i (λ z. omega (arith, z)) (t i m h)
      | no m ↦
          let z : i ≡ 0 = omega arith in
          subst (At (copied l n 0)) (sym z)
          (subst (At2 (copied l n 0) 0) (around_before n p) (copied_here l n 0 (omega (arith, size)) (t n p (omega arith))))
    ])

-- ---- rows and windows

pub row_copied : (n : ℕ) (word : ℕ → ℕ) (l m : List ℕ) → WordRow n word l → Filled (λ j. get_or l j 0) 0 m (3 * (n + 2)) → length m ≡ 3078 → WordRow n word m
row_copied n word l m r f e = record { size = e; words = threes_copied _ _ _ l m (n + 2) f r.words }

-- a row that is copied stands for the same row of the words, however that is told
pub row_taken : (xb yb : ℕ) (s : List ℕ) (k y y' : ℕ) (l m : List ℕ) → k ≡ 2 ^ xb → y' ≡ y → WordRow (2 ^ xb) (λ X. word_at xb yb s X y') l
    → Filled (λ j. get_or l j 0) 0 m (3 * (k + 2)) → length m ≡ 3078 → WordRow (2 ^ xb) (λ X. word_at xb yb s X y) m
row_taken xb yb s k y y' l m e q r f n =
    row_copied (2 ^ xb) _ l m (subst (λ (z : ℕ). WordRow (2 ^ xb) (λ X. word_at xb yb s X z) l) q r) (rw e at f) n

-- the window at the top of the image
pub window_starts : (xb yb : ℕ) (s : List ℕ) (k : ℕ) (first last top bottom : List ℕ) → k ≡ 2 ^ xb → EndRows xb yb s first last
    → Filled (λ j. get_or last j 0) 0 top (3 * (k + 2)) → length top ≡ 3078 → Filled (λ j. get_or first j 0) 0 bottom (3 * (k + 2)) → length bottom ≡ 3078
    → Window xb yb s 0 top bottom
window_starts xb yb s k first last top bottom e o f n g m = record {
  above = row_taken xb yb s k (around (2 ^ yb) 0) (2 ^ yb - 1) last top e (sym (around_zero (2 ^ yb) (pow_pos yb))) o.at_last f n;
  below = row_taken xb yb s k (around (2 ^ yb) 1) 0 first bottom e (sym (around_next (2 ^ yb) 0 (pow_pos yb))) o.at_first g m;
}

-- a row of texels that needs no other rows of words
pub window_stays : (xb yb : ℕ) (s : List ℕ) (y : ℕ) (top bottom : List ℕ) → ((y + 2) % 4 ≡ 0 → ⊥) → Window xb yb s ((y + 1) / 4) top bottom
    → Window xb yb s ((y + 2) / 4) top bottom
window_stays xb yb s y top bottom h w =
    let e : (y + 1) / 4 ≡ (y + 2) / 4 = omega arith in
    subst (λ (k : ℕ). Window xb yb s k top bottom) e w

-- and one that needs the next: the bottom row is copied, and the one below it unpacked
pub window_moves : (xb yb : ℕ) (s : List ℕ) (y below : ℕ) (top bottom top' bottom' : List ℕ) → (y + 2) % 4 ≡ 0
    → Window xb yb s ((y + 1) / 4) top bottom → Filled (λ j. get_or bottom j 0) 0 top' (3 * (2 ^ xb + 2)) → length top' ≡ 3078
    → below ≡ around (2 ^ yb) ((y + 2) / 4 + 1) → WordRow (2 ^ xb) (λ X. word_at xb yb s X below) bottom' → Window xb yb s ((y + 2) / 4) top' bottom'
window_moves xb yb s y below top bottom top' bottom' h w f l e r =
    let d : (y + 1) / 4 + 1 ≡ (y + 2) / 4 = omega arith in
    record {
      above =
          row_copied (2 ^ xb) _ bottom top'
          (subst (λ (k : ℕ). WordRow (2 ^ xb) (λ X. word_at xb yb s X (around (2 ^ yb) k)) bottom) d w.below) f l;
      below = subst (λ (b : ℕ). WordRow (2 ^ xb) (λ X. word_at xb yb s X b) bottom') e r;
    }
