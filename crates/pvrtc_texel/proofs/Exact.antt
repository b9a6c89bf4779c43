-- The list of words that count is exact.
-- Assumes nothing.
use mathlib.Core.Path.{◌≡◌, sym, ap, subst, ◌∙◌}
use mathlib.Core.Bool.{Bool, true, false}
use mathlib.Core.List.{List, Memᴰ}
use Prim.Native.Nat.{ℕ, ◌+◌, ◌*◌, ◌/◌, ◌%◌, ◌^◌, ◌<◌}
use native.Mathlib.Nat.{mul-le-mul, mod-eq_of_lt}
use native.Mathlib.Omega.{arith}
use lib.Dec.{eqb}
use lib.ListN.{length, take, drop, get_or, length-take, length-drop}
use lib.Seq.{get_or-take, get_or-drop, ext_get_or}
use borrow.Author.Tests.{eq-eqb, ne_eqb}
use Rattle.laws.specs.Table.{tab}
use Rattle.laws.proofs.Filling.{length_tab, get_or_tab, tab_all}
use Rattle.bits.specs.Field.{field}
use Rattle.bits.specs.Block.{number_of, bytes_of}
use Rattle.bits.proofs.Fields.{field_lt}
use Rattle.bits.proofs.Blocks.{bytes_length, number_bytes}
use Rattle.pvrtc_order.specs.Order.{word_place}
use Rattle.pvrtc_order.proofs.Once.{once}
use Rattle.pvrtc_texel.specs.Texel.{texel_at}
use Rattle.pvrtc_texel.specs.Image.{word_at_place, word_at, image_texel}
use Rattle.pvrtc_texel.specs.Counting.{counting_along, counting_words, Counts, ExactEverywhere}
use Rattle.pvrtc_texel.proofs.Local.{along_lt, counting_length, texel_same, in_places, places_length, Listed, listed}
use Rattle.pvrtc_texel.proofs.Each.{lit, some_red, no_red}

-- ---- an image with given words

module _ (f : ℕ → ℕ) (N : ℕ) where
  byte_in : ℕ → ℕ
  byte_in k = field (f (k / 8)) (8 * (k % 8)) 8

  image_of : List ℕ
  unfolding byte_in
  image_of = tab byte_in (8 * N)

  image_length : length image_of ≡ 8 * N
  unfolding image_of
  image_length = length_tab byte_in (8 * N)

  image_bytes_lem : (k : ℕ) → get_or image_of k 0 < 256
  unfolding image_of
  image_bytes_lem k = tab_all (λ (v : ℕ). v < 256) byte_in 0 (λ i. field_lt (f (i / 8)) (8 * (i % 8)) 8) (omega arith) (8 * N) k

  byte_of : (q i : ℕ) → i < 8 → byte_in (8 * q + i) ≡ field (f q) (8 * i) 8
  unfolding byte_in
  byte_of q i h =
      let d : (8 * q + i) / 8 ≡ q = omega arith in
      let r : (8 * q + i) % 8 ≡ i = omega arith in
      rw (d, r)

  -- its words again
  word_back : (q : ℕ) → q < N → f q < 2 ^ 64 → word_at_place image_of q ≡ f q
  unfolding word_at_place image_of bytes_of
  word_back q h l = ap number_of same ∙ number_bytes 8 (f q) ∙ mod-eq_of_lt l where
    size : length (take 8 (drop (8 * q) image_of)) ≡ 8
    size = simp (length-take, length-drop) (omega (arith, image_length))

    same : take 8 (drop (8 * q) image_of) ≡ bytes_of 8 (f q)
    same =
        ext_get_or 0 _ _ (size ∙ sym (bytes_length 8 (f q)))
        (λ i m. let m8 : i < 8 = subst (λ (n : ℕ). i < n) size m in
        get_or-take 8 (drop (8 * q) image_of) i 0 m8 ∙ get_or-drop (8 * q) image_of i 0 ∙ get_or_tab byte_in (8 * N) (8 * q + i) 0 (omega arith) ∙ byte_of q i m8
        ∙ sym (get_or_tab (λ k. field (f q) (8 * k) 8) 8 i 0 m8))

lit_lt : (t : Bool) → lit t < 2 ^ 64
lit_lt true = omega arith
lit_lt false = omega arith

module _ (a b x y : ℕ) (hx : x < 4 * 2 ^ a) (hy : y < 4 * 2 ^ b) where
  N : ℕ
  N = 2 ^ a * 2 ^ b

  -- an image whose words are lit by their places
  lights : (ℕ → Bool) → List ℕ
  unfolding N
  lights on = image_of (λ q. lit (on q)) N

  light : (on : ℕ → Bool) (q : ℕ) → q < N → word_at_place (lights on) q ≡ lit (on q)
  unfolding lights
  light on q h = word_back (λ p. lit (on p)) N q h (lit_lt (on q))

  texel_of_lem : (on : ℕ → Bool) → image_texel a b (lights on) x y 0 ≡ texel_at (2 ^ a) (2 ^ b) (λ X Y. lit (on (word_place a b X Y))) x y 0
  unfolding image_texel word_at N
  texel_of_lem on =
      texel_same (2 ^ a) (2 ^ b) (word_at a b (lights on)) (λ X Y. lit (on (word_place a b X Y))) x y hx hy
      (λ X Y i j. light on (word_place a b X Y) ((once a b).inside X Y (along_lt (2 ^ a) x hx X i) (along_lt (2 ^ b) y hy Y j))) 0

  places : (p : ℕ) → Memᴰ p (counting_words a b x y) → Listed a b (counting_along (2 ^ a) x) (counting_along (2 ^ b) y) p
  unfolding counting_words
  places p i = listed a b p (counting_along (2 ^ a) x) (counting_along (2 ^ b) y) i

  counts : (p : ℕ) → Memᴰ p (counting_words a b x y) → Counts a b x y p
  unfolding lights N
  counts p i = record {
    one = lights (λ q. false);
    other = lights (λ q. eqb q p);
    one_whole = image_length _ N;
    other_whole = image_length _ N;
    one_bytes = image_bytes_lem _ N;
    other_bytes = image_bytes_lem _ N;
    elsewhere = λ q h d. light (λ r. false) q h ∙ ap lit (sym (ne_eqb q p d)) ∙ sym (light (λ r. eqb r p) q h);
    differ = λ e.
        let l = places p i in
        let none = texel_of_lem (λ q. false) ∙ no_red (2 ^ a) (2 ^ b) x y in
        let some = some_red (2 ^ a) (2 ^ b) (λ X Y. eqb (word_place a b X Y) p) x y l.column l.row l.in_columns l.in_rows (eq-eqb _ p (sym l.place)) in
        omega (arith, none, some, e, texel_of_lem (λ q. eqb q p));
  }

pub exact : ExactEverywhere
unfolding counting_words image_texel word_at
exact a b x y hx hy = record {
  at_most_four =
      rw (places_length a b (counting_along (2 ^ a) x) (counting_along (2 ^ b) y))
      (mul-le-mul {n₂ = 2} {m₂ = 2} (counting_length (2 ^ b) y) (counting_length (2 ^ a) x));
  inside = λ p i.
      let l = places a b x y hx hy p i in
      rw l.place ((once a b).inside l.column l.row (along_lt (2 ^ a) x hx l.column l.in_columns) (along_lt (2 ^ b) y hy l.row l.in_rows));
  no_other = λ s t e c.
      texel_same (2 ^ a) (2 ^ b) (word_at a b s) (word_at a b t) x y hx hy
      (λ X Y i j. e (word_place a b X Y) (in_places a b i j)) c;
  each = counts a b x y hx hy;
}
