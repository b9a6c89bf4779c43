-- Steps of the loops that read and write fields.
-- Assumes nothing.
use mathlib.Core.Path.{◌≡◌, refl, sym, ap, subst, ◌∙◌}
use mathlib.Core.List.{List}
use Prim.Native.Nat.{ℕ, zero, suc, ◌+◌, ◌*◌, ◌%◌, ◌^◌, ◌≤◌, ◌<◌}
use native.Mathlib.Nat.{mod-eq_of_lt, add_comm, lt_of_lt_of_le, div-one}
use native.Mathlib.Numerals.{add-one}
use native.Mathlib.Omega.{arith}
use lib.ListN.{get_or}
use lib.Pow.{pow_mono}
use Rattle.bits.specs.Field.{field, stream}
use Rattle.bits.proofs.Fields.{pos_mono, stream_lt}
use Rattle.bc7_layout.specs.Layout.{field_width, place_of}
use Rattle.bc7_layout.proofs.Tables.{filled_block, width_most}
use Rattle.bc7_codec.specs.inner.Pieces.{FieldsFit}

-- ---- places

pub next_place : (m p k w at : ℕ) → at ≡ place_of m p k → w ≡ field_width m p k → w + at ≡ place_of m p (k + 1)
unfolding place_of
next_place m p k w at e f = rw (add-one k, e, f)

pub place_start : (m p : ℕ) → 0 ≡ place_of m p 0
unfolding place_of
place_start m p = refl

-- no field has more than eight bits
pub place_bound : (m p k : ℕ) → m < 8 → place_of m p k ≤ 8 * k
unfolding place_of
place_bound m p zero h = omega arith
place_bound m p (suc k) h = omega (arith, place_bound m p k h, width_most m p k h)

-- ---- piling

next : (m p k : ℕ) → place_of m p (suc k) ≡ field_width m p k + place_of m p k
unfolding place_of
next m p k = refl

-- what lies below bit p is kept
below_kept : (B p : ℕ) → B < 2 ^ p → field B 0 p ≡ B
unfolding field
below_kept B p h = rw (div-one B) (mod-eq_of_lt h)

module _ (f : List ℕ) (m p : ℕ) (h : FieldsFit f m p) where
  below : (k : ℕ) → stream (place_of m p) (λ i. get_or f i 0) k < 2 ^ place_of m p k
  below k = stream_lt (place_of m p) (field_width m p) (next m p) (λ i. get_or f i 0) h.fields k

  room : (k : ℕ) → k ≤ 60 → place_of m p k ≤ 128
  room k l =
      subst (λ (n : ℕ). place_of m p k ≤ n) (filled_block m p h.mode h.partition) (pos_mono (place_of m p) (field_width m p) (next m p) 60 k l)

  stream_next : (k : ℕ) → stream (place_of m p) (λ i. get_or f i 0) (k + 1)
      ≡ get_or f k 0 * 2 ^ place_of m p k + stream (place_of m p) (λ i. get_or f i 0) k
  unfolding stream
  stream_next k = rw (add-one k)

  -- one field more
  pub piled : (k b at x : ℕ) → k < 60 → b ≡ stream (place_of m p) (λ i. get_or f i 0) k → at ≡ place_of m p k → x ≡ get_or f k 0
      → (field b 0 at + x * 2 ^ at) % 2 ^ 128 ≡ stream (place_of m p) (λ i. get_or f i 0) (k + 1)
  piled k b at x l eb ea ex =
      let S = stream (place_of m p) (λ i. get_or f i 0) k in
      let q = place_of m p k in
      (λ t. (field (eb t) 0 (ea t) + ex t * 2 ^ ea t) % 2 ^ 128)
      ∙ ap (λ (n : ℕ). (n + get_or f k 0 * 2 ^ q) % 2 ^ 128) (below_kept S q (below k))
      ∙ ap (λ (n : ℕ). n % 2 ^ 128) (add_comm S (get_or f k 0 * 2 ^ q) ∙ sym (stream_next k))
      ∙ mod-eq_of_lt (lt_of_lt_of_le (below (k + 1)) (pow_mono (room (k + 1) (omega arith))))
