-- The pair of colours of a mode: it follows from the numbers that the mode takes, and its channels are bytes.
-- Assumes nothing.
use mathlib.Core.Path.{◌≡◌, refl, sym, subst}
use mathlib.Core.Bool.{Bool, true, false}
use mathlib.Core.List.{List, [], ◌∷◌}
use Prim.Native.Nat.{ℕ, zero, suc, ◌+◌, ◌*◌, ◌/◌, ◌≤◌, ◌<◌}
use native.Mathlib.Nat.{mul-le-mul}
use native.Mathlib.Omega.{arith}
use lib.Dec.{eqb, leb, ltb}
use lib.IntN.{ℤ, pos, ◌+ℤ◌}
use lib.ListN.{get_or}
use lib.Signed.{lt_z}
use borrow.Author.Tests.{eqb-true}
use Rattle.laws.specs.Choice.{pick}
use Rattle.laws.proofs.Filling.{tab_all}
use Rattle.encoding.specs.declared.Level.{Level}
use Rattle.endpoint_arithmetic.specs.declared.BaseOffset.{BaseOffset}
use Rattle.endpoint_arithmetic.specs.declared.EndpointPair.{EndpointPair}
use Rattle.endpoint_arithmetic.specs.Signed.{bit_transfer, plain_end, blue_end}
use Rattle.endpoint_arithmetic.specs.Pair.{zero_pair, luminance_pair, scaled_pair, rgb_sum, blue_of, direct_pair, raised_pair, contracted_pair, offset_pair}
use Rattle.endpoint_arithmetic.proofs.Laws.{clamped_le}
use Rattle.color_endpoint.specs.Modes.{level_at, no_level, low_luminance, high_luminance, opaque, mode0, mode1, mode4, mode5, mode6, mode8, mode9, mode10, mode12, mode13, pair_of}
use Rattle.color_endpoint.specs.Table.{start_of, numbers_from, entry_by, table_of}
use Rattle.color_endpoint.proofs.Laws.{table_at}

-- ---- the numbers that a mode takes

pick_same : {A : Type 0} (b : Bool) (x x' y y' : A) → (b ≡ true → x ≡ x') → y ≡ y' → pick b x y ≡ pick b x' y'
pick_same true x x' y y' h e = h refl
pick_same false x x' y y' h e = e

module _ (mode : ℕ) (v w : List Level) (same : (i : ℕ) → i < 2 * (mode / 4 + 1) → level_at v i ≡ level_at w i) where
  -- number i, where the mode is m
  at : (m i : ℕ) → eqb mode m ≡ true → i < 2 * (m / 4 + 1) → level_at v i ≡ level_at w i
  at m i e h = let q : mode ≡ m = eqb-true mode m e in same i (rw q h)

  pub pair_same : pair_of mode v ≡ pair_of mode w
  unfolding pair_of mode0 mode1 mode4 mode5 mode6 mode8 mode9 mode10 mode12 mode13
  pair_same =
      pick_same (eqb mode 0) (mode0 v) (mode0 w) _ _ (λ e j. luminance_pair (at 0 0 e (omega arith) j) (at 0 1 e (omega arith) j) 255 255)
      (pick_same (eqb mode 1) (mode1 v) (mode1 w) _ _
      (λ e j.
      let v0 = at 1 0 e (omega arith) j in
      let v1 = at 1 1 e (omega arith) j in
      luminance_pair (low_luminance v0 v1) (high_luminance v0 v1) 255 255)
      (pick_same (eqb mode 4) (mode4 v) (mode4 w) _ _
      (λ e j. luminance_pair (at 4 0 e (omega arith) j) (at 4 1 e (omega arith) j) (at 4 2 e (omega arith) j) (at 4 3 e (omega arith) j))
      (pick_same (eqb mode 5) (mode5 v) (mode5 w) _ _
      (λ e j.
      let l = bit_transfer (at 5 1 e (omega arith) j) (at 5 0 e (omega arith) j) in
      raised_pair l l l (bit_transfer (at 5 3 e (omega arith) j) (at 5 2 e (omega arith) j)))
      (pick_same (eqb mode 6) (mode6 v) (mode6 w) _ _
      (λ e j. scaled_pair (at 6 0 e (omega arith) j) (at 6 1 e (omega arith) j) (at 6 2 e (omega arith) j) (at 6 3 e (omega arith) j) 255 255)
      (pick_same (eqb mode 8) (mode8 v) (mode8 w) _ _
      (λ e j.
      direct_pair (at 8 0 e (omega arith) j ∷ at 8 2 e (omega arith) j ∷ at 8 4 e (omega arith) j ∷ 255 ∷ [])
      (at 8 1 e (omega arith) j ∷ at 8 3 e (omega arith) j ∷ at 8 5 e (omega arith) j ∷ 255 ∷ []))
      (pick_same (eqb mode 9) (mode9 v) (mode9 w) _ _
      (λ e j.
      offset_pair (bit_transfer (at 9 1 e (omega arith) j) (at 9 0 e (omega arith) j)) (bit_transfer (at 9 3 e (omega arith) j) (at 9 2 e (omega arith) j))
      (bit_transfer (at 9 5 e (omega arith) j) (at 9 4 e (omega arith) j)) opaque)
      (pick_same (eqb mode 10) (mode10 v) (mode10 w) _ _
      (λ e j.
      scaled_pair (at 10 0 e (omega arith) j) (at 10 1 e (omega arith) j) (at 10 2 e (omega arith) j) (at 10 3 e (omega arith) j)
      (at 10 4 e (omega arith) j) (at 10 5 e (omega arith) j))
      (pick_same (eqb mode 12) (mode12 v) (mode12 w) _ _
      (λ e j.
      direct_pair (at 12 0 e (omega arith) j ∷ at 12 2 e (omega arith) j ∷ at 12 4 e (omega arith) j ∷ at 12 6 e (omega arith) j ∷ [])
      (at 12 1 e (omega arith) j ∷ at 12 3 e (omega arith) j ∷ at 12 5 e (omega arith) j ∷ at 12 7 e (omega arith) j ∷ []))
      (pick_same (eqb mode 13) (mode13 v) (mode13 w) _ _
      (λ e j.
      offset_pair (bit_transfer (at 13 1 e (omega arith) j) (at 13 0 e (omega arith) j)) (bit_transfer (at 13 3 e (omega arith) j) (at 13 2 e (omega arith) j))
      (bit_transfer (at 13 5 e (omega arith) j) (at 13 4 e (omega arith) j)) (bit_transfer (at 13 7 e (omega arith) j) (at 13 6 e (omega arith) j)))
      refl)))))))))

-- ---- bytes

-- the channels of a pair are at most 255
pub record Bytes (p : EndpointPair) : Type 0 where
  pub first : (c : ℕ) → get_or p.e0 c 0 ≤ 255
  pub second : (c : ℕ) → get_or p.e1 c 0 ≤ 255

pick_bytes : (b : Bool) (p q : EndpointPair) → Bytes p → Bytes q → Bytes (pick b p q)
pick_bytes true p q h k = h
pick_bytes false p q h k = k

four : (r g b a : ℕ) → r ≤ 255 → g ≤ 255 → b ≤ 255 → a ≤ 255 → (c : ℕ) → get_or (r ∷ g ∷ b ∷ a ∷ []) c 0 ≤ 255
four r g b a hr hg hb ha zero = hr
four r g b a hr hg hb ha (suc zero) = hg
four r g b a hr hg hb ha (suc (suc zero)) = hb
four r g b a hr hg hb ha (suc (suc (suc zero))) = ha
four r g b a hr hg hb ha (suc (suc (suc (suc c)))) = omega arith

zero_bytes : Bytes zero_pair
unfolding zero_pair
zero_bytes = record {
  first = four 0 0 0 0 (omega arith) (omega arith) (omega arith) (omega arith);
  second = four 0 0 0 0 (omega arith) (omega arith) (omega arith) (omega arith);
}

luminance_bytes : (l0 l1 a0 a1 : ℕ) → l0 ≤ 255 → l1 ≤ 255 → a0 ≤ 255 → a1 ≤ 255 → Bytes (luminance_pair l0 l1 a0 a1)
unfolding luminance_pair
luminance_bytes l0 l1 a0 a1 h0 h1 k0 k1 = record { first = four l0 l0 l0 a0 h0 h0 h0 k0; second = four l1 l1 l1 a1 h1 h1 h1 k1 }

scaled_le : (x s : ℕ) → x ≤ 255 → s ≤ 255 → x * s / 256 ≤ 255
scaled_le x s h k = omega (arith, mul-le-mul {n₂ = 255} {m₂ = 255} h k)

scaled_bytes : (r g b s a0 a1 : ℕ) → r ≤ 255 → g ≤ 255 → b ≤ 255 → s ≤ 255 → a0 ≤ 255 → a1 ≤ 255 → Bytes (scaled_pair r g b s a0 a1)
unfolding scaled_pair
scaled_bytes r g b s a0 a1 hr hg hb hs k0 k1 = record {
  first = four (r * s / 256) (g * s / 256) (b * s / 256) a0 (scaled_le r s hr hs) (scaled_le g s hg hs) (scaled_le b s hb hs) k0;
  second = four r g b a1 hr hg hb k1;
}

plain_le : (r g b a : ℤ) (c : ℕ) → get_or (plain_end r g b a) c 0 ≤ 255
unfolding plain_end
plain_le r g b a = four _ _ _ _ (clamped_le r) (clamped_le g) (clamped_le b) (clamped_le a)

blue_le : (r g b a : ℤ) (c : ℕ) → get_or (blue_end r g b a) c 0 ≤ 255
unfolding blue_end
blue_le r g b a = plain_le _ _ b a

direct_bytes : (x y : List ℕ) → ((c : ℕ) → get_or x c 0 ≤ 255) → ((c : ℕ) → get_or y c 0 ≤ 255) → Bytes (direct_pair x y)
unfolding direct_pair blue_of
direct_bytes x y h k =
    pick_bytes (leb (rgb_sum x) (rgb_sum y)) _ _ (record { first = h; second = k })
    (record { first = blue_le _ _ _ _; second = blue_le _ _ _ _ })

raised_bytes : (r g b a : BaseOffset) → Bytes (raised_pair r g b a)
unfolding raised_pair
raised_bytes r g b a = record { first = plain_le _ _ _ _; second = plain_le _ _ _ _ }

contracted_bytes : (r g b a : BaseOffset) → Bytes (contracted_pair r g b a)
unfolding contracted_pair
contracted_bytes r g b a = record { first = blue_le _ _ _ _; second = blue_le _ _ _ _ }

offset_bytes : (r g b a : BaseOffset) → Bytes (offset_pair r g b a)
unfolding offset_pair
offset_bytes r g b a =
    pick_bytes (lt_z (r.offset +ℤ g.offset +ℤ b.offset) (pos 0)) _ _ (contracted_bytes r g b a) (raised_bytes r g b a)

low_le : (v0 v1 : ℕ) → v0 ≤ 255 → v1 ≤ 255 → low_luminance v0 v1 ≤ 255
unfolding low_luminance
low_le v0 v1 h k = omega arith

high_le : (v0 v1 : ℕ) → high_luminance v0 v1 ≤ 255
unfolding high_luminance
high_le v0 v1 = omega arith

module _ (v : List Level) (l : (i : ℕ) → level_at v i ≤ 255) where
  pub pair_bytes : (mode : ℕ) → Bytes (pair_of mode v)
  unfolding pair_of mode0 mode1 mode4 mode5 mode6 mode8 mode9 mode10 mode12 mode13
  pair_bytes mode =
      let full : 255 ≤ 255 = omega arith in
      pick_bytes (eqb mode 0) (mode0 v) _ (luminance_bytes _ _ 255 255 (l 0) (l 1) full full)
      (pick_bytes (eqb mode 1) (mode1 v) _ (luminance_bytes _ _ 255 255 (low_le _ _ (l 0) (l 1)) (high_le _ _) full full)
      (pick_bytes (eqb mode 4) (mode4 v) _ (luminance_bytes _ _ _ _ (l 0) (l 1) (l 2) (l 3))
      (pick_bytes (eqb mode 5) (mode5 v) _ (raised_bytes _ _ _ _)
      (pick_bytes (eqb mode 6) (mode6 v) _ (scaled_bytes _ _ _ _ 255 255 (l 0) (l 1) (l 2) (l 3) full full)
      (pick_bytes (eqb mode 8) (mode8 v) _ (direct_bytes _ _ (four _ _ _ 255 (l 0) (l 2) (l 4) full) (four _ _ _ 255 (l 1) (l 3) (l 5) full))
      (pick_bytes (eqb mode 9) (mode9 v) _ (offset_bytes _ _ _ _)
      (pick_bytes (eqb mode 10) (mode10 v) _ (scaled_bytes _ _ _ _ _ _ (l 0) (l 1) (l 2) (l 3) (l 4) (l 5))
      (pick_bytes (eqb mode 12) (mode12 v) _ (direct_bytes _ _ (four _ _ _ _ (l 0) (l 2) (l 4) (l 6)) (four _ _ _ _ (l 1) (l 3) (l 5) (l 7)))
      (pick_bytes (eqb mode 13) (mode13 v) _ (offset_bytes _ _ _ _)
      zero_bytes)))))))))

-- the pairs of a table, from levels up to 255
module _ (modes : List ℕ) (count : ℕ) (levels : List Level) (l : (i : ℕ) → level_at levels i ≤ 255) where
  numbers_le : (start i : ℕ) → level_at (numbers_from levels start) i ≤ 255
  unfolding numbers_from
  numbers_le start i = tab_all (λ x. x.0 ≤ 255) (λ k. get_or levels (start + k) no_level) no_level (λ k. l (start + k)) (omega arith) 8 i

  entry_bytes : (p : ℕ) → Bytes (entry_by pair_of zero_pair modes count levels p)
  unfolding entry_by
  entry_bytes p = pick_bytes (ltb p count) (pair_of (get_or modes p 0) (numbers_from levels (start_of modes p))) zero_pair (pair_bytes (numbers_from levels (start_of modes p)) (numbers_le (start_of modes p)) (get_or modes p 0)) zero_bytes

  pub table_bytes : (p : ℕ) (d : EndpointPair) → p < 4 → Bytes (get_or (table_of modes count levels) p d)
  table_bytes p d h = subst Bytes (sym (table_at pair_of zero_pair modes levels count p d h)) (entry_bytes p)
