-- The pair of kind 2 follows from the numbers that its mode takes, and its ends have 16 bits.
-- Assumes nothing.
use mathlib.Core.Path.{◌≡◌, refl, ap, ◌∙◌}
use mathlib.Core.Bool.{Bool, true, false, not}
use mathlib.Core.List.{List}
use Prim.Native.Nat.{ℕ, ◌+◌, ◌*◌, ◌/◌, ◌≤◌, ◌<◌}
use native.Mathlib.Omega.{arith}
use lib.Dec.{eqb}
use lib.ListN.{get_or}
use borrow.Author.Tests.{eqb-true}
use Rattle.laws.specs.Choice.{pick, either}
use Rattle.encoding.specs.declared.Level.{Level}
use Rattle.hdr_endpoint.specs.declared.HdrPair.{HdrPair}
use Rattle.hdr_endpoint.specs.Parts.{one_hdr}
use Rattle.hdr_endpoint.specs.Direct.{direct, alphas_of}
use Rattle.hdr_endpoint.proofs.Bounds.{four, large_twelve, small_twelve, scale_twelve, direct_twelve, alphas_twelve}
use Rattle.hdr_endpoint.specs.inner.Bounds.{Twelve}
use Rattle.color_endpoint.specs.Modes.{level_at, pair_of, is_hdr}
use Rattle.color_endpoint.proofs.Pairs.{pair_same, pair_bytes}
use Rattle.interpolation.specs.Expansion.{replicated}
use Rattle.half_pair.specs.declared.HalfPair.{HalfPair}
use Rattle.half_pair.specs.Pair.{mode11, mode14, mode15, hdr_pair_of, expand_half, half_end, expanded_hdr, expanded_ldr, half_pair_of}
use Rattle.half_pair.specs.inner.Room.{Room}
use Rattle.half_pair.proofs.Laws.{room_12, room_8, direct_alpha}

-- ---- the numbers that a mode takes

by_pick : {A : Type 0} (b : Bool) (x x' y y' : A) → (b ≡ true → x ≡ x') → (b ≡ false → y ≡ y') → pick b x y ≡ pick b x' y'
by_pick true x x' y y' h k = h refl
by_pick false x x' y y' h k = k refl

last_hdr : (b2 b3 b7 b11 b14 b15 : Bool) → b2 ≡ false → b3 ≡ false → b7 ≡ false → b11 ≡ false → b14 ≡ false
    → either b2 (either b3 (either b7 (either b11 (either b14 b15)))) ≡ true → b15 ≡ true
last_hdr b2 b3 b7 b11 b14 b15 e2 e3 e7 e11 e14 h = rw (e2, e3, e7, e11, e14) at h

module _ (mode : ℕ) (v w : List Level) (same : (i : ℕ) → i < 2 * (mode / 4 + 1) → level_at v i ≡ level_at w i) where
  -- number i, where the mode is m
  at : (m i : ℕ) → eqb mode m ≡ true → i < 2 * (m / 4 + 1) → level_at v i ≡ level_at w i
  at m i e h = let q : mode ≡ m = eqb-true mode m e in same i (rw q h)

  -- six numbers of RGB
  rgb : (m : ℕ) (e : eqb mode m ≡ true) → 6 ≤ 2 * (m / 4 + 1) → (x y : ℕ)
      → direct (level_at v 0) (level_at v 1) (level_at v 2) (level_at v 3) (level_at v 4) (level_at v 5) x y ≡ direct (level_at w 0) (level_at w 1) (level_at w 2) (level_at w 3) (level_at w 4) (level_at w 5) x y
  rgb m e h x y = rw (at m 0 e (omega arith), at m 1 e (omega arith), at m 2 e (omega arith), at m 3 e (omega arith), at m 4 e (omega arith), at m 5 e (omega arith))

  same_11 : eqb mode 11 ≡ true → mode11 v ≡ mode11 w
  unfolding mode11
  same_11 e = rgb 11 e (omega arith) one_hdr one_hdr

  same_14 : eqb mode 14 ≡ true → mode14 v ≡ mode14 w
  unfolding mode14
  same_14 e = rgb 14 e (omega arith) (level_at v 6) (level_at v 7) ∙ rw (at 14 6 e (omega arith), at 14 7 e (omega arith))

  same_15 : eqb mode 15 ≡ true → mode15 v ≡ mode15 w
  unfolding mode15
  same_15 e = rgb 15 e (omega arith) (alphas_of (level_at v 6) (level_at v 7)).0 (alphas_of (level_at v 6) (level_at v 7)).1 ∙ rw (at 15 6 e (omega arith), at 15 7 e (omega arith))

  hdr_same : is_hdr mode ≡ true → hdr_pair_of mode v ≡ hdr_pair_of mode w
  unfolding hdr_pair_of is_hdr
  hdr_same h =
      by_pick (eqb mode 2) _ _ _ _ (λ e. rw (at 2 0 e (omega arith), at 2 1 e (omega arith))) (λ n2.
      by_pick (eqb mode 3) _ _ _ _ (λ e. rw (at 3 0 e (omega arith), at 3 1 e (omega arith))) (λ n3.
      by_pick (eqb mode 7) _ _ _ _ (λ e. rw (at 7 0 e (omega arith), at 7 1 e (omega arith), at 7 2 e (omega arith), at 7 3 e (omega arith))) (λ n7.
      by_pick (eqb mode 11) _ _ _ _ same_11 (λ n11.
      by_pick (eqb mode 14) _ _ _ _ same_14 (λ n14. same_15 (last_hdr _ _ _ _ _ _ n2 n3 n7 n11 n14 h))))))

  pub half_same : half_pair_of mode v ≡ half_pair_of mode w
  unfolding half_pair_of
  half_same =
      by_pick (is_hdr mode) _ _ _ _ (λ e. ap (expanded_hdr (not (eqb mode 14))) (hdr_same e)) (λ n. ap expanded_ldr (pair_same mode v w same))

-- ---- 16 bits

record Rooms (alpha : Bool) (p : HdrPair) : Type 0 where
  first : Room alpha p.e0
  second : Room alpha p.e1

pick_rooms : (b alpha : Bool) (p q : HdrPair) → (b ≡ true → Rooms alpha p) → (b ≡ false → Rooms alpha q) → Rooms alpha (pick b p q)
pick_rooms true alpha p q h k = h refl
pick_rooms false alpha p q h k = k refl

whole : {p : HdrPair} → Twelve p → Rooms true p
whole t = record { first = room_12 t.first; second = room_12 t.second }

module _ (v : List Level) (l : (i : ℕ) → level_at v i ≤ 255) where
  -- the alpha is HDR where the mode is not 14
  other : (mode m : ℕ) (p : HdrPair) → eqb mode m ≡ true → eqb m 14 ≡ false → Twelve p → Rooms (not (eqb mode 14)) p
  other mode m p e n t = let q : mode ≡ m = eqb-true mode m e in rw (q, n) (whole t)

  byte_alphas : Rooms false (mode14 v)
  unfolding mode14
  byte_alphas =
      let t = direct_twelve (level_at v 6) (level_at v 7) (omega (arith, l 6)) (omega (arith, l 7)) (level_at v 0) (level_at v 1) (level_at v 2) (level_at v 3) (level_at v 4) (level_at v 5) (l 0) (l 1) (l 2) (l 3) in
      let a = direct_alpha (level_at v 0) (level_at v 1) (level_at v 2) (level_at v 3) (level_at v 4) (level_at v 5) (level_at v 6) (level_at v 7) in
      record { first = room_8 t.first (omega (arith, a.first, l 6)); second = room_8 t.second (omega (arith, a.second, l 7)) }

  twelve_11 : Twelve (mode11 v)
  unfolding mode11
  twelve_11 = direct_twelve one_hdr one_hdr (omega arith) (omega arith) (level_at v 0) (level_at v 1) (level_at v 2) (level_at v 3) (level_at v 4) (level_at v 5) (l 0) (l 1) (l 2) (l 3)

  twelve_15 : Twelve (mode15 v)
  unfolding mode15
  twelve_15 =
      let a = alphas_twelve (level_at v 6) (level_at v 7) (l 6) (l 7) in
      direct_twelve _ _ a.first a.second (level_at v 0) (level_at v 1) (level_at v 2) (level_at v 3) (level_at v 4) (level_at v 5) (l 0) (l 1) (l 2) (l 3)

  hdr_rooms : (mode : ℕ) → Rooms (not (eqb mode 14)) (hdr_pair_of mode v)
  unfolding hdr_pair_of
  hdr_rooms mode =
      pick_rooms (eqb mode 2) _ _ _ (λ e. other mode 2 _ e refl (large_twelve _ _ (l 0) (l 1))) (λ n2.
      pick_rooms (eqb mode 3) _ _ _ (λ e. other mode 3 _ e refl (small_twelve _ _ (l 1))) (λ n3.
      pick_rooms (eqb mode 7) _ _ _ (λ e. other mode 7 _ e refl (scale_twelve _ _ _ _)) (λ n7.
      pick_rooms (eqb mode 11) _ _ _ (λ e. other mode 11 _ e refl twelve_11) (λ n11.
      pick_rooms (eqb mode 14) _ _ _ (λ e. rw e byte_alphas) (λ n14. rw n14 (whole twelve_15))))))

-- the ends of a pair are numbers of 16 bits
pub record Sixteen (p : HalfPair) : Type 0 where
  pub first : (c : ℕ) → get_or p.c0 c 0 ≤ 65535
  pub second : (c : ℕ) → get_or p.c1 c 0 ≤ 65535

hdr_le : (c : ℕ) → c ≤ 4095 → expand_half true c ≤ 65535
unfolding expand_half
hdr_le c h = omega arith

ldr_le : (c : ℕ) → c ≤ 255 → expand_half false c ≤ 65535
unfolding expand_half replicated
ldr_le c h = omega arith

end_le : (alpha : Bool) (e : List ℕ) → Room alpha e → (c : ℕ) → get_or (half_end true alpha e) c 0 ≤ 65535
unfolding half_end
end_le true e r = four 65535 _ _ _ _ (hdr_le _ (r.twelve 0)) (hdr_le _ (r.twelve 1)) (hdr_le _ (r.twelve 2)) (hdr_le _ (r.twelve 3))
end_le false e r = four 65535 _ _ _ _ (hdr_le _ (r.twelve 0)) (hdr_le _ (r.twelve 1)) (hdr_le _ (r.twelve 2)) (ldr_le _ (r.last refl))

bytes_le : (e : List ℕ) → ((c : ℕ) → get_or e c 0 ≤ 255) → (c : ℕ) → get_or (half_end false false e) c 0 ≤ 65535
unfolding half_end
bytes_le e h = four 65535 _ _ _ _ (ldr_le _ (h 0)) (ldr_le _ (h 1)) (ldr_le _ (h 2)) (ldr_le _ (h 3))

pick_sixteen : (b : Bool) (p q : HalfPair) → Sixteen p → Sixteen q → Sixteen (pick b p q)
pick_sixteen true p q h k = h
pick_sixteen false p q h k = k

pub half_sixteen : (mode : ℕ) (v : List Level) → ((i : ℕ) → level_at v i ≤ 255) → Sixteen (half_pair_of mode v)
unfolding half_pair_of expanded_hdr expanded_ldr
half_sixteen mode v l =
    let r = hdr_rooms v l mode in
    let b = pair_bytes v l mode in
    pick_sixteen (is_hdr mode) (expanded_hdr (not (eqb mode 14)) (hdr_pair_of mode v)) (expanded_ldr (pair_of mode v))
    (record { first = end_le (not (eqb mode 14)) (hdr_pair_of mode v).e0 r.first; second = end_le (not (eqb mode 14)) (hdr_pair_of mode v).e1 r.second })
    (record { first = bytes_le (pair_of mode v).e0 b.first; second = bytes_le (pair_of mode v).e1 b.second })
