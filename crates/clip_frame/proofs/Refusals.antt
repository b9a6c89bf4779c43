-- The refusals of a frame, and what holds where there is none.
-- Assumes nothing.
use Prim.Native.Nat.{ℕ, ◌+◌, ◌-◌, ◌*◌, ◌/◌, ◌^◌, ◌≤◌, ◌<◌}
use mathlib.Core.Path.{◌≡◌, refl, sym, ap, ◌∙◌}
use mathlib.Core.Bool.{Bool, true, false, not}
use mathlib.Core.List.{List, [], ◌∷◌}
use native.Mathlib.Decide.{dec_le}
use native.Mathlib.Nat.{mul-le-mul, mul-le-mul_left, mul-le-mul_right, div-mul-le_self}
use native.Mathlib.Omega.{arith}
use lib.Dec.{eqb, ltb}
use borrow.Author.Tests.{eq-eqb, ne_eqb, eqb-true, not-false, lt-ltb, le-ltb}
use Rattle.laws.specs.Choice.{pick, either}
use Rattle.laws.specs.Reasons.{Reason, when, first_of}
use Rattle.laws.proofs.Reasons.{first_none}
use Rattle.reason.specs.declared.Refusal.{Refusal}
use Rattle.reason.specs.Numbers.{refusal_number}
use Rattle.reason.proofs.Told.{refusal_some}
use Rattle.footprint.specs.Footprint.{width_of, height_of}
use Rattle.footprint.proofs.Laws.{flat_bounds}
use Rattle.image_size.specs.Sides.{size_refusal, bad_side, blocks_across, blocks_of}
use Rattle.image_size.proofs.Laws.{limit_le, sized, side_fine}
use Rattle.clip_frame.specs.declared.Frame.{Frame}
use Rattle.clip_frame.specs.Frame.{blocks_in, frame_reasons, frame_refusal, write_refusal}
use Rattle.clip_frame.specs.inner.Frame.{own_refusal}

-- ---- 1, 2 and 3, and what comes behind them

past : (a b c : Bool) (r : ℕ) → ◌≡◌ {A = ℕ} (pick a 1 (pick b 2 (pick c 3 0))) 0 → ◌≡◌ {A = ℕ} (pick a 1 (pick b 2 (pick c 3 r))) r
past true b c r e = absurd (omega (arith, e))
past false true c r e = absurd (omega (arith, e))
past false false true r e = absurd (omega (arith, e))
past false false false r e = refl

before : (a b c : Bool) (r : ℕ) → (◌≡◌ {A = ℕ} (pick a 1 (pick b 2 (pick c 3 0))) 0 → ⊥) → ◌≡◌ {A = ℕ} (pick a 1 (pick b 2 (pick c 3 r))) (pick a 1 (pick b 2 (pick c 3 0)))
before true b c r e = refl
before false true c r e = refl
before false false true r e = refl
before false false false r e = absurd (e refl)

module _ (f : Frame) (rest : List Reason) where
  pub own_none : own_refusal f ≡ 0 → first_of (frame_reasons f rest) ≡ first_of rest
  unfolding own_refusal
  own_none e = past (ltb 13 f.footprint) (ltb 2 f.kind) (either (bad_side f.width) (bad_side f.height)) (first_of rest) e

  pub own_first : (own_refusal f ≡ 0 → ⊥) → first_of (frame_reasons f rest) ≡ own_refusal f
  unfolding own_refusal
  own_first e = before (ltb 13 f.footprint) (ltb 2 f.kind) (either (bad_side f.width) (bad_side f.height)) (first_of rest) e

module _ (f : Frame) where
  pub own_1 : 13 < f.footprint → 1 ≡ own_refusal f
  unfolding own_refusal
  own_1 a = rw (lt-ltb 13 f.footprint a)

  pub own_2 : f.footprint ≤ 13 → 2 < f.kind → 2 ≡ own_refusal f
  unfolding own_refusal
  own_2 a b = rw (le-ltb 13 f.footprint a, lt-ltb 2 f.kind b)

  pub own_3 : f.footprint ≤ 13 → f.kind ≤ 2 → size_refusal f.footprint f.width f.height ≡ own_refusal f
  unfolding own_refusal size_refusal
  own_3 a b = rw (le-ltb 13 f.footprint a, le-ltb 2 f.kind b)

pub size_fine : (f : Frame) → own_refusal f ≡ 0 → size_refusal f.footprint f.width f.height ≡ 0
unfolding own_refusal size_refusal
size_fine f e = let p = first_none (frame_reasons f []) tt e in rw (p.0, p.1.1.0)

-- ---- a reader's and a writer's refusal, as their functions find it: by 1, 2 and 3, or by what comes behind, b being the count of blocks

module _ (f : Frame) (n : ℕ) where
  abbrev behind : List Reason
  behind = when (not (eqb n (6 + 16 * blocks_in f))) 52 ∷ []

  pub frame_own : (r : Refusal) → refusal_number r ≡ own_refusal f → refusal_number r ≡ frame_refusal f n
  unfolding frame_refusal
  frame_own r o = o ∙ sym (own_first f behind (λ e. omega (arith, refusal_some r, o, e)))

  module _ (z : 0 ≡ own_refusal f) {b : ℕ} (eb : b ≡ blocks_in f) where
    pub frame_52 : (n ≡ 6 + 16 * b → ⊥) → 52 ≡ frame_refusal f n
    unfolding frame_refusal
    frame_52 h = sym (own_none f behind (sym z) ∙ rw (ne_eqb n (6 + 16 * blocks_in f) (λ e. h (e ∙ ap (λ (k : ℕ). 6 + 16 * k) (sym eb)))))

    pub frame_0 : n ≡ 6 + 16 * b → 0 ≡ frame_refusal f n
    unfolding frame_refusal
    frame_0 h = sym (own_none f behind (sym z) ∙ rw (eq-eqb n (6 + 16 * blocks_in f) (h ∙ ap (λ (k : ℕ). 6 + 16 * k) eb)))

module _ (f : Frame) (n m : ℕ) where
  abbrev last : List Reason
  last = when (not (eqb n (16 * blocks_in f))) 4 ∷ when (not (eqb m (10 + n))) 5 ∷ []

  pub write_own : (r : Refusal) → refusal_number r ≡ own_refusal f → refusal_number r ≡ write_refusal f n m
  unfolding write_refusal
  write_own r o = o ∙ sym (own_first f last (λ e. omega (arith, refusal_some r, o, e)))

  module _ (z : 0 ≡ own_refusal f) {b : ℕ} (eb : b ≡ blocks_in f) where
    pub write_4 : (n ≡ 16 * b → ⊥) → 4 ≡ write_refusal f n m
    unfolding write_refusal
    write_4 h = sym (own_none f last (sym z) ∙ rw (ne_eqb n (16 * blocks_in f) (λ e. h (e ∙ ap (λ (k : ℕ). 16 * k) (sym eb)))))

    module _ (h : n ≡ 16 * b) where
      fits : n ≡ 16 * blocks_in f
      fits = h ∙ ap (λ (k : ℕ). 16 * k) eb

      pub write_5 : (m ≡ 10 + n → ⊥) → 5 ≡ write_refusal f n m
      unfolding write_refusal
      write_5 g = sym (own_none f last (sym z) ∙ rw (eq-eqb n (16 * blocks_in f) fits, ne_eqb m (10 + n) g))

      pub write_0 : m ≡ 10 + n → 0 ≡ write_refusal f n m
      unfolding write_refusal
      write_0 g = sym (own_none f last (sym z) ∙ rw (eq-eqb n (16 * blocks_in f) fits, eq-eqb m (10 + n) g))

-- ---- where a reader, and a writer, does not refuse

pub own_of_frame : (f : Frame) (n : ℕ) → frame_refusal f n ≡ 0 → own_refusal f ≡ 0
unfolding frame_refusal own_refusal
own_of_frame f n e = let p = first_none (frame_reasons f (when (not (eqb n (6 + 16 * blocks_in f))) 52 ∷ [])) tt e in rw (p.0, p.1.0, p.1.1.0)

pub record Accepted (f : Frame) (bytes room : ℕ) : Type 0 where
  pub own : own_refusal f ≡ 0
  pub sizes : size_refusal f.footprint f.width f.height ≡ 0
  pub blocks : bytes ≡ 16 * blocks_in f
  pub buffer : room ≡ 10 + bytes
  pub readable : frame_refusal f (6 + bytes) ≡ 0

pub accepted : (f : Frame) (bytes room : ℕ) → write_refusal f bytes room ≡ 0 → Accepted f bytes room
unfolding write_refusal own_refusal frame_refusal
accepted f bytes room e =
    let p = first_none (frame_reasons f (when (not (eqb bytes (16 * blocks_in f))) 4 ∷ when (not (eqb room (10 + bytes))) 5 ∷ [])) tt e in
    let o : own_refusal f ≡ 0 = rw (p.0, p.1.0, p.1.1.0) in
    let b : bytes ≡ 16 * blocks_in f = eqb-true bytes (16 * blocks_in f) (not-false (eqb bytes (16 * blocks_in f)) p.1.1.1.0) in
    record {
      own = o;
      sizes = size_fine f o;
      blocks = b;
      buffer = eqb-true room (10 + bytes) (not-false (eqb room (10 + bytes)) p.1.1.1.1.0);
      readable = rw (p.0, p.1.0, p.1.1.0, eq-eqb (6 + bytes) (6 + 16 * blocks_in f) (ap (λ (k : ℕ). 6 + k) b));
    }

-- ---- widths of the numbers in the ten bytes, up to sides of 16,384

pub side_small : (n : ℕ) → bad_side n ≡ false → n < 65536
side_small n e = omega (arith, (side_fine n e).1, limit_le)

across_small : (w n : ℕ) → 4 ≤ n → w ≤ 16384 → blocks_across w n ≤ 4096
unfolding blocks_across
across_small w n p h =
    elim (dec_le ((w + n - 1) / n) 4096) [
      | yes k ↦ k
      | no k ↦ let a : 4097 * n ≤ (w + n - 1) / n * n = mul-le-mul_right n (omega arith) in
          let b = div-mul-le_self (w + n - 1) n in
          let d : 4096 * 4 ≤ 4096 * n = mul-le-mul_left 4096 p in
          absurd (omega arith)
    ]

pub length_small : (f : Frame) (bytes room : ℕ) → Accepted f bytes room → 6 + bytes < 2 ^ 32
unfolding blocks_of
length_small f bytes room a =
    let s = sized f.footprint f.width f.height a.sizes in
    let b = flat_bounds f.footprint (let k = s.footprint in omega arith) in
    let l = limit_le in
    let x = across_small f.width (width_of f.footprint) b.width_least (let k = (side_fine f.width s.wide).1 in omega arith) in
    let y = across_small f.height (height_of f.footprint) b.height_least (let k = (side_fine f.height s.high).1 in omega arith) in
    let p : blocks_across f.height (height_of f.footprint) * blocks_across f.width (width_of f.footprint) ≤ 4096 * 4096 = mul-le-mul y x in
    let e = a.blocks in
    omega (arith, p, e)
