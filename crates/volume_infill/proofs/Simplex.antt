-- Simplex interpolation: a weight whose fraction is 0 does not count, and the walk along the largest fractions blends what the table blends.
-- Assumes nothing.
use mathlib.Core.Path.{◌≡◌, refl, ap}
use mathlib.Core.Bool.{Bool, true, false}
use Prim.Native.Nat.{ℕ, ◌+◌, ◌-◌, ◌*◌, ◌≤◌, ◌<◌}
use native.Mathlib.Nat.{mul-zero, zero-mul, one-mul}
use native.Mathlib.Decide.{dec_lt}
use native.Mathlib.Omega.{arith}
use lib.Dec.{ltb}
use borrow.Author.Tests.{lt-ltb, le-ltb, ltb-true, ltb-false}
use Rattle.laws.specs.Choice.{pick}
use Rattle.volume_infill.specs.declared.Walk.{Walk}
use Rattle.volume_infill.specs.Simplex.{simplex_sum, simplex_row, simplex_of}
use Rattle.volume_infill.specs.inner.Way.{walk_row, walk_of}
use Rattle.volume_infill.proofs.Sixteenths.{four_le}

-- ---- a weight whose factor is 0 does not count

term : (w p q : ℕ) → (0 < w → p ≡ q) → p * w ≡ q * w
term w p q e =
    elim (dec_lt 0 w) [
      | yes h ↦ ap (λ (n : ℕ). n * w) (e h)
      | no h ↦ let z : w ≡ 0 = omega arith in rw (z, mul-zero p, mul-zero q)
    ]

four_same : (w0 w1 w2 w3 p0 p1 p2 p3 q0 q1 q2 q3 : ℕ)
    → (0 < w0 → p0 ≡ q0) → (0 < w1 → p1 ≡ q1) → (0 < w2 → p2 ≡ q2) → (0 < w3 → p3 ≡ q3)
    → simplex_sum w0 w1 w2 w3 p0 p1 p2 p3 ≡ simplex_sum w0 w1 w2 w3 q0 q1 q2 q3
unfolding simplex_sum
four_same w0 w1 w2 w3 p0 p1 p2 p3 q0 q1 q2 q3 e0 e1 e2 e3 = rw (term w0 p0 q0 e0, term w1 p1 q1 e1, term w2 p2 q2 e2, term w3 p3 q3 e3)

-- the weights at i, j, k need only agree where the fractions reach: i ≤ fs says that the step is not taken or the fraction is not 0
module _ (fs ft fr : ℕ) (p q : ℕ → ℕ → ℕ → ℕ)
    (same : (i j k : ℕ) → i ≤ 1 → j ≤ 1 → k ≤ 1 → i ≤ fs → j ≤ ft → k ≤ fr → p i j k ≡ q i j k) where
  pub simplex_same : simplex_of fs ft fr p ≡ simplex_of fs ft fr q
  unfolding simplex_of
  simplex_same = go (ltb ft fs) (ltb fr ft) (ltb fr fs) refl refl refl where
    here : (i j k : ℕ) → i ≤ 1 → j ≤ 1 → k ≤ 1 → i ≤ fs → j ≤ ft → k ≤ fr → p i j k ≡ q i j k
    here = same

    go : (a b c : Bool) → ltb ft fs ≡ a → ltb fr ft ≡ b → ltb fr fs ≡ c → simplex_row a b c fs ft fr p ≡ simplex_row a b c fs ft fr q
    go true true c u v w =
        let hu : ft < fs = ltb-true ft fs u in let hv : fr < ft = ltb-true fr ft v in
        four_same _ _ _ _ _ _ _ _ _ _ _ _ (λ h. here 0 0 0 (omega arith) (omega arith) (omega arith) (omega arith) (omega arith) (omega arith))
        (λ h. here 1 0 0 (omega arith) (omega arith) (omega arith) (omega arith) (omega arith) (omega arith))
        (λ h. here 1 1 0 (omega arith) (omega arith) (omega arith) (omega arith) (omega arith) (omega arith))
        (λ h. here 1 1 1 (omega arith) (omega arith) (omega arith) (omega arith) (omega arith) (omega arith))
    go true false true u v w =
        let hu : ft < fs = ltb-true ft fs u in let hv : ft ≤ fr = ltb-false fr ft v in let hw : fr < fs = ltb-true fr fs w in
        four_same _ _ _ _ _ _ _ _ _ _ _ _ (λ h. here 0 0 0 (omega arith) (omega arith) (omega arith) (omega arith) (omega arith) (omega arith))
        (λ h. here 1 0 0 (omega arith) (omega arith) (omega arith) (omega arith) (omega arith) (omega arith))
        (λ h. here 1 0 1 (omega arith) (omega arith) (omega arith) (omega arith) (omega arith) (omega arith))
        (λ h. here 1 1 1 (omega arith) (omega arith) (omega arith) (omega arith) (omega arith) (omega arith))
    go true false false u v w =
        let hu : ft < fs = ltb-true ft fs u in let hv : ft ≤ fr = ltb-false fr ft v in let hw : fs ≤ fr = ltb-false fr fs w in
        four_same _ _ _ _ _ _ _ _ _ _ _ _ (λ h. here 0 0 0 (omega arith) (omega arith) (omega arith) (omega arith) (omega arith) (omega arith))
        (λ h. here 0 0 1 (omega arith) (omega arith) (omega arith) (omega arith) (omega arith) (omega arith))
        (λ h. here 1 0 1 (omega arith) (omega arith) (omega arith) (omega arith) (omega arith) (omega arith))
        (λ h. here 1 1 1 (omega arith) (omega arith) (omega arith) (omega arith) (omega arith) (omega arith))
    go false b true u v w =
        let hu : fs ≤ ft = ltb-false ft fs u in let hw : fr < fs = ltb-true fr fs w in
        four_same _ _ _ _ _ _ _ _ _ _ _ _ (λ h. here 0 0 0 (omega arith) (omega arith) (omega arith) (omega arith) (omega arith) (omega arith))
        (λ h. here 0 1 0 (omega arith) (omega arith) (omega arith) (omega arith) (omega arith) (omega arith))
        (λ h. here 1 1 0 (omega arith) (omega arith) (omega arith) (omega arith) (omega arith) (omega arith))
        (λ h. here 1 1 1 (omega arith) (omega arith) (omega arith) (omega arith) (omega arith) (omega arith))
    go false true false u v w =
        let hu : fs ≤ ft = ltb-false ft fs u in let hv : fr < ft = ltb-true fr ft v in let hw : fs ≤ fr = ltb-false fr fs w in
        four_same _ _ _ _ _ _ _ _ _ _ _ _ (λ h. here 0 0 0 (omega arith) (omega arith) (omega arith) (omega arith) (omega arith) (omega arith))
        (λ h. here 0 1 0 (omega arith) (omega arith) (omega arith) (omega arith) (omega arith) (omega arith))
        (λ h. here 0 1 1 (omega arith) (omega arith) (omega arith) (omega arith) (omega arith) (omega arith))
        (λ h. here 1 1 1 (omega arith) (omega arith) (omega arith) (omega arith) (omega arith) (omega arith))
    go false false false u v w =
        let hu : fs ≤ ft = ltb-false ft fs u in let hv : ft ≤ fr = ltb-false fr ft v in
        four_same _ _ _ _ _ _ _ _ _ _ _ _ (λ h. here 0 0 0 (omega arith) (omega arith) (omega arith) (omega arith) (omega arith) (omega arith))
        (λ h. here 0 0 1 (omega arith) (omega arith) (omega arith) (omega arith) (omega arith) (omega arith))
        (λ h. here 0 1 1 (omega arith) (omega arith) (omega arith) (omega arith) (omega arith) (omega arith))
        (λ h. here 1 1 1 (omega arith) (omega arith) (omega arith) (omega arith) (omega arith) (omega arith))

-- it is no more than any of its weights may be
pub simplex_le : (m fs ft fr : ℕ) (p : ℕ → ℕ → ℕ → ℕ) → fs ≤ 16 → ft ≤ 16 → fr ≤ 16 → ((i j k : ℕ) → p i j k ≤ m) → simplex_of fs ft fr p ≤ m
unfolding simplex_of
simplex_le m fs ft fr p hs ht hr h = go (ltb ft fs) (ltb fr ft) (ltb fr fs) refl refl refl where
  go : (a b c : Bool) → ltb ft fs ≡ a → ltb fr ft ≡ b → ltb fr fs ≡ c → simplex_row a b c fs ft fr p ≤ m
  go true true c u v w = four_le _ _ _ _ (omega (arith, ltb-true ft fs u, ltb-true fr ft v)) m _ _ _ _ (h _ _ _) (h _ _ _) (h _ _ _) (h _ _ _)
  go true false true u v w = four_le _ _ _ _ (omega (arith, ltb-false fr ft v, ltb-true fr fs w)) m _ _ _ _ (h _ _ _) (h _ _ _) (h _ _ _) (h _ _ _)
  go true false false u v w = four_le _ _ _ _ (omega (arith, ltb-true ft fs u, ltb-false fr fs w)) m _ _ _ _ (h _ _ _) (h _ _ _) (h _ _ _) (h _ _ _)
  go false b true u v w = four_le _ _ _ _ (omega (arith, ltb-false ft fs u, ltb-true fr fs w)) m _ _ _ _ (h _ _ _) (h _ _ _) (h _ _ _) (h _ _ _)
  go false true false u v w = four_le _ _ _ _ (omega (arith, ltb-true fr ft v, ltb-false fr fs w)) m _ _ _ _ (h _ _ _) (h _ _ _) (h _ _ _) (h _ _ _)
  go false false false u v w = four_le _ _ _ _ (omega (arith, ltb-false ft fs u, ltb-false fr ft v)) m _ _ _ _ (h _ _ _) (h _ _ _) (h _ _ _) (h _ _ _)

-- ---- the walk

-- its factors make sixteen
pub walk_sum : (fs ft fr right below behind : ℕ) → fs ≤ 16 → ft ≤ 16 → fr ≤ 16
    → let k = walk_of fs ft fr right below behind in k.w0 + k.w1 + k.w2 + k.w3 ≡ 16
unfolding walk_of
walk_sum fs ft fr right below behind hs ht hr =
    elim (dec_lt ft fs) [
      | yes u ↦ elim (dec_lt fr ft) [
        | yes v ↦ rw (lt-ltb ft fs u, lt-ltb fr ft v) (omega arith)
        | no v ↦ elim (dec_lt fr fs) [
          | yes w ↦ rw (lt-ltb ft fs u, le-ltb fr ft (omega arith), lt-ltb fr fs w) (omega arith)
          | no w ↦ rw (lt-ltb ft fs u, le-ltb fr ft (omega arith), le-ltb fr fs (omega arith)) (omega arith)
        ]
      ]
      | no u ↦ elim (dec_lt fr fs) [
        | yes w ↦ rw (le-ltb ft fs (omega arith), lt-ltb fr fs w) (omega arith)
        | no w ↦ elim (dec_lt fr ft) [
          | yes v ↦ rw (le-ltb ft fs (omega arith), le-ltb fr fs (omega arith), lt-ltb fr ft v) (omega arith)
          | no v ↦ rw (le-ltb ft fs (omega arith), le-ltb fr fs (omega arith), le-ltb fr ft (omega arith)) (omega arith)
        ]
      ]
    ]

-- no step goes past the far corner
pub walk_le : (fs ft fr right below behind : ℕ)
    → let k = walk_of fs ft fr right below behind in k.first + k.second ≤ right + below + behind
unfolding walk_of
walk_le fs ft fr right below behind = go (ltb ft fs) (ltb fr ft) (ltb fr fs) where
  go : (a b c : Bool) → (walk_row a b c fs ft fr right below behind).first + (walk_row a b c fs ft fr right below behind).second ≤ right + below + behind
  go true true c = omega arith
  go true false true = omega arith
  go true false false = omega arith
  go false b true = omega arith
  go false true false = omega arith
  go false false false = omega arith

-- what the walk blends is what the table blends, of the points that it passes
module _ (fs ft fr n right below behind : ℕ) (value : ℕ → ℕ) where
  abbrev pub passed : ℕ → ℕ → ℕ → ℕ
  passed i j k = value (n + i * right + j * below + k * behind)

  pub walked : let k = walk_of fs ft fr right below behind in
      simplex_sum k.w0 k.w1 k.w2 k.w3 (value n) (value (n + k.first)) (value (n + k.first + k.second)) (value (n + right + below + behind))
      ≡ simplex_of fs ft fr passed
  unfolding walk_of simplex_of
  walked = go (ltb ft fs) (ltb fr ft) (ltb fr fs) where
    e000 : value n ≡ passed 0 0 0
    e000 = ap value (omega (arith, zero-mul right, zero-mul below, zero-mul behind))

    e100 : value (n + right) ≡ passed 1 0 0
    e100 = ap value (omega (arith, one-mul right, zero-mul below, zero-mul behind))

    e010 : value (n + below) ≡ passed 0 1 0
    e010 = ap value (omega (arith, zero-mul right, one-mul below, zero-mul behind))

    e001 : value (n + behind) ≡ passed 0 0 1
    e001 = ap value (omega (arith, zero-mul right, zero-mul below, one-mul behind))

    e110 : value (n + right + below) ≡ passed 1 1 0
    e110 = ap value (omega (arith, one-mul right, one-mul below, zero-mul behind))

    e110' : value (n + below + right) ≡ passed 1 1 0
    e110' = ap value (omega (arith, one-mul right, one-mul below, zero-mul behind))

    e101 : value (n + right + behind) ≡ passed 1 0 1
    e101 = ap value (omega (arith, one-mul right, zero-mul below, one-mul behind))

    e101' : value (n + behind + right) ≡ passed 1 0 1
    e101' = ap value (omega (arith, one-mul right, zero-mul below, one-mul behind))

    e011 : value (n + below + behind) ≡ passed 0 1 1
    e011 = ap value (omega (arith, zero-mul right, one-mul below, one-mul behind))

    e011' : value (n + behind + below) ≡ passed 0 1 1
    e011' = ap value (omega (arith, zero-mul right, one-mul below, one-mul behind))

    e111 : value (n + right + below + behind) ≡ passed 1 1 1
    e111 = ap value (omega (arith, one-mul right, one-mul below, one-mul behind))

    four : (w0 w1 w2 w3 : ℕ) {p0 p1 p2 p3 q0 q1 q2 q3 : ℕ} → p0 ≡ q0 → p1 ≡ q1 → p2 ≡ q2 → p3 ≡ q3
        → simplex_sum w0 w1 w2 w3 p0 p1 p2 p3 ≡ simplex_sum w0 w1 w2 w3 q0 q1 q2 q3
    four w0 w1 w2 w3 a b c d = λ i. simplex_sum w0 w1 w2 w3 (a i) (b i) (c i) (d i)

    go : (a b c : Bool)
        → (let k = walk_row a b c fs ft fr right below behind in
        simplex_sum k.w0 k.w1 k.w2 k.w3 (value n) (value (n + k.first)) (value (n + k.first + k.second)) (value (n + right + below + behind)))
        ≡ simplex_row a b c fs ft fr passed
    go true true c = four _ _ _ _ e000 e100 e110 e111
    go true false true = four _ _ _ _ e000 e100 e101 e111
    go true false false = four _ _ _ _ e000 e001 e101' e111
    go false b true = four _ _ _ _ e000 e010 e110' e111
    go false true false = four _ _ _ _ e000 e010 e011 e111
    go false false false = four _ _ _ _ e000 e001 e011' e111
