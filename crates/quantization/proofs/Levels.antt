-- The levels: their bounds, and the rules and the words by which the code has them.
-- Assumes nothing.
use mathlib.Core.Path.{◌≡◌, refl, sym}
use mathlib.Core.Bool.{Bool, true, false}
use mathlib.Core.List.{List, [], ◌∷◌}
use Prim.Native.Nat.{ℕ, ◌≤◌, ◌<◌}
use native.Mathlib.Decide.{dec_lt}
use native.Mathlib.Omega.{arith}
use lib.Dec.{T, leb, leb→le}
use borrow.Author.Tests.{lt-leb, le-ltb}
use Rattle.laws.specs.Choice.{both, all}
use Rattle.laws.specs.Table.{tab}
use Rattle.laws.proofs.Computed.{both_left, both_right, each}
use Rattle.quantization.specs.declared.Rule.{Rule}
use Rattle.quantization.specs.Ranges.{most_at}
use Rattle.quantization.specs.Unquantise.{is_endpoint, is_weight, unquant_endpoint, unquant_weight, LevelsWithin}
use Rattle.quantization.specs.inner.Products.{by_rule, Right}
use Rattle.quantization.specs.inner.Words.{by_words, RightWords}
use Rattle.quantization.proofs.Ranges.{same_below, most_le, weight_most_le}

endpoint_test : T (all (λ k. all (λ v. leb (unquant_endpoint k v) 255) 256) 21)
unfolding unquant_endpoint
endpoint_test = tt

-- every endpoint's level is in 0..255
pub endpoint_le : (k v : ℕ) → unquant_endpoint k v ≤ 255
unfolding unquant_endpoint
endpoint_le k v = go (is_endpoint k v) refl where
  go : (t : Bool) → is_endpoint k v ≡ t → unquant_endpoint k v ≤ 255
  go true e =
      let h : T (is_endpoint k v) = rw e tt in
      let hk : k ≤ 20 = leb→le k 20 (both_right (leb 4 k) (leb k 20) (both_left (both (leb 4 k) (leb k 20)) (leb v (most_at k)) h)) in
      let hv : v ≤ most_at k = leb→le v (most_at k) (both_right (both (leb 4 k) (leb k 20)) (leb v (most_at k)) h) in
      leb→le (unquant_endpoint k v) 255 (each (λ v. leb (unquant_endpoint k v) 255) 256
      (each (λ k. all (λ v. leb (unquant_endpoint k v) 255) 256) 21 endpoint_test k (omega arith)) v (omega (arith, most_le k)))
  go false e = rw e (omega arith)

weight_test : T (all (λ k. all (λ v. leb (unquant_weight k v) 64) 256) 12)
unfolding unquant_weight
weight_test = tt

-- every weight's level is in 0..64
pub weight_le : (k v : ℕ) → unquant_weight k v ≤ 64
unfolding unquant_weight
weight_le k v = go (is_weight k v) refl where
  go : (t : Bool) → is_weight k v ≡ t → unquant_weight k v ≤ 64
  go true e =
      let h : T (is_weight k v) = rw e tt in
      let hk : k ≤ 11 = leb→le k 11 (both_left (leb k 11) (leb v (most_at k)) h) in
      let hv : v ≤ most_at k = leb→le v (most_at k) (both_right (leb k 11) (leb v (most_at k)) h) in
      leb→le (unquant_weight k v) 64 (each (λ v. leb (unquant_weight k v) 64) 256
      (each (λ k. all (λ v. leb (unquant_weight k v) 64) 256) 12 weight_test k (omega arith)) v (omega (arith, most_le k)))
  go false e = rw e (omega arith)

pub levels_within : LevelsWithin
levels_within = record { endpoints = endpoint_le; weights = weight_le }

-- ---- a rule is right where it gives the table of the range's levels, which antt computes

pub right : (level : ℕ → ℕ) (r : Rule) → tab (by_rule r) 256 ≡ tab level 256 → Right level r
unfolding Right
right level r e = same_below (by_rule r) level 256 0 e

-- the rule of no range
abbrev pub none : Rule
none = record { 0 = 0; 1 = 0; 2 = 0; 3 = 0; 4 = 0; 5 = 0 }

by_none : (v : ℕ) → v < 256 → by_rule none v ≡ 0
unfolding by_rule tab
by_none = same_below (by_rule none) (λ v. 0) 256 0 refl

both_no : (t : Bool) → both t false ≡ false
both_no true = refl
both_no false = refl

pub no_endpoint_low : (k : ℕ) → k < 4 → Right (unquant_endpoint k) none
unfolding Right unquant_endpoint
no_endpoint_low k h v hv = rw (lt-leb 4 k h) (by_none v hv)

pub no_endpoint_high : (k : ℕ) → 20 < k → Right (unquant_endpoint k) none
unfolding Right unquant_endpoint
no_endpoint_high k h v hv = rw (lt-leb k 20 h, both_no (leb 4 k)) (by_none v hv)

-- ---- words are right where they give the table of the range's 32 levels, which antt computes

words : (level : ℕ → ℕ) (ws : List ℕ) → tab (by_words ws) 32 ≡ tab level 32 → ((v : ℕ) → 32 ≤ v → level v ≡ 0) → RightWords level ws
unfolding RightWords by_words
words level ws t none v =
    elim (dec_lt v 32) [
      | yes p ↦ same_below (by_words ws) level 32 0 t v p
      | no p ↦ rw (le-ltb v 32 (omega arith)) (sym (none v (omega arith)))
    ]

pub right_words : (k : ℕ) (ws : List ℕ) → k ≤ 11 → tab (by_words ws) 32 ≡ tab (unquant_weight k) 32 → RightWords (unquant_weight k) ws
unfolding unquant_weight
right_words k ws h t = words (unquant_weight k) ws t (λ v l. rw (lt-leb v (most_at k) (omega (arith, weight_most_le k h)), both_no (leb k 11)))

pub no_words : (k : ℕ) → 11 < k → RightWords (unquant_weight k) (0 ∷ 0 ∷ 0 ∷ 0 ∷ [])
unfolding RightWords unquant_weight tab by_words
no_words k h v = rw (lt-leb k 11 h) (words (λ v. 0) (0 ∷ 0 ∷ 0 ∷ 0 ∷ []) refl (λ v l. refl) v)
