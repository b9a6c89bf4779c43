-- Mixed ends fit, and the choice of a weight step by step.
-- Assumes nothing.
use mathlib.Core.Path.{◌≡◌, refl, sym, ap, ap₂, ◌∙◌, subst}
use mathlib.Core.Bool.{Bool, true, false}
use mathlib.Core.List.{List}
use Prim.Native.Nat.{ℕ, zero, suc, ◌+◌, ◌-◌, ◌*◌, ◌≤◌}
use native.Mathlib.Nat.{mul-le-mul, mul-le-mul_right}
use native.Mathlib.Omega.{arith}
use lib.Dec.{ltb}
use lib.ListN.{length, get_or}
use Rattle.laws.specs.Choice.{pick}
use Rattle.laws.specs.Table.{tab, padded}
use Rattle.laws.proofs.Filling.{tab_ext}
use Rattle.encoding.specs.declared.Stored.{Stored}
use Rattle.integer_sequence.specs.Reading.{stored}
use Rattle.symbolic_block.specs.declared.SymbolicBlock.{SymbolicBlock}
use Rattle.symbolic_calls.specs.declared.Writing.{Writing}
use Rattle.symbolic_calls.specs.Writing.{writing_of}
use Rattle.grey_caption.specs.Caption.{sheet_with, block_with, grey_of, squared, least_at, best_weight, weight_for, caption_of}
use Rattle.grey_caption.specs.Best.{Best}
use Rattle.grey_caption.proofs.Choice.{least_within}
use Rattle.grey_caption.proofs.Demand.{best}
use Rattle.caption_block.specs.declared.Choice.{Choice}
use Rattle.caption_block.specs.inner.Choice.{greys_of, better_of}

pub sum_le : (c0 c1 i : ℕ) → c0 ≤ 65535 → c1 ≤ 65535 → i ≤ 64 → c0 * (64 - i) + c1 * i ≤ 4194240
sum_le c0 c1 i h0 h1 h = omega (arith, mul-le-mul_right (64 - i) h0, mul-le-mul_right i h1)

pub square_le : (d : ℕ) → d ≤ 255 → d * d ≤ 65025
square_le d h = mul-le-mul {n₂ = 255} {m₂ = 255} h h

-- ---- the choice of a weight

module _ (f : ℕ → ℕ) where
  -- the best of 0, .., n
  abbrev chosen : ℕ → Choice
  chosen n = record { weight = least_at f n; square = f (least_at f n) }

  step : (n : ℕ) → better_of (chosen n) (suc n) (f (suc n)) ≡ chosen (suc n)
  unfolding better_of least_at
  step n = go (ltb (f (suc n)) (f (least_at f n))) where
    go : (b : Bool) → pick b (record { weight = suc n; square = f (suc n) }) (chosen n)
        ≡ record { weight = pick b (suc n) (least_at f n); square = f (pick b (suc n) (least_at f n)) }
    go true = refl
    go false = refl

  pub best_of_four : {s0 s1 s2 s3 : ℕ} {b c d : Choice} → s0 ≡ f 0 → s1 ≡ f 1 → s2 ≡ f 2 → s3 ≡ f 3
      → b ≡ better_of (record { weight = 0; square = s0 }) 1 s1 → c ≡ better_of b 2 s2 → d ≡ better_of c 3 s3 → d.weight ≡ least_at f 3
  unfolding least_at
  best_of_four p0 p1 p2 p3 e1 e2 e3 =
      let q1 : _ ≡ chosen 1 = e1 ∙ ap₂ (λ (x y : ℕ). better_of (record { weight = 0; square = x }) 1 y) p0 p1 ∙ step 0 in
      let q2 : _ ≡ chosen 2 = e2 ∙ ap₂ (λ (x : Choice) (y : ℕ). better_of x 2 y) q1 p2 ∙ step 1 in
      let q3 : _ ≡ chosen 3 = e3 ∙ ap₂ (λ (x : Choice) (y : ℕ). better_of x 3 y) q2 p3 ∙ step 2 in
      ap (λ (x : Choice). x.weight) q3

  -- a function that agrees at 0, .., n has the same least place
  pub least_same : (g : ℕ → ℕ) (n : ℕ) → ((w : ℕ) → w ≤ n → f w ≡ g w) → least_at f n ≡ least_at g n
  unfolding least_at
  least_same g zero h = refl
  least_same g (suc n) h =
      let e : least_at f n ≡ least_at g n = least_same g n (λ w l. h w (omega arith)) in
      let a : f (suc n) ≡ g (suc n) = h (suc n) (omega arith) in
      let b : f (least_at f n) ≡ g (least_at g n) = h (least_at f n) (omega (arith, least_within f n)) ∙ ap g e in
      ap₂ (λ (x y : ℕ). pick (ltb x y) (suc n) (least_at f n)) a b ∙ ap (pick (ltb (g (suc n)) (g (least_at g n))) (suc n)) e

-- the list of shades holds the greys of the four weights
shade : (e0 e1 w : ℕ) → w ≤ 3 → get_or (greys_of e0 e1) w 0 ≡ grey_of e0 e1 w
unfolding greys_of
shade e0 e1 zero h = refl
shade e0 e1 (suc zero) h = refl
shade e0 e1 (suc (suc zero)) h = refl
shade e0 e1 (suc (suc (suc zero))) h = refl
shade e0 e1 (suc (suc (suc (suc w)))) h = absurd (omega arith)

-- the weights of a caption, as the sheet has them
pub weights_are : (e0 e1 : ℕ) (wanted : List ℕ) (ws : List Stored)
    → ws ≡ padded 64 16 (λ i. stored (least_at (λ w. squared (get_or (greys_of e0 e1) w 0) (get_or wanted i 0)) 3)) (stored 0)
    → ws ≡ tab (λ i. stored (pick (ltb i 16) (weight_for e0 e1 wanted i) 0)) 64
unfolding padded weight_for best_weight
weights_are e0 e1 wanted ws e = e ∙ tab_ext _ _ (stored 0) 64 (λ i l. go i (ltb i 16)) where
  weight : (i : ℕ) → least_at (λ w. squared (get_or (greys_of e0 e1) w 0) (get_or wanted i 0)) 3 ≡ least_at (λ w. squared (grey_of e0 e1 w) (get_or wanted i 0)) 3
  weight i = least_same _ _ 3 (λ w l. ap (λ (x : ℕ). squared x (get_or wanted i 0)) (shade e0 e1 w l))

  go : (i : ℕ) (b : Bool) → pick b (stored (least_at (λ w. squared (get_or (greys_of e0 e1) w 0) (get_or wanted i 0)) 3)) (stored 0)
      ≡ stored (pick b (least_at (λ w. squared (grey_of e0 e1 w) (get_or wanted i 0)) 3) 0)
  go i true = ap stored (weight i)
  go i false = refl

-- ---- the whole

abbrev Promised : ℕ → ℕ → List ℕ → List ℕ → Type 0
Promised e0 e1 wanted r = (r ≡ caption_of e0 e1 wanted) × ((old : List ℕ) → length old ≡ 64 → Best e0 e1 wanted old r)

promised : (e0 e1 : ℕ) (wanted r : List ℕ) → e0 ≤ 255 → e1 ≤ 255 → r ≡ caption_of e0 e1 wanted → Promised e0 e1 wanted r
promised e0 e1 wanted r h0 h1 e = (e, λ old size. subst (Best e0 e1 wanted old) (sym e) (best e0 e1 h0 h1 wanted old size))

-- from what the calls return: the shades, the weights, the sheet and the writer's answer
pub captioned : (e0 e1 : ℕ) (wanted : List ℕ) {shades : List ℕ} {ws : List Stored} {s : SymbolicBlock} {r : Writing} → e0 ≤ 255 → e1 ≤ 255
    → shades ≡ greys_of e0 e1
    → ws ≡ padded 64 16 (λ i. stored (least_at (λ w. squared (get_or shades w 0) (get_or wanted i 0)) 3)) (stored 0)
    → ((w : ℕ → ℕ) → ws ≡ tab (λ i. stored (pick (ltb i 16) (w i) 0)) 64 → s ≡ sheet_with e0 e1 w)
    → r ≡ writing_of 0 s → Promised e0 e1 wanted r.bytes
unfolding caption_of block_with
captioned e0 e1 wanted {ws = ws} h0 h1 p q f g =
    promised e0 e1 wanted _ h0 h1
    (ap (λ (x : Writing). x.bytes) g
    ∙ ap (λ (x : SymbolicBlock). (writing_of 0 x).bytes) (f (weight_for e0 e1 wanted) (weights_are e0 e1 wanted ws (rw p at q))))
