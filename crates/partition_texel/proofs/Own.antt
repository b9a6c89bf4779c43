-- The pair of a mode hangs on the numbers that the mode takes, in every kind.
-- Assumes nothing.
use mathlib.Core.Path.{◌≡◌, refl, sym, ap, ◌∙◌}
use mathlib.Core.Bool.{Bool, true, false, not, true≢false}
use mathlib.Core.List.{List}
use Prim.Native.Nat.{ℕ, ◌+◌, ◌*◌, ◌/◌, ◌<◌}
use native.Mathlib.Decide.{ℕ_discrete}
use native.Mathlib.Omega.{arith}
use lib.Dec.{eqb}
use lib.ListN.{get_or}
use borrow.Author.Tests.{eq-eqb, ne_eqb}
use Rattle.laws.specs.Choice.{pick}
use Rattle.encoding.specs.declared.Level.{Level}
use Rattle.color_endpoint.specs.Modes.{no_level, level_at, mode0, mode1, mode4, mode5, mode6, mode8, mode9, mode10, mode12, mode13, pair_of, is_hdr}
use Rattle.color_endpoint.specs.Table.{number_count}
use Rattle.half_pair.specs.Pair.{mode11, mode14, mode15, hdr_pair_of, expanded_hdr, expanded_ldr, half_pair_of}

-- a choice by number: what is chosen agrees, and so does the rest where it is not chosen
choice : {A : Type 0} (mode n : ℕ) {a b c d : A} → (mode ≡ n → a ≡ b) → ((mode ≡ n → ⊥) → c ≡ d) → pick (eqb mode n) a c ≡ pick (eqb mode n) b d
choice mode n h k =
    elim (ℕ_discrete mode n) [
      | yes e ↦ rw (eq-eqb mode n e) (h e)
      | no e ↦ rw (ne_eqb mode n e) (k e)
    ]

-- two lists agree on the numbers that a mode takes, of eight
abbrev pub Agree : ℕ → List Level → List Level → Type 0
Agree mode v w = (k : ℕ) → k < number_count mode → k < 8 → get_or v k no_level ≡ get_or w k no_level

module _ (mode : ℕ) (v w : List Level) (same : Agree mode v w) where
  at : (n k : ℕ) → mode ≡ n → k < 2 * (n / 4 + 1) → k < 8 → level_at v k ≡ level_at w k
  unfolding number_count
  at n k e h l = ap (λ (x : Level). x.0) (same k (rw e h) l)

  pub pair_own : pair_of mode v ≡ pair_of mode w
  unfolding pair_of mode0 mode1 mode4 mode5 mode6 mode8 mode9 mode10 mode12 mode13
  pair_own =
      choice mode 0 (λ e. rw (at 0 0 e (omega arith) (omega arith), at 0 1 e (omega arith) (omega arith)))
      (λ _. choice mode 1 (λ e. rw (at 1 0 e (omega arith) (omega arith), at 1 1 e (omega arith) (omega arith)))
      (λ _. choice mode 4 (λ e. rw (at 4 0 e (omega arith) (omega arith), at 4 1 e (omega arith) (omega arith), at 4 2 e (omega arith) (omega arith), at 4 3 e (omega arith) (omega arith)))
      (λ _. choice mode 5 (λ e. rw (at 5 0 e (omega arith) (omega arith), at 5 1 e (omega arith) (omega arith), at 5 2 e (omega arith) (omega arith), at 5 3 e (omega arith) (omega arith)))
      (λ _. choice mode 6 (λ e. rw (at 6 0 e (omega arith) (omega arith), at 6 1 e (omega arith) (omega arith), at 6 2 e (omega arith) (omega arith), at 6 3 e (omega arith) (omega arith)))
      (λ _. choice mode 8 (λ e. rw (at 8 0 e (omega arith) (omega arith), at 8 1 e (omega arith) (omega arith), at 8 2 e (omega arith) (omega arith), at 8 3 e (omega arith) (omega arith), at 8 4 e (omega arith) (omega arith), at 8 5 e (omega arith) (omega arith)))
      (λ _. choice mode 9 (λ e. rw (at 9 0 e (omega arith) (omega arith), at 9 1 e (omega arith) (omega arith), at 9 2 e (omega arith) (omega arith), at 9 3 e (omega arith) (omega arith), at 9 4 e (omega arith) (omega arith), at 9 5 e (omega arith) (omega arith)))
      (λ _. choice mode 10 (λ e. rw (at 10 0 e (omega arith) (omega arith), at 10 1 e (omega arith) (omega arith), at 10 2 e (omega arith) (omega arith), at 10 3 e (omega arith) (omega arith), at 10 4 e (omega arith) (omega arith), at 10 5 e (omega arith) (omega arith)))
      (λ _. choice mode 12 (λ e. rw (at 12 0 e (omega arith) (omega arith), at 12 1 e (omega arith) (omega arith), at 12 2 e (omega arith) (omega arith), at 12 3 e (omega arith) (omega arith), at 12 4 e (omega arith) (omega arith), at 12 5 e (omega arith) (omega arith), at 12 6 e (omega arith) (omega arith), at 12 7 e (omega arith) (omega arith)))
      (λ _. choice mode 13 (λ e. rw (at 13 0 e (omega arith) (omega arith), at 13 1 e (omega arith) (omega arith), at 13 2 e (omega arith) (omega arith), at 13 3 e (omega arith) (omega arith), at 13 4 e (omega arith) (omega arith), at 13 5 e (omega arith) (omega arith), at 13 6 e (omega arith) (omega arith), at 13 7 e (omega arith) (omega arith)))
      (λ _. refl))))))))))

  hdr_own : is_hdr mode ≡ true → hdr_pair_of mode v ≡ hdr_pair_of mode w
  unfolding is_hdr hdr_pair_of mode11 mode14 mode15
  hdr_own hdr =
      choice mode 2 (λ e. rw (at 2 0 e (omega arith) (omega arith), at 2 1 e (omega arith) (omega arith)))
      (λ n2. choice mode 3 (λ e. rw (at 3 0 e (omega arith) (omega arith), at 3 1 e (omega arith) (omega arith)))
      (λ n3. choice mode 7 (λ e. rw (at 7 0 e (omega arith) (omega arith), at 7 1 e (omega arith) (omega arith), at 7 2 e (omega arith) (omega arith), at 7 3 e (omega arith) (omega arith)))
      (λ n7. choice mode 11 (λ e. rw (at 11 0 e (omega arith) (omega arith), at 11 1 e (omega arith) (omega arith), at 11 2 e (omega arith) (omega arith), at 11 3 e (omega arith) (omega arith), at 11 4 e (omega arith) (omega arith), at 11 5 e (omega arith) (omega arith)))
      (λ n11. choice mode 14 (λ e. rw (at 14 0 e (omega arith) (omega arith), at 14 1 e (omega arith) (omega arith), at 14 2 e (omega arith) (omega arith), at 14 3 e (omega arith) (omega arith), at 14 4 e (omega arith) (omega arith), at 14 5 e (omega arith) (omega arith), at 14 6 e (omega arith) (omega arith), at 14 7 e (omega arith) (omega arith)))
      (λ n14. elim (ℕ_discrete mode 15) [
        | yes e ↦ rw (at 15 0 e (omega arith) (omega arith), at 15 1 e (omega arith) (omega arith), at 15 2 e (omega arith) (omega arith), at 15 3 e (omega arith) (omega arith), at 15 4 e (omega arith) (omega arith), at 15 5 e (omega arith) (omega arith), at 15 6 e (omega arith) (omega arith), at 15 7 e (omega arith) (omega arith))
        | no n15 ↦ absurd (true≢false (sym hdr ∙ rw (ne_eqb mode 2 n2, ne_eqb mode 3 n3, ne_eqb mode 7 n7, ne_eqb mode 11 n11, ne_eqb mode 14 n14, ne_eqb mode 15 n15)))
      ])))))

  pub half_own : half_pair_of mode v ≡ half_pair_of mode w
  unfolding half_pair_of
  half_own = go (is_hdr mode) refl where
    go : (t : Bool) → is_hdr mode ≡ t → pick t (expanded_hdr (not (eqb mode 14)) (hdr_pair_of mode v)) (expanded_ldr (pair_of mode v)) ≡ pick t (expanded_hdr (not (eqb mode 14)) (hdr_pair_of mode w)) (expanded_ldr (pair_of mode w))
    go true e = ap (expanded_hdr (not (eqb mode 14))) (hdr_own e)
    go false e = ap expanded_ldr pair_own
