-- The first block with a fault is the least, the count and the tally's step from block to block.
-- Assumes nothing.
use mathlib.Core.Path.{◌≡◌, refl, sym, ap, ◌∙◌, subst}
use Prim.Native.Nat.{ℕ, zero, suc, ◌+◌, ◌≤◌, ◌<◌}
use native.Mathlib.Nat.{not-suc-le-zero, zero-add, add-zero, add-suc, suc-add}
use native.Mathlib.Numerals.{add-one}
use native.Mathlib.Decide.{dec_lt, ℕ_discrete}
use native.Mathlib.Omega.{arith}
use lib.Dec.{eqb}
use borrow.Author.Tests.{eq-eqb, ne_eqb, lt-ltb, le-ltb}
use Rattle.laws.specs.Choice.{pick}
use Rattle.image_layout.specs.declared.Tally.{Tally}
use Rattle.image_layout.specs.Faulty.{fault_count, first_from, first_faulty, of_first, tally_of, Least, First, Tallied}
use Rattle.image_layout.specs.inner.Noted.{noted}

module _ (f : ℕ → ℕ) where
  first_from_lem : (i n : ℕ) → Least f i (i + n) (first_from f i n)
  unfolding first_from
  first_from_lem i zero = record { from = omega arith; most = omega arith; faulty = λ l e. omega arith; none_before = λ k a b. absurd (omega arith) }
  first_from_lem i (suc n) =
      elim (ℕ_discrete (f i) 0) [
        | yes e ↦
            let p = first_from_lem (suc i) n in
            let q : suc i + n ≡ i + suc n = suc-add i n ∙ sym (add-suc i n) in
            rw (eq-eqb (f i) 0 e)
            (record {
              from = let z = p.from in omega arith;
              most = rw q at p.most;
              faulty = λ l. p.faulty (rw (suc-add i n, ← add-suc i n) l);
              none_before = λ k a b. elim (ℕ_discrete k i) [ yes r ↦ rw r e | no r ↦ p.none_before k (omega (arith, r)) b ];
            })
        | no e ↦ rw (ne_eqb (f i) 0 e) (record { from = omega arith; most = omega arith; faulty = λ l. e; none_before = λ k a b. absurd (omega arith) })
      ]

  -- the first block with a fault is the least
  pub first_least : (n : ℕ) → Least f 0 n (first_faulty f n)
  unfolding first_faulty
  first_least n = subst (λ (m : ℕ). Least f 0 m (first_from f 0 n)) (zero-add n) (first_from_lem 0 n)

  -- there is only one least
  pub least_unique : (n r q : ℕ) → Least f 0 n r → Least f 0 n q → r ≡ q
  least_unique n r q a b =
      let m = a.most in
      let p = b.most in
      elim (dec_lt r q) [
        | yes l ↦ absurd (a.faulty (omega arith) (b.none_before r (omega arith) l))
        | no l ↦ elim (dec_lt q r) [
          | yes k ↦ absurd (b.faulty (omega arith) (a.none_before q (omega arith) k))
          | no k ↦ omega arith
        ]
      ]

  -- ---- one block more

  first_kept : (n : ℕ) → first_faulty f n < n → first_faulty f (n + 1) ≡ first_faulty f n
  first_kept n l =
      let p = first_least n in
      least_unique (n + 1) _ _ (first_least (n + 1))
      (record { from = omega arith; most = omega arith; faulty = λ h. p.faulty l; none_before = p.none_before })

  first_here : (n : ℕ) → first_faulty f n ≡ n → (f n ≡ 0 → ⊥) → first_faulty f (n + 1) ≡ n
  first_here n e h =
      let p : Least f 0 n n = rw e at (first_least n) in
      least_unique (n + 1) _ _ (first_least (n + 1))
      (record { from = omega arith; most = omega arith; faulty = λ l. h; none_before = p.none_before })

  first_later : (n : ℕ) → first_faulty f n ≡ n → f n ≡ 0 → first_faulty f (n + 1) ≡ n + 1
  first_later n e h =
      let p : Least f 0 n n = rw e at (first_least n) in
      least_unique (n + 1) _ _ (first_least (n + 1))
      (record {
        from = omega arith;
        most = omega arith;
        faulty = λ l k. omega arith;
        none_before = λ k a b. elim (ℕ_discrete k n) [ yes r ↦ rw r h | no r ↦ p.none_before k a (omega (arith, r)) ];
      })

  pub count_le : (n : ℕ) → fault_count f n ≤ n
  unfolding fault_count
  count_le zero = omega arith
  count_le (suc n) =
      let p = count_le n in
      elim (ℕ_discrete (f n) 0) [ yes e ↦ rw (eq-eqb (f n) 0 e) (omega arith) | no e ↦ rw (ne_eqb (f n) 0 e) (omega arith) ]

  count_same : (n : ℕ) → f n ≡ 0 → fault_count f (n + 1) ≡ fault_count f n
  unfolding fault_count
  count_same n e = rw (add-one, eq-eqb (f n) 0 e) (add-zero _)

  count_more : (n : ℕ) → (f n ≡ 0 → ⊥) → fault_count f (n + 1) ≡ fault_count f n + 1
  unfolding fault_count
  count_more n e = rw (add-one n, ne_eqb (f n) 0 e)

  -- the count is 0 exactly where no block has a fault
  pub count_none : (n : ℕ) → ((k : ℕ) → k < n → f k ≡ 0) → fault_count f n ≡ 0
  unfolding fault_count
  count_none zero h = refl
  count_none (suc n) h = rw (eq-eqb (f n) 0 (h n (omega arith)), count_none n (λ k l. h k (omega arith)))

  pub count_zero : (n : ℕ) → fault_count f n ≡ 0 → (k : ℕ) → k < n → f k ≡ 0
  unfolding fault_count
  count_zero zero e k l = absurd (not-suc-le-zero l)
  count_zero (suc n) e k l =
      elim (ℕ_discrete (f n) 0) [
        | no p ↦ let z : fault_count f n + 1 ≡ 0 = rw (ne_eqb (f n) 0 p) at e in absurd (omega arith)
        | yes p ↦
            let z : fault_count f n + 0 ≡ 0 = rw (eq-eqb (f n) 0 p) at e in
            elim (ℕ_discrete k n) [ yes q ↦ rw q p | no q ↦ count_zero n (omega arith) k (omega (arith, q)) ]
      ]

  -- no block with a fault before n: the first is n, "none"
  first_none : (n : ℕ) → ((k : ℕ) → k < n → f k ≡ 0) → first_faulty f n ≡ n
  first_none n h =
      least_unique n _ _ (first_least n)
      (record { from = omega arith; most = omega arith; faulty = λ l e. omega arith; none_before = λ k a b. h k b })

  of_some : (g : ℕ → ℕ) (n r : ℕ) → first_faulty f n ≡ r → r < n → of_first f g n ≡ g r
  unfolding of_first
  of_some g n r e l = rw (e, lt-ltb r n l)

  of_none : (g : ℕ → ℕ) (n : ℕ) → first_faulty f n ≡ n → of_first f g n ≡ 0
  unfolding of_first
  of_none g n e = rw (e, le-ltb n n (omega arith))

  -- ---- the tally

  abbrev tally : ℕ → ℕ → ℕ → Tally
  tally c b e = record { count = c; first = b; fault = e }

  same : {c c' b b' e e' : ℕ} → c ≡ c' → b ≡ b' → e ≡ e' → tally c b e ≡ tally c' b' e'
  same p q r = cc

  -- before the first block
  pub tally_start : tally_of f 0 ≡ tally 0 0 0
  unfolding tally_of fault_count
  tally_start = same refl (of_none (λ b. b) 0 (first_none 0 (λ k l. absurd (not-suc-le-zero l)))) (of_none f 0 (first_none 0 (λ k l. absurd (not-suc-le-zero l))))

  -- none has a fault: all numbers told are 0
  pub tally_none : (n : ℕ) → ((k : ℕ) → k < n → f k ≡ 0) → tally_of f n ≡ tally 0 0 0
  unfolding tally_of
  tally_none n h = same (count_none n h) (of_none (λ b. b) n (first_none n h)) (of_none f n (first_none n h))

  -- one block more
  pub tally_more : (n : ℕ) → noted (tally_of f n) n (f n) ≡ tally_of f (n + 1)
  unfolding noted tally_of
  tally_more n =
      elim (ℕ_discrete (f n) 0) [
        | yes e ↦ rw (eq-eqb (f n) 0 e) (fine e)
        | no e ↦ rw (ne_eqb (f n) 0 e) (elim (ℕ_discrete (fault_count f n) 0) [
          | yes z ↦ rw (eq-eqb (fault_count f n) 0 z) (here e z)
          | no z ↦ rw (ne_eqb (fault_count f n) 0 z) (later e z)
        ])
      ]
    where
      told : (g : ℕ → ℕ) → (first_faulty f n < n) → of_first f g n ≡ of_first f g (n + 1)
      told g l = of_some g n _ refl l ∙ sym (of_some g (n + 1) _ (first_kept n l) (omega arith))

      untold : (g : ℕ → ℕ) → f n ≡ 0 → first_faulty f n ≡ n → of_first f g n ≡ of_first f g (n + 1)
      untold g e k = of_none g n k ∙ sym (of_none g (n + 1) (first_later n k e))

      either_way : (g : ℕ → ℕ) → f n ≡ 0 → of_first f g n ≡ of_first f g (n + 1)
      either_way g e =
          elim (dec_lt (first_faulty f n) n) [
            | yes l ↦ told g l
            | no l ↦ let p = (first_least n).most in untold g e (omega arith)
          ]

      fine : f n ≡ 0 → tally (fault_count f n) (of_first f (λ b. b) n) (of_first f f n) ≡ tally (fault_count f (n + 1)) (of_first f (λ b. b) (n + 1)) (of_first f f (n + 1))
      fine e = same (sym (count_same n e)) (either_way (λ b. b) e) (either_way f e)

      here : (f n ≡ 0 → ⊥) → fault_count f n ≡ 0 → tally 1 n (f n) ≡ tally (fault_count f (n + 1)) (of_first f (λ b. b) (n + 1)) (of_first f f (n + 1))
      here e z =
          let k : first_faulty f (n + 1) ≡ n = first_here n (first_none n (count_zero n z)) e in
          let c : fault_count f (n + 1) ≡ fault_count f n + 1 = count_more n e in
          same (omega arith) (sym (of_some (λ b. b) (n + 1) n k (omega arith))) (sym (of_some f (n + 1) n k (omega arith)))

      later : (f n ≡ 0 → ⊥) → (fault_count f n ≡ 0 → ⊥)
          → tally (fault_count f n + 1) (of_first f (λ b. b) n) (of_first f f n) ≡ tally (fault_count f (n + 1)) (of_first f (λ b. b) (n + 1)) (of_first f f (n + 1))
      later e z =
          let p = first_least n in
          let l : first_faulty f n < n =
          elim (dec_lt (first_faulty f n) n) [
            | yes k ↦ k
            | no k ↦ absurd (z (count_none n (λ j h. p.none_before j (omega arith) (omega arith))))
          ] in
          same (sym (count_more n e)) (told (λ b. b) l) (told f l)

  pub tally_le : (n : ℕ) (t : Tally) → t ≡ tally_of f n → t.count ≤ n
  unfolding tally_of
  tally_le n t e = rw e (count_le n)

  pub tally_first : (n k : ℕ) → k < n → (f k ≡ 0 → ⊥) → First f n (tally_of f n)
  unfolding tally_of
  tally_first n k l h =
      let p = first_least n in
      let m = p.most in
      let before : (j : ℕ) → j < n → (f j ≡ 0 → ⊥) → first_faulty f n ≤ j =
      λ j a b. elim (dec_lt j (first_faulty f n)) [ yes q ↦ absurd (b (p.none_before j (omega arith) q)) | no q ↦ omega arith ] in
      let i = before k l h in
      let r : first_faulty f n < n = omega arith in
      let a : of_first f (λ b. b) n ≡ first_faulty f n = of_some (λ b. b) n _ refl r in
      let b : of_first f f n ≡ f (first_faulty f n) = of_some f n _ refl r in
      record {
        in_image = rw a r;
        its_fault = b ∙ sym (ap f a);
        faulty = λ e. p.faulty r (sym b ∙ e);
        least = λ j q s. rw a (before j q s);
        counted = λ e. h (count_zero n e k l);
      }

  -- ---- the whole

  pub tallied : (n : ℕ) → Tallied f n
  tallied n = record { first_least = first_least n; least_one = λ r l. least_unique n r _ l (first_least n); none = tally_none n; some = tally_first n }
