use mathlib.Core.Path.{◌≡◌, sym, ap, ◌∙◌}
use Prim.Native.Nat.{ℕ, ◌+◌, ◌-◌, ◌*◌, ◌/◌, ◌%◌, ◌^◌, ◌≤◌}
use native.Mathlib.Decide.{dec_lt}
use native.Mathlib.Omega.{arith}
use lib.Dec.{T, eqb, ltb, eqb→eq}
use borrow.Author.Tests.{lt-ltb, le-ltb}
use Rattle.laws.specs.Choice.{pick, all}
use Rattle.laws.proofs.Computed.{each}
use Rattle.footprint.specs.Footprint.{footprints, sides_of, width_of, height_of, depth_of}
use Rattle.footprint.proofs.Laws.{past}
use borrow.Author.Rules.{rules}
use Rattle.footprint.proofs.sides_of.Goals as goal

abbrev side_in : ℕ → ℕ → ℕ
side_in n fp = n / 2 ^ (4 * fp) % 16

side : (m n : ℕ) (f : ℕ → ℕ) → T (all (λ fp. eqb (side_in m fp) (f fp)) 14) → T (all (λ k. eqb (side_in n k) (f (k + 14))) 10) → ((fp : ℕ) → 24 ≤ fp → f fp ≡ 0)
    → (fp : ℕ) → pick (ltb fp 14) (side_in m fp) (pick (ltb fp 24) (side_in n (fp - 14)) 0) ≡ f fp
side m n f t u none fp =
    elim (dec_lt fp 14) [
      | yes p ↦ rw (lt-ltb fp 14 p) (eqb→eq _ _ (each (λ fp. eqb (side_in m fp) (f fp)) 14 t fp p))
      | no p ↦ elim (dec_lt fp 24) [
        | yes q ↦
            let e : fp - 14 + 14 ≡ fp = omega arith in
            rw (le-ltb fp 14 (omega arith), lt-ltb fp 24 q) (eqb→eq _ _ (each (λ k. eqb (side_in n k) (f (k + 14))) 10 u (fp - 14) (omega arith)) ∙ ap f e)
        | no q ↦ rw (le-ltb fp 14 (omega arith), le-ltb fp 24 (omega arith)) (sym (none fp (omega arith)))
      ]
    ]

pub returns : goal.returns
unfolding sides_of width_of height_of depth_of footprints
returns c =
    let fp = c.args.fp in
    let w : c.side_in.result ≡ width_of fp = c.side_in.ensures ∙ side _ _ width_of tt tt (λ k h. (past k h).width) fp in
    let h : c.side_in-2.result ≡ height_of fp = c.side_in-2.ensures ∙ side _ _ height_of tt tt (λ k h. (past k h).height) fp in
    let d : c.side_in-3.result ≡ depth_of fp = c.side_in-3.ensures ∙ side _ _ depth_of tt tt (λ k h. (past k h).depth) fp in
    rw (w, h, d)
