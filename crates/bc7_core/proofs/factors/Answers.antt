use mathlib.Core.Path.{◌≡◌, refl, sym, ap, subst, ◌∙◌}
use Prim.Native.Nat.{ℕ, ◌+◌, ◌<◌}
use native.Mathlib.Omega.{arith}
use lib.ListN.{length-set}
use Rattle.bits.specs.Block.{block_number}
use Rattle.bc7_layout.specs.Layout.{mode_at}
use Rattle.bc7_core.specs.inner.Sets.{set_of, SetIn, set_factor, Factors}
use Rattle.bc7_core.proofs.Painting.{first_is, own_set, factors_none, factors_more}
use Rattle.bc7_core.proofs.factors.Goals as goal
use Rattle.bc7_core.proofs.factors.Goals.{In-loop-i}

-- what is known of the set before each index
here : (c : In-loop-i) → let a = c.args in
    (c.loop-i.s ≡ set_of (block_number a.b) c.loop-i.s.first c.loop-i.i) × SetIn (mode_at (block_number a.b)) c.loop-i.s.first
here c =
    let a = c.args in
    let e = c.loop-i.invariant.0 in
    (own_set _ _ _ _ e, subst (SetIn (mode_at (block_number a.b))) (sym (first_is _ _ _ _ e)) c.requires.set_value.1)

-- src/lib.rt:167:5
pub loop-i-init : goal.loop-i-init
loop-i-init c = (c.requires.set_value.0, refl, factors_none (set_factor (block_number c.args.b) c.args.set.first) _)

-- src/lib.rt:168:16
pub factor_at-requires : goal.factor_at-requires
factor_at-requires c = let l : c.loop-i.i < 16 = omega arith in record { framed = (c.requires.framed, l); s_value = here c }

-- src/lib.rt:169:9
pub past-s-requires : goal.past-s-requires
past-s-requires c = let l : c.loop-i.i < 16 = omega arith in record { framed = (c.requires.framed, l); s_value = here c.before }

-- src/lib.rt:167:5
pub loop-i-preserved : goal.loop-i-preserved
loop-i-preserved c =
    let b = c.before.before.before in
    let i = b.loop-i.invariant in
    let k = first_is _ _ _ _ i.0 in (
      c.past-s.ensures ∙ ap (λ (x : ℕ). set_of (block_number b.args.b) x (b.loop-i.i + 1)) k,
      simp length-set i.1,
      factors_more (set_factor (block_number b.args.b) b.args.set.first) b.loop-i.r b.loop-i.i _ (omega arith) i.2
          (c.factor_at.ensures.0 ∙ ap (λ (x : ℕ). set_factor (block_number b.args.b) x b.loop-i.i) k) c.factor_at.ensures.1,
    )

-- src/lib.rt:159:1
pub returns : goal.returns
returns c = let q : c.loop-i.i ≡ 16 = omega arith in subst (Factors _ _) q c.loop-i.invariant.2
