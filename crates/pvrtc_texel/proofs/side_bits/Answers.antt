use mathlib.Core.Path.{◌≡◌, refl, sym, subst, ◌∙◌}
use Prim.Native.Nat.{ℕ, ◌-◌, ◌<◌}
use native.Mathlib.Omega.{arith}
use Rattle.pvrtc_texel.specs.Image.{bits_from, side_bits}
use Rattle.pvrtc_texel.proofs.Sides.{shift_exact, search_more, search_here}
use Rattle.pvrtc_texel.proofs.side_bits.Goals as goal

pub loop-k-init : goal.loop-k-init
unfolding side_bits
loop-k-init c = refl

pub returns-then-side-k : goal.returns-then-side-k
returns-then-side-k c =
    let l = c.loop-k in
    let below : l.k < 11 = omega arith in
    search_here c.args.side l.k below (c.if-side-k.true ∙ shift_exact l.k below) ∙ l.invariant

pub loop-k-preserved : goal.loop-k-preserved
loop-k-preserved c =
    let l = c.loop-k in
    let below : l.k < 11 = omega arith in
    sym (search_more c.args.side l.k below (λ e. c.if-side-k.false (e ∙ sym (shift_exact l.k below)))) ∙ l.invariant

pub returns : goal.returns
unfolding bits_from
returns c =
    let e : c.loop-k.k ≡ 11 = omega arith in
    sym (subst (λ (k : ℕ). bits_from c.args.side k (11 - k) ≡ 11) (sym e) refl) ∙ c.loop-k.invariant
