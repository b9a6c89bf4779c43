-- `interpolation::line_of` meets its contract.
use Rattle.std.proofs.Common.{◌≡◌, ℕ, [], ◌∷◌, rules}
use Rattle.endpoint_arithmetic.specs.declared.EndpointPair.{EndpointPair}
use Rattle.interpolation.specs.inner.Line.{line_start, slope_of, line_of}
use Rattle.interpolation.proofs.line_of.Goals as goal

eight : (p : EndpointPair) {s0 s1 s2 s3 d0 d1 d2 d3 : ℕ} → s0 ≡ line_start p 0 → s1 ≡ line_start p 1 → s2 ≡ line_start p 2 → s3 ≡ line_start p 3
    → d0 ≡ slope_of p 0 → d1 ≡ slope_of p 1 → d2 ≡ slope_of p 2 → d3 ≡ slope_of p 3
    → s0 ∷ s1 ∷ s2 ∷ s3 ∷ d0 ∷ d1 ∷ d2 ∷ d3 ∷ 0 ∷ 0 ∷ [] ≡ line_of p
unfolding line_of
eight p es0 es1 es2 es3 ed0 ed1 ed2 ed3 = rw (es0, es1, es2, es3, ed0, ed1, ed2, ed3)

pub returns : goal.returns
unfolding line_start slope_of
returns c =
    let x4 = c.before.before.before.before in
    eight _
    x4.start.ensures x4.start-2.ensures x4.start-3.ensures x4.start-4.ensures
    c.slope.ensures c.slope-2.ensures c.slope-3.ensures c.slope-4.ensures
