use Rattle.std.proofs.Common.{◌≡◌, ℕ, ◌/◌, ◌%◌, List, ap, ◌∙◌, rules}
use Rattle.interpolation.specs.declared.Kind.{Kind}
use Rattle.interpolation.specs.declared.Texel.{Texel}
use Rattle.interpolation.specs.inner.Mixes.{Mixes}
use Rattle.interpolation.specs.inner.Line.{line_of, line_texel}
use Rattle.interpolation.proofs.Lines.{line_texel_lem}
use Rattle.endpoint_arithmetic.specs.declared.EndpointPair.{EndpointPair}
use Rattle.interpolation.proofs.mix_line.Goals as goal

-- on the line of a pair, hence the pair's texel
both : (kind : Kind) (l : List ℕ) (first second component : ℕ) (r : Texel) → r ≡ line_texel kind l first second component
    → (r ≡ line_texel kind l first second component) × ((p : EndpointPair) → l ≡ line_of p → Mixes kind p first second component r)
both kind l first second component r e = (
  e,
  λ p q. record { mixed = λ h0 h1 hf hs. e ∙ ap (λ (m : List ℕ). line_texel kind m first second component) q ∙ line_texel_lem kind p first second component h0 h1 hf hs },
)

pub returns : goal.returns
returns c = let it = both _ _ _ _ _ _ c.texel_on.ensures in record { value = it.0; mixes = it.1 }
