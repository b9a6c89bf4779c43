-- What a decoded block answers of a fault and of what it puts into a buffer.
-- Assumes nothing.
use Rattle.std.specs.Prelude.{◌≡◌, List, ℕ, length}
use Rattle.footprint.specs.Footprint.{width_of, texels_of}
use Rattle.block_buffer.specs.inner.Painted.{painted}
use Rattle.block_core.specs.declared.Decoded.{Decoded}
use Rattle.block_core.specs.declared.Decoded.TheVariants.{Uniform, Buffered}

-- one texel: the buffer is as it was, and would hold that texel everywhere; else it holds what is to be put into it, and there is no fault
abbrev pub Shows : ℕ → (List ℕ → List ℕ) → ℕ → Decoded → List ℕ → List ℕ → Type 0
Shows fault into fp (Uniform u) old new =
    (fault ≡ u.fault) × (new ≡ old) × ((l : List ℕ) → into l ≡ painted (width_of fp) (λ x y. u.texel) (texels_of fp) l)
Shows fault into fp Buffered old new = (fault ≡ 0) × (length old ≡ 864 → new ≡ into old)
