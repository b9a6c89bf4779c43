use mathlib.Core.Path.{◌∙◌}
use Prim.Native.Nat.{ℕ, ◌+◌, ◌*◌, ◌-◌}
use native.Mathlib.Omega.{arith}
use Rattle.image_layout.proofs.Blocks.{loaded_at}
use Rattle.image_parts.proofs.block_of.Goals as goal

pub returns : goal.returns
returns c = let a = c.args in
    let at : ℕ = 16 * a.b in
    c.load.ensures ∙ loaded_at a.s.now a.b c.requires (at + 16 - at) (omega arith) (λ i. (c.shared_slice_known-1.given i).fits)
