-- 02, f: "It answers the fault with the magenta texel where the block is bad." What asking one texel of a block answers: the block's fault, 0 for
-- none, and the texel, in 16 bits. B is the number of its 128 bits, x and y a place in its one layer.
-- Assumes nothing.
use Rattle.std.specs.Prelude.{ℕ}
use Rattle.interpolation.specs.declared.Kind.{Kind}
use Rattle.interpolation.specs.Expansion.{takes_hdr}
use Rattle.block_fault.specs.Faults.{fault_of}
use Rattle.texel.specs.BlockTexel.{block_texel}
use Rattle.one_texel.specs.declared.OneTexel.{OneTexel}

unfoldable pub one_texel : ℕ → Kind → ℕ → ℕ → ℕ → OneTexel
one_texel fp kind B x y = record { fault = fault_of (takes_hdr kind) fp B; texel = block_texel fp kind B x y 0 }
