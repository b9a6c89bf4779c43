use native.Mathlib.Omega.{arith}
use Rattle.quantization.specs.Ranges.{encoding_at, bits_at}
use Rattle.quantization.specs.Unquantise.{unquant_endpoint}
use Rattle.texel.specs.Meaning.{endpoint_levels}
use Rattle.block_levels.proofs.Levels.{endpoint_zero, levels_read}
use Rattle.block_levels.proofs.endpoints_of.Goals as goal

pub returns : goal.returns
unfolding endpoint_levels
returns c =
    let a = c.args in
    levels_read (unquant_endpoint a.range) (endpoint_zero a.range) 18 (encoding_at a.range) (bits_at a.range) _ a.n (omega (arith, c.requires)) c.read_sequence.ensures c.endpoint_levels.ensures
