use Rattle.block_core.proofs.decode_into.Goals as goal

pub returns : goal.returns
returns c = let it = c.buffered.ensures _ _ _ c.decode_halves-d.ensures in record { value = it.0; out_after = it.1 }
