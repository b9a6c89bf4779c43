use Rattle.strict_block.proofs.decode_in.Goals as goal

pub returns : goal.returns
returns c = let it = c.buffered.ensures _ _ _ c.decode_some_in-d.ensures in record { value = it.0; out_after = it.1 }
