-- 01, "Numbers told to the caller": what the writer of symbolic blocks (01: sheets) answers.
-- Assumes nothing.
use Rattle.std.specs.Prelude.{ℕ, eqb}
use Rattle.laws.specs.Choice.{pick}
use Rattle.laws.specs.Table.{tab}
use Rattle.bits.specs.Block.{bytes_of}
use Rattle.block_answer.specs.declared.Answer.TheVariants.{Refused, Done}
use Rattle.symbolic_block.specs.declared.SymbolicBlock.{SymbolicBlock}
use Rattle.symbolic_block.specs.Refusals.{refusal_of}
use Rattle.symbolic_block.specs.Writing.{block_of}
use Rattle.symbolic_calls.specs.declared.Writing.{Writing}

-- "The written block comes back as sixteen bytes",
abbrev pub wrote : ℕ → SymbolicBlock → Writing
wrote fp s = record { answer = Done; bytes = bytes_of 16 (block_of fp s) }

-- "all 0 on a refusal"
abbrev pub wrote_nothing : ℕ → Writing
wrote_nothing n = record { answer = Refused n; bytes = tab (λ i. 0) 16 }

-- what the writer answers for s at a footprint: the first refusal that holds, else the block
unfoldable pub writing_of : ℕ → SymbolicBlock → Writing
unfolding tab bytes_of refusal_of block_of
writing_of fp s = pick (eqb (refusal_of fp s) 0) (wrote fp s) (wrote_nothing (refusal_of fp s))
