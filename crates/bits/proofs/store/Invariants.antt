use Prim.Native.Nat.{ℕ, ◌*◌}
use Rattle.laws.proofs.Filling.{Filling}
use Rattle.bits.specs.declared.PhysicalBlock.{PhysicalBlock}
use Rattle.bits.specs.Field.{field}
use Rattle.bits.specs.Block.{block_number}
use Rattle.bits.proofs.store.Given as goal

-- byte i of the block
abbrev pub bytes : PhysicalBlock → ℕ → ℕ
bytes b i = field (block_number b) (8 * i) 8

abbrev pub invariant-loop-k : goal.invariant-loop-k
invariant-loop-k l = Filling (bytes l.b) 0 16 l.s l.k
