-- An acceptable symbolic block: its cells piled up are its block.
-- Assumes nothing.
use mathlib.Core.Path.{◌≡◌, sym, ◌∙◌}
use Prim.Native.Nat.{ℕ}
use Rattle.symbolic_block.specs.declared.SymbolicBlock.{SymbolicBlock}
use Rattle.symbolic_block.specs.Fields.{colour_in, extent_in, Sized}
use Rattle.symbolic_block.specs.Refusals.{Acceptable}
use Rattle.symbolic_block.specs.Writing.{mode_cells, block_of}
use Rattle.footprint.specs.Footprint.{is_volume}
use Rattle.void_extent.specs.Writing.{void_cells}
use Rattle.symbolic_block.proofs.Opened.{block_void, block_mode_lem}
use Rattle.symbolic_block.proofs.Fine.{Fine, fine}
use Rattle.symbolic_block.proofs.Written as written
use Rattle.symbolic_block.proofs.Void as void
use Rattle.symbolic_block.proofs.Demand.{void_none, mode_none}
use Rattle.symbolic_writer.specs.inner.Piled.{piled, Packable}
use Rattle.symbolic_writer.proofs.Piled.{piled_laid}

module _ (fp : ℕ) (s : SymbolicBlock) (a : Acceptable fp s) where
  -- a mode sheet
  module _ (m : s.mark ≡ 1 → ⊥) where
    is_fine : Fine fp s
    is_fine = fine fp s m (mode_none fp s a m)

    pub packable : Packable s
    packable = record {
      partitions_low = is_fine.partitions_low;
      partitions_most = is_fine.partitions_most;
      weights_most = is_fine.count_most;
      bits_most = is_fine.bits_most;
      endpoints_most = is_fine.numbers_most;
    }

    pub mode_piled : Sized s → piled 0 (mode_cells s) ≡ block_of fp s
    mode_piled z = piled_laid (mode_cells s) (written.apart fp s is_fine z) ∙ sym (block_mode_lem s m fp)

  -- a void extent
  pub void_piled : s.mark ≡ 1 → Sized s → piled 0 (void_cells (is_volume fp) s.hdr (extent_in s) (colour_in s)) ≡ block_of fp s
  void_piled m z = piled_laid (void_cells (is_volume fp) s.hdr (extent_in s) (colour_in s)) (void.apart fp s m (void_none fp s a m) z) ∙ sym (block_void s m fp)
