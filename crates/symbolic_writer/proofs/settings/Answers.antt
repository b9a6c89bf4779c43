use mathlib.Core.Path.{refl, ap, ap₂, ◌∙◌}
use Prim.Native.Nat.{ℕ, ◌+◌, ◌-◌, ◌%◌}
use Rattle.block_mode.specs.declared.WeightGrid.{WeightGrid}
use Rattle.volume_mode.specs.Either.{block_mode_of}
use Rattle.symbolic_block.specs.Writing.{mode_number, mode_cells}
use Rattle.symbolic_writer.specs.inner.Piled.{piled}
use Rattle.symbolic_writer.proofs.Piled.{appended}
use Rattle.symbolic_writer.proofs.settings.Goals as goal

pub returns : goal.returns
unfolding piled mode_cells
returns c =
    let index-end = ap (λ (x : ℕ). 13 + x) c.index_bits-index_end.ensures.0 in
    appended c.append.ensures (ap₂ ◌+◌ index-end c.selector_bits.ensures.0)
    (appended c.append-b-4.ensures index-end
    (appended {p = 13} c.append-b-3.ensures refl
    (appended {p = 11} c.append-b-2.ensures refl
    (appended {p = 0} c.append-b.ensures refl c.no_bits.ensures (c.mode_number.ensures ∙ ap (λ (g : WeightGrid). mode_number (block_mode_of g)) c.grid_of.ensures))
    (ap (λ (x : ℕ). x - 1) c.wide.ensures.0))
    c.wide16.ensures)
    c.wide-2.ensures.0)
    (ap (λ (x : ℕ). x % 16) c.requires.1)
