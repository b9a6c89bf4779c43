use mathlib.Core.Path.{◌≡◌, refl, sym, ap, ◌∙◌}
use mathlib.Core.Bool.{true}
use Rattle.bits.specs.Block.{block_number}
use Rattle.block_fault.specs.declared.Settings.{Settings}
use Rattle.block_fault.proofs.Sound.{coded_counts, coded_read}
use Rattle.symbolic_block.specs.Writing.{block_of}
use Rattle.symbolic_block.specs.Refusals.{refusal_of}
use Rattle.symbolic_block.specs.Reading.{read_block}
use Rattle.symbolic_block.proofs.Opened.{read_mode}
use Rattle.symbolic_block.proofs.Demand.{demand_3}
use Rattle.block_reading.specs.Faults.{canonical_of}
use Rattle.strict_block.proofs.written_coded.Goals as goal

pub mode_block-requires : goal.mode_block-requires
mode_block-requires c =
    let k = coded_read c.args.fp (block_number c.args.b) refl (c.requires.no_fault, c.requires.is) in
    let n = coded_counts true _ _ k.0 k.1 in
    rw k.2 (n.0, n.1, refl, refl)

pub block_of-requires : goal.block_of-requires
block_of-requires c =
    let k = coded_read c.args.fp (block_number c.args.b) refl (c.requires.no_fault, c.requires.is) in
    let sheet = c.mode_block.ensures ∙ rw (ap (λ (s : Settings). s.header) k.2) (sym (read_mode _ _ k.1)) in
    ap (refusal_of c.args.fp) sheet ∙ demand_3.read_acceptable _ _ c.requires.low c.requires.no_fault

pub returns : goal.returns
unfolding canonical_of
returns c =
    let k = coded_read c.args.fp (block_number c.args.b) refl (c.requires.no_fault, c.requires.is) in
    let sheet : c.mode_block.result ≡ read_block c.args.fp (block_number c.args.b) = c.mode_block.ensures ∙ rw (ap (λ (s : Settings). s.header) k.2) (sym (read_mode _ _ k.1)) in
    c.block_of.ensures ∙ ap (block_of c.args.fp) sheet
