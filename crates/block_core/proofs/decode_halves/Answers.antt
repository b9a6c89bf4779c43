use mathlib.Core.Path.{refl, sym, ap, ◌∙◌}
use Rattle.std.specs.Prelude.{Ok}
use Rattle.bits.specs.Block.{block_number}
use Rattle.reason.proofs.Answers.{fault_is}
use Rattle.block_fault.specs.declared.Settings.{Settings}
use Rattle.block_fault.proofs.Sound.{coded_counts, coded_limits, void_read, coded_read}
use Rattle.block_core.specs.inner.Prepared.{halves}
use Rattle.block_core.proofs.Shows.{painted_into, shows_fault, shows_void, shows_coded, flat_grid_lem}
use Rattle.block_core.proofs.decode_halves.Goals as goal

pub paint_coded-requires-clause-grid_bound : goal.paint_coded-requires-clause-grid_bound
paint_coded-requires-clause-grid_bound c =
    let k = coded_read c.args.fp (block_number (halves c.args.lo c.args.hi)) (c.in-Ok-Coded.is ∙ ap Ok c.in-Ok-Coded.field-0-is) c.read_settings.ensures in rw k.2 (coded_counts _ _ _ k.0 k.1)

pub paint_coded-requires-clause-numbers_value : goal.paint_coded-requires-clause-numbers_value
paint_coded-requires-clause-numbers_value c =
    let k = coded_read c.args.fp (block_number (halves c.args.lo c.args.hi)) (c.in-Ok-Coded.is ∙ ap Ok c.in-Ok-Coded.field-0-is) c.read_settings.ensures in rw k.2 (refl, refl)

pub paint_coded-requires-clause-limits : goal.paint_coded-requires-clause-limits
paint_coded-requires-clause-limits c =
    let k = coded_read c.args.fp (block_number (halves c.args.lo c.args.hi)) (c.in-Ok-Coded.is ∙ ap Ok c.in-Ok-Coded.field-0-is) c.read_settings.ensures in
    rw k.2 (coded_limits _ _ _ k.0 k.1, flat_grid_lem _ _ _ k.0 k.1)

pub returns-in-Err : goal.returns-in-Err
returns-in-Err c =
    let k = fault_is _ c.in-Err.is (rw c.takes_hdr.ensures at c.read_settings.ensures) in
    (k.0 ∙ sym c.into.ensures, refl, λ l. sym (painted_into _ _ _ _ l (λ x q. c.error_texel.ensures ∙ shows_fault _ _ _ x _ _ k.1) refl))

pub returns-in-Ok-VoidExtent : goal.returns-in-Ok-VoidExtent
returns-in-Ok-VoidExtent c =
    let k = void_read c.args.fp (block_number (halves c.args.lo c.args.hi)) (c.in-Ok-VoidExtent.is ∙ ap Ok c.in-Ok-VoidExtent.field-0-is) (rw c.takes_hdr.ensures at c.read_settings.ensures) in
    (k.0, refl, λ l. sym (painted_into _ _ _ _ l (λ x q. c.colours.ensures ∙ shows_void _ _ _ x _ _ k.0 k.1) refl))

pub returns-in-Ok-Coded : goal.returns-in-Ok-Coded
returns-in-Ok-Coded c =
    let k = coded_read c.args.fp (block_number (halves c.args.lo c.args.hi)) (c.in-Ok-Coded.is ∙ ap Ok c.in-Ok-Coded.field-0-is) (rw c.takes_hdr.ensures at c.read_settings.ensures) in
    (k.0, λ e. painted_into _ _ _ _ _ (λ x q. shows_coded _ _ _ x _ _ k.0 k.1 _ (ap (λ (s : Settings). s.header) k.2)) (c.paint_coded.ensures e))
