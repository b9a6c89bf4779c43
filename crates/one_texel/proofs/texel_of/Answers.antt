use mathlib.Core.Path.{refl, sym, ap, ◌∙◌}
use Rattle.std.specs.Prelude.{Ok}
use Rattle.bits.specs.Block.{block_number}
use Rattle.footprint.proofs.Laws.{flat}
use Rattle.reason.proofs.Answers.{fault_is}
use Rattle.block_fault.specs.declared.Settings.{Settings}
use Rattle.block_fault.proofs.Sound.{coded_counts, coded_limits, void_read, coded_read}
use Rattle.block_core.proofs.Shows.{shows_fault, shows_void, shows_coded, flat_grid_lem}
use Rattle.one_texel.proofs.Coded.{some_partition, answered}
use Rattle.one_texel.proofs.texel_of.Goals as goal

pub read_settings-requires : goal.read_settings-requires
read_settings-requires c = sym (flat _ c.requires.fp_bound)

pub coded_texel-requires : goal.coded_texel-requires
coded_texel-requires c =
    let k = coded_read c.args.fp (block_number c.args.block) (c.in-Ok-Coded.is ∙ ap Ok c.in-Ok-Coded.field-0-is) c.read_settings.ensures in
    let f = flat _ c.requires.fp_bound in
    record {
      grid_bound = rw k.2 (coded_counts _ _ _ k.0 k.1);
      numbers_value = rw k.2 (refl, refl);
      limits = rw k.2 (coded_limits _ _ _ k.0 k.1);
      fp_value = (f, rw k.2 (flat_grid_lem _ _ _ k.0 k.1 f));
      le_partitions = some_partition c.args.fp (block_number c.args.block) _ (ap (λ (s : Settings). s.header) k.2);
      x_bound = c.requires.x_bound;
    }

pub returns-in-Err : goal.returns-in-Err
returns-in-Err c =
    let a = c.args in
    let k = fault_is _ c.in-Err.is (rw c.takes_hdr.ensures at c.read_settings.ensures) in
    answered a.fp a.kind (block_number a.block) a.x a.y (c.into.ensures ∙ sym k.0) (c.error_texel.ensures ∙ shows_fault _ _ _ a.x a.y 0 k.1)

pub returns-in-Ok-VoidExtent : goal.returns-in-Ok-VoidExtent
returns-in-Ok-VoidExtent c =
    let a = c.args in
    let k = void_read a.fp (block_number a.block) (c.in-Ok-VoidExtent.is ∙ ap Ok c.in-Ok-VoidExtent.field-0-is) (rw c.takes_hdr.ensures at c.read_settings.ensures) in
    answered a.fp a.kind (block_number a.block) a.x a.y (sym k.0) (c.colours.ensures ∙ shows_void _ _ _ a.x a.y 0 k.0 k.1)

pub returns-in-Ok-Coded : goal.returns-in-Ok-Coded
returns-in-Ok-Coded c =
    let a = c.args in
    let k = coded_read a.fp (block_number a.block) (c.in-Ok-Coded.is ∙ ap Ok c.in-Ok-Coded.field-0-is) (rw c.takes_hdr.ensures at c.read_settings.ensures) in
    answered a.fp a.kind (block_number a.block) a.x a.y (sym k.0) (c.coded_texel.ensures ∙ shows_coded _ _ _ a.x a.y 0 k.0 k.1 _ (ap (λ (s : Settings). s.header) k.2))
