use mathlib.Core.Path.{◌≡◌, sym, ap, ◌∙◌}
use Rattle.bits.specs.Block.{block_number}
use Rattle.bc7_layout.specs.declared.Mode.{Mode}
use Rattle.bc7_layout.specs.Modes.{secondary_bits}
use Rattle.bc7_layout.specs.Layout.{mode_at}
use Rattle.bc7_core.proofs.Painting.{fault_told, no_fault_told, bytes_reserved, bytes_shown, factors_by, one_set}
use borrow.Author.Rules.{rules}
use Rattle.bc7_core.proofs.decode_into.Goals as goal

-- src/lib.rt:250:9
pub returns-then-m-eq8 : goal.returns-then-m-eq8
returns-then-m-eq8 c = let m = sym c.mode_at-m.ensures.0 ∙ c.if-m-eq8.true in record { value = fault_told _ m; out_after = c.clear.ensures ∙ bytes_reserved _ m }

-- src/lib.rt:257:9
pub paint-requires : goal.paint-requires
unfolding secondary_bits
paint-requires c = let fr = c.frame_of-f.ensures in
    let lines = c.lines_of-lines.ensures in
    let w = c.colour_factors-colours.ensures in
    let z = sym (ap (λ (w : Mode). w.secondary) fr.row) ∙ c.if-row-eq0.true in record { framed = (fr, search rules); filled = lines; factors = w; factors_2 = factors_by _ _ _ 16 (one_set _ _ fr.known z) w }

-- src/lib.rt:258:9
pub returns-then-row-eq0 : goal.returns-then-row-eq0
returns-then-row-eq0 c = let b = c.before.before.before.before.before.before.before.before.before.before.before in
    let m : mode_at (block_number b.args.b) ≡ 8 → ⊥ = λ q. b.if-m-eq8.false (b.mode_at-m.ensures.0 ∙ q) in record { value = no_fault_told _ m; out_after = c.paint.ensures ∙ bytes_shown _ m }

-- src/lib.rt:242:1
pub returns : goal.returns
returns c = let b = c.before.before.before.before.before.before.before.before.before.before.before.before in
    let m : mode_at (block_number b.args.b) ≡ 8 → ⊥ = λ q. b.if-m-eq8.false (b.mode_at-m.ensures.0 ∙ q) in record { value = no_fault_told _ m; out_after = c.paint-2.ensures ∙ bytes_shown _ m }
