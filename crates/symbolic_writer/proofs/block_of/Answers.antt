use borrow.Author.Rules.{rules}
use mathlib.Core.Path.{◌∙◌}
use Rattle.symbolic_block.specs.Fields.{Sized}
use Rattle.symbolic_writer.proofs.Accepted.{packable, mode_piled, void_piled}
use Rattle.symbolic_writer.proofs.block_of.Goals as goal
use Rattle.symbolic_writer.proofs.block_of.Goals.{After-mode_block, After-void_block}

sized-After-mode_block : (c : After-mode_block) → Sized c.args.s
sized-After-mode_block c = record {
  colours_4 = search rules;
  extents_6 = search rules;
  modes_4 = search rules;
  endpoints_18 = c.well_formed.1.0.1.1.1.1.1.1.1.1.1.1.1.1.1.1.1.1.0.1.0.1;
  weights_64 = c.well_formed.1.0.1.1.1.1.1.1.1.1.1.1.1.1.1.1.1.1.1.0.1.0.1;
}

sized-After-void_block : (c : After-void_block) → Sized c.args.s
sized-After-void_block c = record {
  colours_4 = search rules;
  extents_6 = search rules;
  modes_4 = search rules;
  endpoints_18 = c.well_formed.1.0.1.1.1.1.1.1.1.1.1.1.1.1.1.1.1.1.0.1.0.1;
  weights_64 = c.well_formed.1.0.1.1.1.1.1.1.1.1.1.1.1.1.1.1.1.1.1.0.1.0.1;
}

pub returns-then-s-eq1 : goal.returns-then-s-eq1
returns-then-s-eq1 c = let z = c in c.void_block.ensures ∙ rw c.is_volume.ensures (void_piled z.args.fp z.args.s z.requires c.if-s-eq1.true (sized-After-void_block c))

pub mode_block-requires : goal.mode_block-requires
mode_block-requires c = let z = c in packable z.args.fp z.args.s z.requires c.if-s-eq1.false

pub returns : goal.returns
returns c = let z = c in c.mode_block.ensures ∙ mode_piled z.args.fp z.args.s z.requires c.if-s-eq1.false (sized-After-mode_block c)
