use mathlib.Core.Path.{ap, ◌∙◌}
use Prim.Native.Nat.{ℕ, ◌*◌}
use Rattle.bc7_layout.specs.Modes.{mode_row, subsets, colour_bits}
use Rattle.bc7_layout.specs.Layout.{place_of}
use Rattle.bc7_ends.proofs.Places.{plan_is}
use Rattle.bc7_ends.proofs.frame_of.Goals as goal

pub returns : goal.returns
returns c =
    let p = c.requires in
    let row = c.mode_row-row.ensures in
    record {
      known = rw p.0 at p.1;
      mode = p.0;
      row = row ∙ ap mode_row p.0;
      plan = plan_is _ _ _ _ _ p.0 row c.partition_at-p.ensures.0 c.plan_of-plan.ensures;
      ends = c.ends_at-ends.ensures.0 ∙ ap (λ (n : ℕ). place_of n 0 4) p.0;
      ends_most = c.ends_at-ends.ensures.1;
      step = c.colour_step-step.ensures.0 ∙ ap (λ (n : ℕ). 2 * subsets n * colour_bits n) p.0;
      step_most = c.colour_step-step.ensures.1;
      p_bits_lem = c.p_bits_at-pbits.ensures.0 ∙ ap (λ (n : ℕ). place_of n 0 22) p.0;
      p_bits_most = c.p_bits_at-pbits.ensures.1;
      indices = c.indices_at-indices.ensures.0 ∙ ap (λ (n : ℕ). place_of n 0 28) p.0;
      indices_most = c.indices_at-indices.ensures.1;
    }
