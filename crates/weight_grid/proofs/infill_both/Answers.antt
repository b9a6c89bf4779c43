use mathlib.Core.Path.{ap, ◌∙◌}
use Prim.Native.Nat.{ℕ, ◌/◌, ◌%◌}
use native.Mathlib.Omega.{arith}
use Rattle.weight_grid.proofs.Planes.{first_blend, second_blend, number_le}
use Rattle.weight_grid.proofs.infill_both.Goals as goal

pub blend_both-requires : goal.blend_both-requires
blend_both-requires c = let h = c.requires in record { fs_bound = (omega arith, omega arith); p00_bound = (number_le _ h.0, number_le _ h.1, number_le _ h.2, number_le _ h.3) }

pub returns : goal.returns
returns c = let b = c.before in
    let h = b.requires in
    let a = b.args in record {
      result_value = ap (λ (n : ℕ). n % 256) c.blend_both.ensures
          ∙ first_blend (a.gs % 16) (a.gt % 16) _ _ _ _ (omega arith) (omega arith) h.0 h.1 h.2 h.3;
      result_value_2 = ap (λ (n : ℕ). n / 65536) c.blend_both.ensures
          ∙ second_blend (a.gs % 16) (a.gt % 16) _ _ _ _ (omega arith) (omega arith) h.0 h.1 h.2 h.3;
    }
