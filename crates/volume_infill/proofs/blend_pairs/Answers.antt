use mathlib.Core.Path.{ap, ◌∙◌}
use Prim.Native.Nat.{ℕ, ◌/◌, ◌%◌}
use Rattle.weight_grid.proofs.Planes.{number_le}
use Rattle.volume_infill.proofs.Sixteenths.{first_four, second_four}
use Rattle.volume_infill.proofs.blend_pairs.Goals as goal

pub blend_four-requires : goal.blend_four-requires
blend_four-requires c = let h = c.requires.byte_pair in record { w3_value = c.requires.w3_value; p0_bound = (number_le _ h.0, number_le _ h.1, number_le _ h.2, number_le _ h.3) }

pub returns : goal.returns
returns c = let b = c.before in
    let a = b.args in
    let h = b.requires.byte_pair in record {
      result_value = ap (λ (n : ℕ). n % 256) c.blend_four.ensures
          ∙ first_four a.w0 a.w1 a.w2 a.w3 b.requires.w3_value _ _ _ _ h.0 h.1 h.2 h.3;
      result_value_2 = ap (λ (n : ℕ). n / 65536) c.blend_four.ensures
          ∙ second_four a.w0 a.w1 a.w2 a.w3 b.requires.w3_value _ _ _ _ h.0 h.1 h.2 h.3;
    }
