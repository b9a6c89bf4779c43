-- `interpolation::on_line` meets its contract.
use Rattle.std.proofs.Common.{◌≡◌, ℕ, ◌/◌, rules}
use Rattle.interpolation.specs.inner.Line.{times, plus, on_line}
use Rattle.interpolation.proofs.on_line.Goals as goal

-- the steps, with the definitions of each step shut
steps : (start step k add i far t four low sum r : ℕ) → far ≡ times step i → t ≡ plus start far → four ≡ times t 4 → low ≡ times t k → sum ≡ plus low add
    → r ≡ plus four (sum / 64) → r ≡ on_line start step k add i
unfolding on_line
steps start step k add i far t four low sum r ef et e4 el es er = cc

pub returns : goal.returns
unfolding plus
returns c =
    steps _ _ _ _ _ _ _ _ _ _ _
    c.times.ensures c.wrapping_add_u16-t.ensures.value c.times-2.ensures c.times-3.ensures
    c.wrapping_add_u16.ensures.value c.wrapping_add_u16-2.ensures.value
