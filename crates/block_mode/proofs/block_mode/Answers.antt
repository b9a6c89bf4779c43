use mathlib.Core.Path.{◌≡◌}
use Prim.Native.Nat.{◌%◌}
use native.Mathlib.Omega.{arith}
use Rattle.block_mode.specs.inner.Forms.{marks_of}
use Rattle.block_mode.proofs.ByForm.{by_void, by_reserved, by_grid}
use Rattle.block_mode.proofs.block_mode.Goals as goal
use Rattle.block_mode.proofs.block_mode.Goals.{After-nibble-marks}

pub returns-then-m-eq508 : goal.returns-then-m-eq508
returns-then-m-eq508 c = by_void c.args.bits c.if-m-eq508.true

-- the marks are those of the form
marks : (c : After-nibble-marks) → c.nibble-marks.result ≡ marks_of (c.args.bits % 2048)
unfolding marks_of
marks c = rw (c.nibble-marks.ensures.0, c.form_of-form.ensures.0)

pub returns-then-marks-ge8 : goal.returns-then-marks-ge8
returns-then-marks-ge8 c = by_reserved c.args.bits c.if-m-eq508.false (omega (arith, marks c.before, c.if-marks-ge8.true))

pub returns : goal.returns
returns c =
    let k = c.before.before in
    rw (c.grid_of.ensures, marks k, k.form_of-form.ensures.0)
    (by_grid c.args.bits c.if-m-eq508.false (omega (arith, marks k, c.if-marks-ge8.false)))
