use mathlib.Core.Path.{◌≡◌}
use Prim.Native.Nat.{◌-◌}
use Rattle.astc_header.specs.Header.{footprint_from, footprint_for}
use Rattle.astc_header.proofs.footprint_for.Given as goal

-- the search from fp on finds what the search from 0 on does
abbrev pub invariant-loop-fp : goal.invariant-loop-fp
invariant-loop-fp l = footprint_from l.columns l.rows l.fp (14 - l.fp) ≡ footprint_for l.columns l.rows
