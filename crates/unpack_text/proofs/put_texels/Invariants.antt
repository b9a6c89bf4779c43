use Prim.Native.Nat.{◌+◌, ◌*◌, ◌≤◌}
use lib.ListN.{get_or}
use Rattle.interpolation.specs.Expansion.{shown_of}
use Rattle.line_text.specs.Lines.{texel_line, lines_of}
use Rattle.line_text.specs.inner.Written.{Puts}
use Rattle.unpack_text.proofs.put_texels.Given as goal

abbrev pub invariant-loop-k : goal.invariant-loop-k
invariant-loop-k l =
    (l.at ≤ l.from + 36 * l.k) × Puts l.initial.out l.from (lines_of (texel_line l.width (λ i. shown_of l.kind (get_or l.numbers i 0))) l.k) l.out l.at
