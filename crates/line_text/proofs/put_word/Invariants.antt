use mathlib.Core.Path.{◌≡◌}
use Prim.Native.Nat.{◌+◌}
use lib.ListN.{take}
use Rattle.line_text.specs.inner.Written.{Puts}
use Rattle.line_text.proofs.put_word.Given as goal

abbrev pub invariant-loop-b : goal.invariant-loop-b
invariant-loop-b l = (l.end ≡ l.at + l.b-index) × Puts l.initial.out l.at (take l.b-index l.word) l.out l.end
