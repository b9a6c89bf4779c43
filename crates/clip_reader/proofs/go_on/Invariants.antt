use Rattle.std.proofs.Common.{◌≡◌, drop}
use Rattle.clip.specs.Feed.{go_on}
use Rattle.clip_reader.proofs.Feeding.{plus}
use Rattle.clip_reader.proofs.go_on.Given as goal

abbrev pub invariant-loop-i : goal.invariant-loop-i
invariant-loop-i l = go_on l.initial.clip l.piece ≡ plus l.i (go_on l.clip (drop l.i l.piece))
