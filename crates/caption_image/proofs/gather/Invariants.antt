use mathlib.Core.List.{List}
use Prim.Native.Nat.{ℕ, ◌+◌, ◌/◌, ◌%◌}
use Rattle.laws.proofs.Filling.{Filling}
use Rattle.caption_image.specs.Image.{wanted_at}
use Rattle.caption_image.proofs.gather.Given as goal

abbrev pub grey_at : List ℕ → ℕ → ℕ → ℕ → ℕ → ℕ → ℕ
grey_at wanted width height x y i = wanted_at width height wanted (x + i % 4) (y + i / 4)

abbrev pub invariant-loop-i : goal.invariant-loop-i
invariant-loop-i l = Filling (grey_at l.wanted l.width l.height l.x l.y) 0 16 l.out l.i
