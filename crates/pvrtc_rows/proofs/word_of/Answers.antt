use mathlib.Core.Path.{◌∙◌}
use Prim.Native.Nat.{ℕ, ◌+◌, ◌*◌, ◌-◌}
use native.Mathlib.Omega.{arith}
use borrow.Author.Rules.{rules}
use Rattle.pvrtc_rows.proofs.Words.{loaded}
use Rattle.pvrtc_rows.proofs.word_of.Goals as goal

pub returns : goal.returns
returns c =
    let a = c.args in
    let at : ℕ = 8 * a.place in
    loaded a.s.now a.place c.requires (λ i. (c.shared_slice_known-1.given i).fits) (at + 8 - at) (omega arith) _ c.load-b.ensures
