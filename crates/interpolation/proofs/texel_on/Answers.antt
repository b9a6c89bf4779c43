-- `interpolation::texel_on` meets its contract.
use Rattle.std.proofs.Common.{◌≡◌, ℕ, ◌+◌, eqb, List, get_or, rules}
use Rattle.laws.specs.Choice.{pick}
use Rattle.interpolation.specs.declared.Kind.{Kind}
use Rattle.interpolation.specs.declared.Texel.{Texel}
use Rattle.interpolation.specs.inner.Line.{on_line, low_of, add_of, line_channel, line_texel}
use Rattle.interpolation.proofs.texel_on.Goals as goal

module _ (kind : Kind) (l : List ℕ) (first second component : ℕ) where
  channel : (c : ℕ) {k m i n : ℕ} → k ≡ low_of kind → m ≡ add_of kind → n ≡ on_line (get_or l c 0) (get_or l (4 + c) 0) k m i → i ≡ pick (eqb c component) second first
      → n ≡ line_channel kind l first second component c
  unfolding line_channel
  channel c ek em e f = rw (e, f, ek, em)

  four : {r g b a : ℕ} → r ≡ line_channel kind l first second component 0 → g ≡ line_channel kind l first second component 1
      → b ≡ line_channel kind l first second component 2 → a ≡ line_channel kind l first second component 3
      → ◌≡◌ {A = Texel} (record { r = r; g = g; b = b; a = a }) (line_texel kind l first second component)
  unfolding line_texel
  four er eg eb ea = rw (er, eg, eb, ea)

pub returns : goal.returns
returns c =
    let x3 = c.before.before in
    let x2 = x3.before.before in
    let x1 = x2.before.before in
    let k = x1.low-k.ensures in
    let n = x1.added-n.ensures in
    four _ _ _ _ _
    (channel _ _ _ _ _ 0 k n x1.on_line.ensures x1.weight.ensures)
    (channel _ _ _ _ _ 1 k n x2.on_line-2.ensures x2.weight-2.ensures)
    (channel _ _ _ _ _ 2 k n x3.on_line-3.ensures x3.weight-3.ensures)
    (channel _ _ _ _ _ 3 k n c.on_line-4.ensures c.weight-4.ensures)
