use mathlib.Core.Path.{◌≡◌}
use mathlib.Core.Bool.{Bool, not}
use Prim.Native.Nat.{ℕ}
use Rattle.laws.specs.Choice.{both}
use Rattle.interpolation.specs.Expansion.{takes_hdr}
use Rattle.interpolation.specs.declared.Kind.{Kind}
use Rattle.interpolation.specs.declared.Texel.{Texel}
use Rattle.texel.specs.Meaning.{solid_number, solid_texel}
use Rattle.block_levels.specs.inner.Lines.{colours_of}
use Rattle.block_levels.proofs.colours.Goals as goal

-- the four, each as the kind shows it
four : (kind : Kind) (colour : ℕ → ℕ) {hdr mark half : Bool} {t : Texel} {r g b a : ℕ} → t ≡ colours_of colour → mark ≡ hdr → half ≡ both (takes_hdr kind) (not mark)
    → r ≡ solid_number half t.r → g ≡ solid_number half t.g → b ≡ solid_number half t.b → a ≡ solid_number half t.a
    → ◌≡◌ {A = Texel} (record { r = r; g = g; b = b; a = a }) (solid_texel kind hdr colour)
unfolding solid_texel colours_of
four kind colour et em eh er eg eb ea = rw (er, eg, eb, ea, eh, em, et)

pub returns : goal.returns
returns c =
    let h = c.before.before.before.before in
    four _ _ h.stored_colours-t.ensures h.hdr_void_extent.ensures h.shown_as_half-half.ensures c.solid_number-r.ensures c.solid_number-g.ensures c.solid_number-b.ensures c.solid_number-a.ensures
