use mathlib.Core.Path.{◌≡◌, sym, ap, ◌∙◌}
use mathlib.Core.Bool.{false}
use Prim.Native.Nat.{ℕ, ◌*◌}
use Rattle.pvrtc_texel.specs.Image.{bad_pvrtc_side}
use Rattle.pvrtc_texel.proofs.Sides.{side_most, refused_width, refused_height, refused_bytes, refused_places, accepted}
use Rattle.pvrtc_texel.proofs.check_image.Goals as goal
use Rattle.pvrtc_texel.proofs.check_image.Goals.{Else-bad_side-2}

-- what is known past the tests of the sides
wide : (c : Else-bad_side-2) → bad_pvrtc_side c.args.width ≡ false
wide c = sym c.bad_side.ensures ∙ c.if-bad_side.false

high : (c : Else-bad_side-2) → bad_pvrtc_side c.args.height ≡ false
high c = sym c.bad_side-2.ensures ∙ c.if-bad_side-2.false

pub returns-then-bad_side : goal.returns-then-bad_side
returns-then-bad_side c = refused_width _ _ _ _ (sym c.bad_side.ensures ∙ c.if-bad_side.true)

pub returns-then-bad_side-2 : goal.returns-then-bad_side-2
returns-then-bad_side-2 c = refused_height _ _ _ _ (sym c.bad_side.ensures ∙ c.if-bad_side.false) (sym c.bad_side-2.ensures ∙ c.if-bad_side-2.true)

pub returns-then-bytes-words_in : goal.returns-then-bytes-words_in
returns-then-bytes-words_in c =
    refused_bytes _ _ _ _ (wide c.before.before) (high c.before.before)
    (λ e. c.if-bytes-words_in.true (e ∙ ap (λ (n : ℕ). 8 * n) (sym c.words_in.ensures.0)))

pub returns-then-places-bytes_in : goal.returns-then-places-bytes_in
returns-then-places-bytes_in c =
    let d = c.before.before in
    refused_places _ _ _ _ (wide d.before.before) (high d.before.before) (d.if-bytes-words_in.false ∙ ap (λ (n : ℕ). 8 * n) d.words_in.ensures.0)
    (λ e. c.if-places-bytes_in.true (e ∙ sym c.bytes_in.ensures))

pub returns : goal.returns
returns c =
    let d = c.before.before in
    accepted _ _ _ _ (wide d.before.before) (high d.before.before) (d.if-bytes-words_in.false ∙ ap (λ (n : ℕ). 8 * n) d.words_in.ensures.0)
    (c.if-places-bytes_in.false ∙ c.bytes_in.ensures)

pub words_in-requires : goal.words_in-requires
words_in-requires c = (side_most _ (wide c), side_most _ (high c))

pub bytes_in-requires : goal.bytes_in-requires
bytes_in-requires c = (side_most _ (wide c.before.before), side_most _ (high c.before.before))
