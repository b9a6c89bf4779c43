-- The numbers that the call tells, in their order.
-- Assumes nothing.
use Prim.Native.Nat.{ℕ, ◌*◌}
use native.Mathlib.Omega.{arith}
use native.Mathlib.Decide.{ℕ_discrete}
use mathlib.Core.Path.{◌≡◌, refl, ◌∙◌}
use mathlib.Core.Bool.{Bool, true, false, not}
use mathlib.Core.List.{List}
use lib.Dec.{eqb, ltb}
use lib.ListN.{length, drop}
use borrow.Author.Tests.{eq-eqb, ne_eqb}
use Rattle.laws.specs.Choice.{pick, either}
use Rattle.interpolation.specs.declared.Kind.{Kind}
use Rattle.image_size.specs.Sides.{bad_side}
use Rattle.image_size.proofs.Laws.{sized}
use Rattle.image_layout.specs.Call.{image_refusal, image_told, image_told_in}
use Rattle.image_layout.proofs.Calls.{refused_5, refused_none}
use Rattle.astc_header.specs.Header.{has_start, header_in, blocks_in, known_shape, header_refusal}
use Rattle.astc_header.proofs.Refusals.{taken}
use Rattle.astc_file.specs.File.{file_told, file_refusal, FiveLast}

-- a refusal of the header comes before 5
earlier : (a b c d e f : Bool) → (◌≡◌ {A = ℕ} (pick a 41 (pick (not b) 42 (pick (not c) 43 (pick d 3 (pick (not e) 4 0))))) 0 → ⊥)
    → ◌≡◌ {A = ℕ} (pick a 41 (pick (not b) 42 (pick (not c) 43 (pick d 3 (pick (not e) 4 0))))) (pick a 41 (pick (not b) 42 (pick (not c) 43 (pick d 3 (pick (not e) 4 (pick (not f) 5 0))))))
earlier true b c d e f n = refl
earlier false false c d e f n = refl
earlier false true false d e f n = refl
earlier false true true true e f n = refl
earlier false true true false false f n = refl
earlier false true true false true f n = absurd (n refl)

-- 5, or none
last : (a b c d e f : Bool) → ◌≡◌ {A = ℕ} (pick a 41 (pick (not b) 42 (pick (not c) 43 (pick d 3 (pick (not e) 4 0))))) 0
    → ◌≡◌ {A = ℕ} (pick (not f) 5 0) (pick a 41 (pick (not b) 42 (pick (not c) 43 (pick d 3 (pick (not e) 4 (pick (not f) 5 0))))))
last true b c d e f q = absurd (omega (arith, q))
last false false c d e f q = absurd (omega (arith, q))
last false true false d e f q = absurd (omega (arith, q))
last false true true true e f q = absurd (omega (arith, q))
last false true true false false f q = absurd (omega (arith, q))
last false true true false true f q = refl

module _ (s : List ℕ) (places : ℕ) where
  a : Bool
  a = ltb (length s) 16

  sides : Bool
  sides = either (bad_side (header_in s).width) (bad_side (header_in s).height)

  exact : Bool
  exact = eqb (length (drop 16 s)) (16 * blocks_in (header_in s))

  room : Bool
  room = eqb places (4 * ((header_in s).height * (header_in s).width))

  header_first : (header_refusal s ≡ 0 → ⊥) → header_refusal s ≡ file_refusal s places
  unfolding header_refusal file_refusal a sides exact room
  header_first n = earlier a (has_start s) (known_shape s) sides exact room n

  then_five_lem : header_refusal s ≡ 0 → pick (not room) 5 0 ≡ file_refusal s places
  unfolding header_refusal file_refusal a sides exact room
  then_five_lem z = last a (has_start s) (known_shape s) sides exact room z

  -- of what the image call may refuse, 5 alone is left
  image_five : header_refusal s ≡ 0 → image_refusal (header_in s).footprint (header_in s).width (header_in s).height (length (drop 16 s)) places ≡ pick (not room) 5 0
  unfolding room
  image_five z =
      let t = taken s z in
      let k = sized _ _ _ t.sized in
      elim (ℕ_discrete places (4 * ((header_in s).height * (header_in s).width))) [
        | yes e ↦ refused_none _ _ _ _ _ k.footprint k.wide k.high t.exact e ∙ rw (eq-eqb places (4 * ((header_in s).height * (header_in s).width)) e)
        | no n ↦ refused_5 _ _ _ _ _ k.footprint k.wide k.high t.exact n ∙ rw (ne_eqb places (4 * ((header_in s).height * (header_in s).width)) n)
      ]

  image_told_lem : (kind : Kind) → (image_told (header_in s).footprint kind (header_in s).width (header_in s).height (drop 16 s) places).refusal
      ≡ image_refusal (header_in s).footprint (header_in s).width (header_in s).height (length (drop 16 s)) places
  unfolding image_told_in
  image_told_lem kind =
      elim (ℕ_discrete (image_refusal (header_in s).footprint (header_in s).width (header_in s).height (length (drop 16 s)) places) 0) [
        | yes z ↦ rw z
        | no n ↦ rw (ne_eqb (image_refusal (header_in s).footprint (header_in s).width (header_in s).height (length (drop 16 s)) places) 0 n)
      ]

  pub five_last : (kind : Kind) → FiveLast kind s places
  unfolding file_told
  five_last kind =
      elim (ℕ_discrete (header_refusal s) 0) [
        | yes z ↦ rw z (image_told_lem kind ∙ image_five z ∙ then_five_lem z)
        | no n ↦ rw (ne_eqb (header_refusal s) 0 n) (header_first n)
      ]
