-- The refusals of a file one by one, and what holds once none does.
-- Assumes nothing.
use Prim.Native.Nat.{ℕ, ◌-◌, ◌*◌, ◌≤◌, ◌<◌}
use native.Mathlib.Omega.{arith}
use native.Mathlib.Decide.{dec_le, ℕ_discrete}
use mathlib.Core.Path.{◌≡◌, refl, sym, ap, ◌∙◌}
use mathlib.Core.Bool.{Bool, true, false, true≢false, not}
use mathlib.Core.List.{List, []}
use lib.Dec.{eqb, ltb}
use lib.ListN.{length, take, drop, length-drop}
use lib.Seq.{take_all}
use borrow.Author.Tests.{eq-eqb, ne_eqb, lt-ltb, le-ltb}
use Rattle.std.specs.Prelude.{Ok, Err}
use Rattle.laws.specs.Choice.{pick, either}
use Rattle.reason.specs.declared.Refusal.{Refusal}
use Rattle.reason.specs.Numbers.{refusal_number}
use Rattle.reason.proofs.Told.{refusal_some}
use Rattle.image_size.specs.Sides.{bad_side, size_refusal}
use Rattle.astc_header.specs.declared.FileHeader.{FileHeader}
use Rattle.astc_header.specs.Header.{has_start, header_in, blocks_in, known_shape, header_refusal, header_answer, file_blocks, told_refused, told_of, header_told}
use Rattle.astc_header.specs.inner.Parts.{form_refusal}
use Rattle.astc_header.specs.Theorems.{Never1}
use Rattle.laws.proofs.Computed.{both_true}

-- ---- the form: 41, 42, 43

module _ (s : List ℕ) where
  pub form_41 : length s < 16 → form_refusal s ≡ 41
  unfolding form_refusal
  form_41 a = rw (lt-ltb (length s) 16 a)

  module _ (a : 16 ≤ length s) where
    pub form_42 : has_start s ≡ false → form_refusal s ≡ 42
    unfolding form_refusal
    form_42 b = rw (le-ltb (length s) 16 a, b)

    module _ (b : has_start s ≡ true) where
      pub form_43 : known_shape s ≡ false → form_refusal s ≡ 43
      unfolding form_refusal
      form_43 c = rw (le-ltb (length s) 16 a, b, c)

      pub form_none : known_shape s ≡ true → form_refusal s ≡ 0
      unfolding form_refusal
      form_none c = rw (le-ltb (length s) 16 a, b, c)

-- a file of the right form
pub record Formed (s : List ℕ) : Type 0 where
  pub long : 16 ≤ length s
  pub start : has_start s ≡ true
  pub shape : known_shape s ≡ true

form_chain : (a b c : Bool) → ◌≡◌ {A = ℕ} (pick a 41 (pick (not b) 42 (pick (not c) 43 0))) 0 → (a ≡ false) × (b ≡ true) × (c ≡ true)
form_chain true b c q = absurd (omega (arith, q))
form_chain false false c q = absurd (omega (arith, q))
form_chain false true false q = absurd (omega (arith, q))
form_chain false true true q = (refl, refl, refl)

pub not_less : (n : ℕ) → ltb n 16 ≡ false → 16 ≤ n
not_less n e = elim (dec_le 16 n) [ yes h ↦ h | no h ↦ absurd (true≢false (sym (lt-ltb n 16 (omega arith)) ∙ e)) ]

pub less : (n : ℕ) → ltb n 14 ≡ true → n < 14
less n e = elim (dec_le 14 n) [ yes h ↦ absurd (true≢false (sym e ∙ le-ltb n 14 h)) | no h ↦ omega arith ]

pub formed : (s : List ℕ) → form_refusal s ≡ 0 → Formed s
unfolding form_refusal
formed s z =
    let p = form_chain (ltb (length s) 16) (has_start s) (known_shape s) z in
    record { long = not_less (length s) p.0; start = p.1; shape = p.2 }

pub in_list : (s : List ℕ) → known_shape s ≡ true → (header_in s).footprint < 14
unfolding known_shape
in_list s e = less _ (both_true _ _ e).0

-- ---- then 3 and 4

-- the form's refusal comes first
form_first : (a b c d e : Bool) → (◌≡◌ {A = ℕ} (pick a 41 (pick (not b) 42 (pick (not c) 43 0))) 0 → ⊥)
    → ◌≡◌ {A = ℕ} (pick a 41 (pick (not b) 42 (pick (not c) 43 0))) (pick a 41 (pick (not b) 42 (pick (not c) 43 (pick d 3 (pick (not e) 4 0)))))
form_first true b c d e n = refl
form_first false false c d e n = refl
form_first false true false d e n = refl
form_first false true true d e n = absurd (n refl)

pub refused_form : (s : List ℕ) → (form_refusal s ≡ 0 → ⊥) → form_refusal s ≡ header_refusal s
unfolding form_refusal header_refusal
refused_form s n =
    form_first (ltb (length s) 16) (has_start s) (known_shape s) (either (bad_side (header_in s).width) (bad_side (header_in s).height))
    (eqb (length (drop 16 s)) (16 * blocks_in (header_in s))) n

abbrev size_of : FileHeader → ℕ
size_of h = size_refusal h.footprint h.width h.height

abbrev sides : List ℕ → ℕ
sides s = size_of (header_in s)

module _ (s : List ℕ) (f : Formed s) where
  -- what is left behind the header
  pub left_over : length (drop 16 s) ≡ length s - 16
  left_over = length-drop 16 s

  -- refusal 1 can not occur: the footprint is in the list
  sides_3 : sides s ≡ pick (either (bad_side (header_in s).width) (bad_side (header_in s).height)) 3 0
  unfolding size_refusal
  sides_3 = let k = in_list s f.shape in rw (le-ltb 13 (header_in s).footprint (omega arith))

  formed_refusal : header_refusal s ≡ pick (either (bad_side (header_in s).width) (bad_side (header_in s).height)) 3 (pick (not (eqb (length (drop 16 s)) (16 * blocks_in (header_in s)))) 4 0)
  unfolding header_refusal
  formed_refusal = rw (le-ltb (length s) 16 f.long, f.start, f.shape)

  sides_first : (d e : Bool) → (◌≡◌ {A = ℕ} (pick d 3 0) 0 → ⊥) → ◌≡◌ {A = ℕ} (pick d 3 0) (pick d 3 (pick (not e) 4 0))
  sides_first true e n = refl
  sides_first false e n = absurd (n refl)

  pub refused_3 : (sides s ≡ 0 → ⊥) → sides s ≡ header_refusal s
  refused_3 n =
      sides_3
      ∙ sides_first (either (bad_side (header_in s).width) (bad_side (header_in s).height)) (eqb (length (drop 16 s)) (16 * blocks_in (header_in s))) (λ e. n (sides_3 ∙ e))
      ∙ sym formed_refusal

  none_3 : (d : Bool) → ◌≡◌ {A = ℕ} (pick d 3 0) 0 → d ≡ false
  none_3 true e = absurd (omega (arith, e))
  none_3 false e = refl

  module _ (z : sides s ≡ 0) where
    fine_sides : either (bad_side (header_in s).width) (bad_side (header_in s).height) ≡ false
    fine_sides = none_3 (either (bad_side (header_in s).width) (bad_side (header_in s).height)) (sym sides_3 ∙ z)

    pub refused_4 : (length s - 16 ≡ 16 * blocks_in (header_in s) → ⊥) → 4 ≡ header_refusal s
    refused_4 n = sym (formed_refusal ∙ rw (fine_sides, left_over, ne_eqb (length s - 16) (16 * blocks_in (header_in s)) n))

    pub refused_none : length s - 16 ≡ 16 * blocks_in (header_in s) → 0 ≡ header_refusal s
    refused_none e = sym (formed_refusal ∙ rw (fine_sides, left_over, eq-eqb (length s - 16) (16 * blocks_in (header_in s)) e))

-- a footprint that is not in the list is 43: no file is told as 1
no_one : (a b c d e : Bool) → ◌≡◌ {A = ℕ} (pick a 41 (pick (not b) 42 (pick (not c) 43 (pick d 3 (pick (not e) 4 0))))) 1 → ⊥
no_one true b c d e q = omega (arith, q)
no_one false false c d e q = omega (arith, q)
no_one false true false d e q = omega (arith, q)
no_one false true true true e q = omega (arith, q)
no_one false true true false false q = omega (arith, q)
no_one false true true false true q = omega (arith, q)

pub never_1 : Never1
unfolding header_refusal
never_1 s q =
    no_one (ltb (length s) 16) (has_start s) (known_shape s) (either (bad_side (header_in s).width) (bad_side (header_in s).height))
    (eqb (length (drop 16 s)) (16 * blocks_in (header_in s))) q

-- ---- what holds of a file that is not refused

pub record Taken (s : List ℕ) : Type 0 where
  pub form : Formed s
  pub footprint : (header_in s).footprint < 14
  pub sized : size_refusal (header_in s).footprint (header_in s).width (header_in s).height ≡ 0
  pub exact : length (drop 16 s) ≡ 16 * blocks_in (header_in s)

pub taken : (s : List ℕ) → header_refusal s ≡ 0 → Taken s
taken s z =
    elim (ℕ_discrete (form_refusal s) 0) [
      | no n ↦ absurd (n (refused_form s n ∙ z))
      | yes a ↦ let f = formed s a in elim (ℕ_discrete (sides s) 0) [
        | no n ↦ absurd (n (refused_3 s f n ∙ z))
        | yes b ↦ elim (ℕ_discrete (length s - 16) (16 * blocks_in (header_in s))) [
          | no n ↦ absurd (let k : ◌≡◌ {A = ℕ} 4 0 = refused_4 s f b n ∙ z in omega arith)
          | yes e ↦ record { form = f; footprint = in_list s f.shape; sized = b; exact = left_over s f ∙ e }
        ]
      ]
    ]

-- ---- the answer, its numbers, and the blocks

-- a refusal told is that of the form, of the sides, or of the whole
module _ (s : List ℕ) (r : Refusal) where
  some : {n : ℕ} → refusal_number r ≡ n → n ≡ 0 → ⊥
  some q z = omega (arith, refusal_some r, q, z)

  pub by_form : refusal_number r ≡ form_refusal s → refusal_number r ≡ header_refusal s
  by_form q = q ∙ refused_form s (some q)

  pub by_sides : Formed s → {h : FileHeader} → h ≡ header_in s → refusal_number r ≡ size_of h → refusal_number r ≡ header_refusal s
  by_sides f e q = let z = q ∙ ap size_of e in z ∙ refused_3 s f (some z)

  pub told_refused_lem : refusal_number r ≡ header_refusal s → told_of (Err r) ≡ header_told s
  unfolding header_told
  told_refused_lem q = rw (ne_eqb (header_refusal s) 0 (some q)) (ap told_refused q)

  pub no_blocks : header_answer s (Err r) → [] ≡ file_blocks s
  unfolding file_blocks
  no_blocks q = rw (ne_eqb (header_refusal s) 0 (some q))

-- what is answered of a file that is not refused
pub answer_accepted : (s : List ℕ) → header_refusal s ≡ 0 → header_answer s (Ok (header_in s))
answer_accepted s z = (z, refl)

-- the last refusal, by how many blocks the header asks for
module _ (s : List ℕ) (f : Formed s) {h : FileHeader} (e : h ≡ header_in s) (z : 0 ≡ size_of h) {n : ℕ} (b : n ≡ blocks_in h) where
  fine_size : sides s ≡ 0
  fine_size = ap size_of (sym e) ∙ sym z

  blocks : n ≡ blocks_in (header_in s)
  blocks = b ∙ ap blocks_in e

  pub other_length : (length s - 16 ≡ 16 * n → ⊥) → 4 ≡ header_refusal s
  other_length d = refused_4 s f fine_size (λ q. d (q ∙ ap (λ (k : ℕ). 16 * k) (sym blocks)))

  pub own_length : length s - 16 ≡ 16 * n → header_refusal s ≡ 0
  own_length d = sym (refused_none s f fine_size (d ∙ ap (λ (k : ℕ). 16 * k) blocks))

module _ (s : List ℕ) (z : header_refusal s ≡ 0) where
  pub told_accepted_lem : told_of (Ok (header_in s)) ≡ header_told s
  unfolding header_told
  told_accepted_lem = rw z

  -- the part from byte 16 on
  pub part_all : take (length s - 16) (drop 16 s) ≡ drop 16 s
  part_all = take_all (length s - 16) (drop 16 s) (omega (arith, length-drop 16 s))

  pub its_blocks : drop 16 s ≡ file_blocks s
  unfolding file_blocks
  its_blocks = rw z

-- by the two cases of the answer
pub record Stopped (s : List ℕ) (e : ℕ) : Type 0 where
  pub told : header_refusal s ≡ e
  pub some : header_refusal s ≡ 0 → ⊥

pub stopped : (s : List ℕ) (r : Refusal) → header_answer s (Err r) → Stopped s (refusal_number r)
stopped s r q = record { told = sym q; some = some s r q }

pub record Passed (s : List ℕ) (h : FileHeader) : Type 0 where
  pub none : header_refusal s ≡ 0
  pub says : h ≡ header_in s

pub passed : (s : List ℕ) (h : FileHeader) → header_answer s (Ok h) → Passed s h
passed s h q = record { none = q.0; says = q.1 }
