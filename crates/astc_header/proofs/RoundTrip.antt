-- 02, a: "What we write, with its blocks behind it, must read back as it was, and any accepted header is written again byte for byte."
-- Assumes nothing.
use Prim.Native.Nat.{ℕ, ◌+◌, ◌-◌, ◌*◌, ◌/◌, ◌%◌, ◌≤◌, ◌<◌}
use native.Mathlib.Nat.{div-add-mod'}
use native.Mathlib.Omega.{arith}
use mathlib.Core.Path.{◌≡◌, refl, sym, ◌∙◌}
use mathlib.Core.List.{List, [], ◌∷◌, ◌++◌}
use lib.Dec.{eqb, ltb}
use lib.ListN.{length, get_or, take, length-take}
use lib.Seq.{get_or-take, ext_get_or}
use borrow.Author.Tests.{eqb-true, lt-ltb}
use Rattle.laws.specs.Choice.{both}
use Rattle.laws.specs.Table.{tab, tab_from}
use Rattle.laws.proofs.Filling.{length_tab, get_or_tab}
use Rattle.footprint.specs.Footprint.{width_of, height_of}
use Rattle.image_size.specs.Sides.{size_refusal}
use Rattle.image_size.proofs.Laws.{sized}
use Rattle.astc_header.specs.declared.FileHeader.{FileHeader}
use Rattle.astc_header.specs.Header.{has_start, footprint_for, size_at, header_in, blocks_in, known_shape, header_refusal, header_bytes}
use Rattle.astc_header.specs.Theorems.{ReadsBack, AllReadBack, AllWrittenAgain}
use Rattle.astc_header.proofs.Search.{footprint_back, found}
use Rattle.laws.proofs.Computed.{both_true}
use Rattle.astc_header.proofs.Refusals.{Formed, refused_none, its_blocks, less, taken, passed}

-- ---- written, then read

size_back : (n : ℕ) → n % 256 + 256 * (n / 256 % 256 + 256 * (n / 256 / 256)) ≡ n
size_back n =
    let a : n / 256 / 256 * 256 + n / 256 % 256 ≡ n / 256 = div-add-mod' (n / 256) 256 in
    let b : n / 256 * 256 + n % 256 ≡ n = div-add-mod' n 256 in
    omega (arith, a, b)

module _ (h : FileHeader) (s : List ℕ) (z : size_refusal h.footprint h.width h.height ≡ 0) where
  file : List ℕ
  file = header_bytes h.footprint h.width h.height ++ s

  says : header_in file ≡ h
  unfolding file header_in size_at
  says = let f = footprint_back h.footprint (sized _ _ _ z).footprint in (λ t. record { footprint = f t; width = size_back h.width t; height = size_back h.height t })

  form : Formed file
  unfolding file has_start known_shape size_at header_in
  form =
      let f = footprint_back h.footprint (sized _ _ _ z).footprint in
      let k = (sized _ _ _ z).footprint in
      record { long = omega arith; start = refl; shape = rw (f, lt-ltb h.footprint 14 (omega arith)) }

  over : length file - 16 ≡ length s
  unfolding file
  over = omega arith

  header_read : length s ≡ 16 * blocks_in h → ReadsBack h s
  unfolding file
  header_read n =
      let none : 0 ≡ header_refusal file = refused_none file form (rw says z) (over ∙ rw says n) in
      record { header_back = (sym none, sym says); blocks_back = sym (its_blocks file (sym none)) }

pub reads_back : AllReadBack
reads_back = header_read

-- ---- read, then written

-- the bytes of a size come back
low_back : (a b c : ℕ) → a < 256 → (a + 256 * (b + 256 * c)) % 256 ≡ a
low_back a b c h = omega arith

mid_back : (a b c : ℕ) → a < 256 → b < 256 → (a + 256 * (b + 256 * c)) / 256 % 256 ≡ b
mid_back a b c h k = omega arith

high_back : (a b c : ℕ) → a < 256 → b < 256 → (a + 256 * (b + 256 * c)) / 256 / 256 ≡ c
high_back a b c h k = omega arith

-- a size of 1 is the bytes 1, 0, 0
one_back : (a b c : ℕ) → a < 256 → a + 256 * (b + 256 * c) ≡ 1 → (a ≡ 1) × (b ≡ 0) × (c ≡ 0)
one_back a b c h e = (omega arith, omega arith, omega arith)

first_sixteen : (s : List ℕ) → 16 ≤ length s → take 16 s ≡ tab (λ k. get_or s k 0) 16
first_sixteen s h =
    let n : length (take 16 s) ≡ 16 = length-take 16 s ∙ omega arith in
    ext_get_or 0 (take 16 s) (tab (λ k. get_or s k 0) 16) (n ∙ sym (length_tab (λ k. get_or s k 0) 16))
    (λ k l. let m : k < 16 = omega (arith, n) in get_or-take 16 s k 0 m ∙ sym (get_or_tab (λ k. get_or s k 0) 16 k 0 m))

spelt : (s : List ℕ) (fp : ℕ) → width_of fp ≡ get_or s 4 0 → height_of fp ≡ get_or s 5 0 → ((k : ℕ) → get_or s k 0 < 256)
    → ◌≡◌ {A = List ℕ} (19 ∷ 171 ∷ 161 ∷ 92 ∷ get_or s 4 0 ∷ get_or s 5 0 ∷ 1 ∷ get_or s 7 0 ∷ get_or s 8 0 ∷ get_or s 9 0 ∷ get_or s 10 0 ∷ get_or s 11 0 ∷ get_or s 12 0 ∷ 1 ∷ 0 ∷ 0 ∷ [])
    (header_bytes fp (size_at s 7) (size_at s 10))
unfolding size_at
spelt s fp ew eh bytes =
    rw (
      ew,
      eh,
      low_back (get_or s 7 0) (get_or s 8 0) (get_or s 9 0) (bytes 7),
      mid_back (get_or s 7 0) (get_or s 8 0) (get_or s 9 0) (bytes 7) (bytes 8),
      high_back (get_or s 7 0) (get_or s 8 0) (get_or s 9 0) (bytes 7) (bytes 8),
      low_back (get_or s 10 0) (get_or s 11 0) (get_or s 12 0) (bytes 10),
      mid_back (get_or s 10 0) (get_or s 11 0) (get_or s 12 0) (bytes 10) (bytes 11),
      high_back (get_or s 10 0) (get_or s 11 0) (get_or s 12 0) (bytes 10) (bytes 11),
    )

-- a header of the right form is written again, whatever its sides
again : (s : List ℕ) → ((k : ℕ) → get_or s k 0 < 256) → Formed s → header_bytes (header_in s).footprint (header_in s).width (header_in s).height ≡ take 16 s
unfolding has_start known_shape header_in size_at tab tab_from
again s bytes f =
    let fp : ℕ = footprint_for (get_or s 4 0) (get_or s 5 0) in
    let a0 = both_true (eqb (get_or s 0 0) 19) (both (eqb (get_or s 1 0) 171) (both (eqb (get_or s 2 0) 161) (eqb (get_or s 3 0) 92))) f.start in
    let a1 = both_true (eqb (get_or s 1 0) 171) (both (eqb (get_or s 2 0) 161) (eqb (get_or s 3 0) 92)) a0.1 in
    let a2 = both_true (eqb (get_or s 2 0) 161) (eqb (get_or s 3 0) 92) a1.1 in
    let k0 = both_true (ltb fp 14) (both (eqb (get_or s 6 0) 1) (eqb (size_at s 13) 1)) f.shape in
    let k1 = both_true (eqb (get_or s 6 0) 1) (eqb (size_at s 13) 1) k0.1 in
    let w = found (get_or s 4 0) (get_or s 5 0) (less fp k0.0) in
    let t = one_back (get_or s 13 0) (get_or s 14 0) (get_or s 15 0) (bytes 13) (eqb-true (size_at s 13) 1 k1.1) in
    sym (first_sixteen s f.long
    ∙ rw (eqb-true (get_or s 0 0) 19 a0.0, eqb-true (get_or s 1 0) 171 a1.0, eqb-true (get_or s 2 0) 161 a2.0, eqb-true (get_or s 3 0) 92 a2.1, eqb-true (get_or s 6 0) 1 k1.0, t.0, t.1, t.2)
    (spelt s fp w.0 w.1 bytes))

pub written_again : AllWrittenAgain
written_again s h bytes q =
    let p = passed s h q in
    let t = taken s p.none in
    rw p.says (record { not_refused = t.sized; same_bytes = again s bytes t.form })
