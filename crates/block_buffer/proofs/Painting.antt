-- Texels laid into a buffer row by row, four numbers each.
-- Assumes nothing.
use mathlib.Core.Path.{◌≡◌, sym, ap, ap₂, ◌∙◌, subst}
use mathlib.Core.List.{List}
use Prim.Native.Nat.{ℕ, suc, ◌+◌, ◌*◌, ◌/◌, ◌%◌, ◌≤◌, ◌<◌}
use native.Mathlib.Nat.{mul-le-mul, mod-lt, div-lt_iff_lt-mul, mul_comm, zero-mul, suc-mul, add-mul}
use native.Mathlib.Decide.{dec_lt}
use native.Mathlib.Omega.{arith}
use lib.Arith.{digits_div, digits_mod}
use lib.ListN.{length, get_or}
use Rattle.laws.specs.inner.Filled.{put_four}
use Rattle.laws.proofs.Filling.{Replacing, replacing_start, replacing_four, replacing_done, replaced_ext}
use Rattle.interpolation.specs.declared.Texel.{Texel}
use Rattle.block_buffer.specs.inner.Painted.{four_of, texel_number, painted}

-- the buffer `old` with the first n numbers of texels given by their place: the invariant of painting
abbrev pub Laid : ℕ → (ℕ → ℕ → Texel) → List ℕ → List ℕ → ℕ → Type 0
Laid width texel old l n = Replacing (texel_number width texel) 0 old l n

quarter : (t c : ℕ) → c < 4 → ((4 * t + c) / 4 ≡ t) × ((4 * t + c) % 4 ≡ c)
quarter t c h = (omega arith, omega arith)

-- number c of texel t
number_of_lem : (width t c : ℕ) (texel : ℕ → ℕ → Texel) → c < 4 → get_or (four_of (texel (t % width) (t / width))) c 0 ≡ texel_number width texel (4 * t + c)
unfolding texel_number
number_of_lem width t c texel h = rw ((quarter t c h).0, (quarter t c h).1)

-- one texel more
pub laid_more : (width : ℕ) (texel : ℕ → ℕ → Texel) (old l : List ℕ) (t : ℕ) {u : Texel} → length old ≡ 864 → 4 * t + 4 ≤ 864 → u ≡ texel (t % width) (t / width)
    → Laid width texel old l (4 * t) → Laid width texel old (put_four l (4 * t) u.r u.g u.b u.a) (4 * (t + 1))
laid_more width texel old l t {u} s h e w =
    let z : 4 * t + 4 ≡ 4 * (t + 1) = omega arith in
    let y : 4 * t ≡ 4 * t + 0 = omega arith in
    let f = texel_number width texel in
    subst (Replacing f 0 old (put_four l (4 * t) u.r u.g u.b u.a)) z
    (replacing_four f 0 old l (4 * t) u.r u.g u.b u.a (omega (arith, s)) w
    (ap (λ (v : Texel). get_or (four_of v) 0 0) e ∙ number_of_lem width t 0 texel (omega arith) ∙ ap f (sym y))
    (ap (λ (v : Texel). get_or (four_of v) 1 0) e ∙ number_of_lem width t 1 texel (omega arith))
    (ap (λ (v : Texel). get_or (four_of v) 2 0) e ∙ number_of_lem width t 2 texel (omega arith))
    (ap (λ (v : Texel). get_or (four_of v) 3 0) e ∙ number_of_lem width t 3 texel (omega arith)))

-- the same at x, y
pub laid_texel : (width : ℕ) (texel : ℕ → ℕ → Texel) (old l : List ℕ) (x y : ℕ) {u : Texel} {i : ℕ} → length old ≡ 864 → x < width → 4 * (y * width + x) + 4 ≤ 864
    → u ≡ texel x y → i ≡ 4 * (y * width + x)
    → Laid width texel old l (4 * (y * width + x)) → Laid width texel old (put_four l i u.r u.g u.b u.a) (4 * (y * width + (x + 1)))
laid_texel width texel old l x y {u} {i} s h k e ei w =
    let t = y * width + x in
    let z : t + 1 ≡ y * width + (x + 1) = omega arith in
    let f = laid_more width texel old l t {u = u} s k (e ∙ ap₂ texel (sym (digits_mod y h)) (sym (digits_div y h))) w in
    subst (λ (n : ℕ). Laid width texel old (put_four l i u.r u.g u.b u.a) (4 * n)) z
    (subst (λ (j : ℕ). Laid width texel old (put_four l j u.r u.g u.b u.a) (4 * (t + 1))) (sym ei) f)

-- so many numbers under another name
pub laid_as : (width : ℕ) (texel : ℕ → ℕ → Texel) (old l : List ℕ) {m n : ℕ} → m ≡ n → Laid width texel old l m → Laid width texel old l n
laid_as width texel old l e w = subst (Laid width texel old l) e w

-- a whole row
pub row_end : (width x y : ℕ) → x ≡ width → 4 * (y * width + x) ≡ 4 * ((y + 1) * width)
row_end width x y e = omega (arith, add-mul y 1 width)

pub laid_none : (width : ℕ) (texel : ℕ → ℕ → Texel) (old : List ℕ) {n : ℕ} → n ≡ 0 → Laid width texel old old n
laid_none width texel old e = laid_as width texel old old (sym e) (replacing_start (texel_number width texel) 0 old)

-- all that is asked for
pub laid_done : (width : ℕ) (texel : ℕ → ℕ → Texel) (old l : List ℕ) (n : ℕ) {k : ℕ} → k ≡ 4 * n → Laid width texel old l k → l ≡ painted width texel n old
unfolding painted
laid_done width texel old l n e w = replacing_done (texel_number width texel) 0 old l (4 * n) (laid_as width texel old l e w)

-- a place of a row lies in the buffer
pub place_fits : (width rows x y : ℕ) → rows * width ≤ 216 → x < width → y < rows → 4 * (y * width + x) + 4 ≤ 864
place_fits width rows x y room hx hy =
    let m : suc y * width ≤ rows * width = mul-le-mul {n₂ = rows} {m₂ = width} (omega arith) (omega arith) in
    omega (arith, suc-mul y width)

-- ---- what is painted hangs on the texels of the block alone

-- a product with something below it has no factor 0
pub one_of : (a b : ℕ) {k : ℕ} → k < a * b → 0 < a
one_of a b h = elim (dec_lt 0 a) [
  | yes p ↦ p
  | no p ↦ let z : a ≡ 0 = omega arith in absurd (let e : a * b ≡ 0 = rw z (zero-mul b) in omega (arith, e))
]

pub painted_ext : (width rows : ℕ) (s t : ℕ → ℕ → Texel) (old : List ℕ) → ((x y : ℕ) → x < width → y < rows → s x y ≡ t x y)
    → painted width s (width * rows) old ≡ painted width t (width * rows) old
unfolding painted texel_number
painted_ext width rows s t old e = replaced_ext 0 _ _ (4 * (width * rows)) old (λ k h.
    let q : k / 4 < width * rows = omega (arith, h) in
    let p : 0 < width = one_of width rows q in
    ap (λ (u : Texel). get_or (four_of u) (k % 4) 0) (e (k / 4 % width) (k / 4 / width) (mod-lt (k / 4) p) ((div-lt_iff_lt-mul p).1 (omega (arith, q, mul_comm width rows)))))
