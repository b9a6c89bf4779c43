-- A text that grows in front of what a buffer held.
-- Assumes nothing.
use mathlib.Core.Path.{◌≡◌, refl, sym, ap, ap₂, ◌∙◌, subst}
use mathlib.Core.List.{List, [], ◌∷◌, ◌++◌}
use Prim.Native.Nat.{ℕ, zero, suc, ◌+◌, ◌*◌, ◌/◌, ◌%◌, ◌<◌}
use native.Mathlib.Nat.{le_of_suc-le-suc, not-suc-le-zero, suc-add}
use native.Mathlib.Numerals.{add-one}
use native.Mathlib.Omega.{arith}
use lib.ListN.{length, get_or, set, take, length-set}
use Rattle.line_text.specs.Lines.{decimal, spaced, texel_line, lines_of, text_over}
use Rattle.line_text.specs.inner.Written.{Written, Puts}

pub length-append : (s t : List ℕ) → length (s ++ t) ≡ length s + length t
length-append [] t = omega arith
length-append (x ∷ s) t = let e = length-append s t in omega (arith, e)

pub append_assoc : (a b c : List ℕ) → (a ++ b) ++ c ≡ a ++ (b ++ c)
append_assoc [] b c = refl
append_assoc (x ∷ a) b c = ap (λ (l : List ℕ). x ∷ l) (append_assoc a b c)

pub append_none : (a : List ℕ) → a ++ [] ≡ a
append_none [] = refl
append_none (x ∷ a) = ap (λ (l : List ℕ). x ∷ l) (append_none a)

-- a byte behind the text
pub put_over : (t old : List ℕ) (b : ℕ) → length t < length old → set (text_over t old) (length t) b ≡ text_over (t ++ (b ∷ [])) old
unfolding text_over
put_over [] [] b h = absurd (not-suc-le-zero h)
put_over [] (y ∷ old) b h = refl
put_over (x ∷ t) [] b h = absurd (not-suc-le-zero h)
put_over (x ∷ t) (y ∷ old) b h = ap (λ (l : List ℕ). x ∷ l) (put_over t old b (le_of_suc-le-suc h))

pub put_written : (t old l : List ℕ) (at b : ℕ) → length old ≡ length l → at < length l → Written t old l at → Written (t ++ (b ∷ [])) old (set l at b) (at + 1)
put_written t old l at b e h w = record {
  holds = ap (λ (n : ℕ). set l n b) w.ends ∙ ap (λ (m : List ℕ). set m (length t) b) w.holds ∙ put_over t old b (let q = w.ends in omega (arith, e, h, q));
  ends = let q = w.ends in let z = length-append t (b ∷ []) in omega (arith, q, z);
}

-- ---- one text behind another

pub puts_byte : (l : List ℕ) (at b : ℕ) → at < length l → Puts l at (b ∷ []) (set l at b) (at + 1)
puts_byte l at b h = record { same = length-set l at b; behind = λ t old e w. put_written t old l at b e h w }

pub puts_none : (l : List ℕ) (at : ℕ) → Puts l at [] l at
puts_none l at = record { same = refl; behind = λ t old e w. subst (λ (x : List ℕ). Written x old l at) (sym (append_none t)) w }

pub puts_then : {l m n x y : List ℕ} {a b c : ℕ} → Puts l a x m b → Puts m b y n c → Puts l a (x ++ y) n c
puts_then {l} {m} {n} {x} {y} {a} {b} {c} p q = record {
  same = q.same ∙ p.same;
  behind = λ t old e w. subst (λ (z : List ℕ). Written z old n c) (append_assoc t x y) (q.behind (t ++ x) old (e ∙ sym p.same) (p.behind t old e w));
}

pub puts_as : {l m x y : List ℕ} {a b : ℕ} → x ≡ y → Puts l a x m b → Puts l a y m b
puts_as {l} {m} {x} {y} {a} {b} e p = subst (λ (z : List ℕ). Puts l a z m b) e p

-- from the front of a buffer
pub puts_front : (l m x : List ℕ) (r : ℕ) → Puts l 0 x m r → (r ≡ length x) × (m ≡ text_over x l)
unfolding text_over
puts_front l m x r p = let w = p.behind [] l refl (record { holds = refl; ends = refl }) in (w.ends, w.holds)

-- the first elements of a list, one more
pub take_more : (l : List ℕ) (i : ℕ) → i < length l → take (i + 1) l ≡ take i l ++ (get_or l i 0 ∷ [])
take_more [] i h = absurd (not-suc-le-zero h)
take_more (x ∷ l) zero h = refl
take_more (x ∷ l) (suc i) h = rw (suc-add i 1) (ap (λ (m : List ℕ). x ∷ m) (take_more l i (le_of_suc-le-suc h)))

-- ---- lines

-- the parts of a texel's line
pub texel_line_lem : (width : ℕ) (number : ℕ → ℕ) (k : ℕ) {x y r g b a : ℕ} → x ≡ k % width → y ≡ k / width
    → r ≡ number (4 * k) → g ≡ number (4 * k + 1) → b ≡ number (4 * k + 2) → a ≡ number (4 * k + 3)
    → decimal x ++ ((32 ∷ decimal y) ++ ((32 ∷ decimal r) ++ ((32 ∷ decimal g) ++ ((32 ∷ decimal b) ++ ((32 ∷ decimal a) ++ (10 ∷ [])))))) ≡ texel_line width number k
unfolding texel_line spaced
texel_line_lem width number k ex ey er eg eb ea = rw (ex, ey, er, eg, eb, ea)

-- one line more
pub lines_more : (line : ℕ → List ℕ) (n : ℕ) → lines_of line n ++ line n ≡ lines_of line (n + 1)
unfolding lines_of
lines_more line n = rw (add-one n)

-- lines that are the same, line by line
pub lines_same : (f g : ℕ → List ℕ) (n : ℕ) → ((k : ℕ) → k < n → f k ≡ g k) → lines_of f n ≡ lines_of g n
unfolding lines_of
lines_same f g zero h = refl
lines_same f g (suc n) h = ap₂ ◌++◌ (lines_same f g n (λ k l. h k (omega arith))) (h n (omega arith))

-- numbers that are the same below 4 * n give the same line
pub line_same : (width : ℕ) (f g : ℕ → ℕ) (n : ℕ) → ((i : ℕ) → i < 4 * n → f i ≡ g i) → (k : ℕ) → k < n → texel_line width f k ≡ texel_line width g k
unfolding texel_line
line_same width f g n h k l = rw (h (4 * k) (omega arith), h (4 * k + 1) (omega arith), h (4 * k + 2) (omega arith), h (4 * k + 3) (omega arith))
