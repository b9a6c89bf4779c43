-- The program's text is that of the first nineteen bytes: longer input is refused by 4, whatever it holds.
use Rattle.std.proofs.Common.{◌≡◌, ℕ, ◌≤◌, ◌<◌, true, List, [], ◌∷◌, ◌++◌, Option, None, Some, length, take, refl, sym, ap, ◌∙◌, subst, arith, rules, eqb, eq-eqb, append-nil, length-append}
use Rattle.std.proofs.lemmas.Bool.{ne_eqb}
use Rattle.std.proofs.Math.Seq.{take-append_seam}
use Rattle.laws.specs.Choice.{pick}
use Rattle.std.specs.Prelude.{IfSome, OnOk, Result, Ok, Err}
use Rattle.std.specs.Io.KnownBytes.{Appends, Consumes, IsAtEnd}
use Rattle.line_text.specs.Lines.{text_over}
use Rattle.unpack_text.specs.Text.{program_text, program_refusal}

-- what has not eighteen bytes is refused by 4
refused_by_length : (s t : List ℕ) → (length s ≡ 18 → ⊥) → (length t ≡ 18 → ⊥) → program_text s ≡ program_text t
unfolding program_text program_refusal
refused_by_length s t f g = rw (ne_eqb (length s) 18 f, ne_eqb (length t) 18 g) refl

-- the first nineteen bytes, or all where there are fewer, have the text of all
same_text : (front rest : List ℕ) → (length front < 19 → rest ≡ []) → program_text front ≡ program_text (front ++ rest)
same_text front [] f = ap program_text (sym (append-nil front))
same_text front (x ∷ rest) f =
    let full : 19 ≤ length front = search rules in
    refused_by_length front (front ++ (x ∷ rest)) (λ e. omega arith) (λ e. omega (arith, length-append front (x ∷ rest)))

pub text_of_input : (known left : Option (List ℕ)) (front : List ℕ) → Consumes known left front → (length front < 19 → IsAtEnd left)
    → IfSome known (λ bytes. program_text front ≡ program_text bytes)
text_of_input None left front taken f = tt
text_of_input (Some bytes) None front taken f = absurd taken
text_of_input (Some bytes) (Some rest) front taken f = same_text front rest f ∙ ap program_text (sym taken)

-- what the buffer's front holds
pub text_in_front : (s old new : List ℕ) (n : ℕ) → length old ≡ 5200 → n ≡ pick (eqb (length old) 5200) (length (program_text s)) 0
    → new ≡ pick (eqb (length old) 5200) (text_over (program_text s) old) old → take n new ≡ program_text s
unfolding text_over
text_in_front s old new n room count is =
    let same : eqb (length old) 5200 ≡ true = eq-eqb _ _ room in
    rw (is, count, same) (take-append_seam _ _)

-- where the front's text was written, the input's was
said : (known w v : Option (List ℕ)) (front : List ℕ) → IfSome known (λ bytes. program_text front ≡ program_text bytes) → Appends w v (program_text front)
    → IfSome known (λ bytes. Appends w v (program_text bytes))
said None w v front same a = tt
said (Some bytes) w v front same a = subst (Appends w v) same a

pub said_on_ok : {T E : Type 0} (r : Result T E) (known w v : Option (List ℕ)) (text front : List ℕ) → text ≡ program_text front
    → IfSome known (λ bytes. program_text front ≡ program_text bytes) → OnOk r (Appends w v text) → OnOk r (IfSome known (λ bytes. Appends w v (program_text bytes)))
said_on_ok (Ok x) known w v text front e same a = said known w v front same (subst (Appends w v) e a)
said_on_ok (Err x) known w v text front e same a = tt
