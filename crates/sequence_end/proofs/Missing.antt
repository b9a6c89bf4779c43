-- The missing digits, from the word that begins where their group begins and from its code's entry in the tables.
-- Assumes nothing.
use mathlib.Core.Path.{◌≡◌, refl, sym, ap, ap₂, ◌∙◌, subst}
use mathlib.Core.Bool.{Bool, true, false, not}
use Prim.Native.Nat.{ℕ, ◌+◌, ◌-◌, ◌*◌, ◌/◌, ◌%◌, ◌^◌, ◌≤◌, ◌<◌}
use native.Mathlib.Nat.{mod-lt, mod-eq_of_lt, div-eq_of_lt, lt_of_lt_of_le}
use native.Mathlib.Omega.{arith}
use lib.Arith.{digits_div, digits_mod}
use lib.Dec.{T, eqb}
use borrow.Author.Tests.{eq-eqb, ne_eqb}
use Rattle.laws.specs.Choice.{pick, all}
use Rattle.laws.specs.Table.{tab, tab_from}
use Rattle.laws.proofs.Computed.{each}
use Rattle.laws.proofs.Filling.{tab_ext}
use Rattle.bits.specs.Field.{field}
use Rattle.bits.proofs.Fields.{field_lt}
use Rattle.encoding.specs.declared.Encoding.{Encoding}
use Rattle.encoding.specs.declared.Encoding.TheVariants.{Bits, Trits, Quints}
use Rattle.encoding.specs.Encoding.{group_size, sequence_bits}
use Rattle.encoding.proofs.Laws.{size_pos}
use Rattle.integer_sequence.specs.Codes.{digit}
use Rattle.integer_sequence.specs.inner.Entries.{digits_entry}
use Rattle.integer_sequence.specs.Reading.{code_at, number}
use Rattle.integer_sequence.proofs.Codes.{codes}
use Rattle.integer_sequence.proofs.Places.{code_lt}
use Rattle.integer_sequence.proofs.Groups.{number_alone}
use Rattle.sequence_end.specs.Ending.{missing, all_zero, missing_zero}

-- ---- digits from an entry of the tables

abbrev same : Bool → Bool → Bool
same a b = pick a b (not b)

same_is : (a b : Bool) → T (same a b) → a ≡ b
same_is true true t = refl
same_is true false t = absurd t
same_is false true t = absurd t
same_is false false t = refl

-- the digits of the code t from digit j on are 0 exactly when its entry has nothing from there on
right : Encoding → ℕ → Bool
unfolding digits_entry digit tab tab_from
right κ t = all (λ j. same (all_zero (tab (λ i. digit κ t (j + i)) (group_size κ - j))) (eqb (digits_entry κ t / 2 ^ (8 * j)) 0)) (group_size κ)

right_bits : T (all (right Bits) 256)
unfolding right
right_bits = tt

right_trits : T (all (right Trits) 256)
unfolding right
right_trits = tt

right_quints : T (all (right Quints) 256)
unfolding right
right_quints = tt

right_all : (κ : Encoding) → T (all (right κ) 256)
right_all Bits = right_bits
right_all Trits = right_trits
right_all Quints = right_quints

entry_zero : (κ : Encoding) (t j : ℕ) → t < 256 → j < group_size κ
    → all_zero (tab (λ i. digit κ t (j + i)) (group_size κ - j)) ≡ eqb (digits_entry κ t / 2 ^ (8 * j)) 0
unfolding right
entry_zero κ t j h l =
    same_is _ _
    (each (λ j. same (all_zero (tab (λ i. digit κ t (j + i)) (group_size κ - j))) (eqb (digits_entry κ t / 2 ^ (8 * j)) 0)) (group_size κ)
    (each (right κ) 256 (right_all κ) t h) j l)

-- ---- digits of a group by itself

digit_of_lem : (κ : Encoding) (b s i : ℕ) → number κ b s i / 2 ^ b ≡ digit κ (code_at κ b s (i / group_size κ)) (i % group_size κ)
unfolding number
digit_of_lem κ b s i = digits_div (digit κ (code_at κ b s (i / group_size κ)) (i % group_size κ)) (field_lt s (sequence_bits κ b i) b)

module _ (κ : Encoding) (b s n : ℕ) {p word : ℕ} (small : sequence_bits κ b (group_size κ) ≤ 64) (place : p ≡ n / group_size κ * sequence_bits κ b (group_size κ)) (cut : word ≡ field s p 64) where
  -- digit k of the group that number n belongs to
  digit_alone : (k : ℕ) → k < group_size κ → digit κ (code_at κ b word 0) k ≡ digit κ (code_at κ b s (n / group_size κ)) k
  digit_alone k h =
      let g = n / group_size κ in
      let q : (g * group_size κ + k) / group_size κ ≡ g = digits_div g h in
      let r : (g * group_size κ + k) % group_size κ ≡ k = digits_mod g h in
      let w : number κ b word k ≡ number κ b s (g * group_size κ + k) =
      subst (λ (m : ℕ). number κ b word m ≡ number κ b s (g * group_size κ + k)) r
      (number_alone κ b s (g * group_size κ + k) small (place ∙ ap (λ (m : ℕ). m * sequence_bits κ b (group_size κ)) (sym q)) cut) in
      sym (digit_of_lem κ b word k ∙ ap₂ (λ (g k : ℕ). digit κ (code_at κ b word g) k) (div-eq_of_lt h) (mod-eq_of_lt h))
      ∙ ap (λ (m : ℕ). m / 2 ^ b) w
      ∙ digit_of_lem κ b s (g * group_size κ + k)
      ∙ ap₂ (λ (g k : ℕ). digit κ (code_at κ b s g) k) q r

  -- whether the missing digits are 0, from the code's entry
  pub missing_cut : {code x : ℕ} → code ≡ code_at κ b word 0 → x ≡ digits_entry κ code → (n % group_size κ ≡ 0 → ⊥)
      → eqb (x / 2 ^ (8 * (n % group_size κ))) 0 ≡ missing_zero κ b s n
  unfolding missing
  missing_cut ec ex h =
      rw (ex, ec, ne_eqb (n % group_size κ) 0 h)
      (sym (entry_zero κ (code_at κ b word 0) (n % group_size κ) (lt_of_lt_of_le (code_lt κ b word 0) (codes κ)) (mod-lt n (size_pos κ)))
      ∙ ap all_zero (tab_ext _ _ 0 (group_size κ - n % group_size κ) (λ i l. digit_alone (n % group_size κ + i) (omega arith))))

-- none is missing
pub missing_none : (κ : Encoding) (b s n : ℕ) → n % group_size κ ≡ 0 → missing_zero κ b s n ≡ true
unfolding missing
missing_none κ b s n e = rw (eq-eqb (n % group_size κ) 0 e)
