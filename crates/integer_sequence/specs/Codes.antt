-- 000, "Integer Sequence Encoding": the digits of a trit or quint code, by the printed bit rules.
-- `T[6:5]` of the paper is `field T 5 2`.
-- Assumes nothing.
use Rattle.std.specs.Prelude.{ℕ, ◌+◌, ◌-◌, ◌*◌, ◌^◌, ◌<◌, List, [], ◌∷◌, ◌++◌, eqb, get_or}
use Rattle.laws.specs.Choice.{pick, both}
use Rattle.bits.specs.Field.{field}
use Rattle.encoding.specs.Encoding.{group_size, radix, code_bits}
use Rattle.encoding.specs.declared.Encoding.{Encoding}
use Rattle.encoding.specs.declared.Encoding.TheVariants.{Bits, Trits, Quints}

-- if T[4:2] = 111 then C = { T[7:5], T[1:0] }, else C = T[4:0]
abbrev pub trit_c : ℕ → ℕ
unfolding field
trit_c T = pick (eqb (field T 2 3) 7) (field T 5 3 * 4 + field T 0 2) (field T 0 5)

-- t0, t1, t2 of C
abbrev pub low_trits : ℕ → List ℕ
unfolding field
low_trits C =
    pick (eqb (field C 0 2) 3) ((field C 3 1 * 2 + field C 2 1 * (1 - field C 3 1)) ∷ field C 4 1 ∷ 2 ∷ [])
    (pick (eqb (field C 2 2) 3) (field C 0 2 ∷ 2 ∷ 2 ∷ [])
    ((field C 1 1 * 2 + field C 0 1 * (1 - field C 1 1)) ∷ field C 2 2 ∷ field C 4 1 ∷ []))

-- t3, t4 of T
abbrev pub high_trits : ℕ → List ℕ
unfolding field
high_trits T = pick (eqb (field T 2 3) 7) (2 ∷ 2 ∷ []) (pick (eqb (field T 5 2) 3) (field T 7 1 ∷ 2 ∷ []) (field T 5 2 ∷ field T 7 1 ∷ []))

-- the five trits of the code T, t0 first
unfoldable pub trits_of : ℕ → List ℕ
trits_of T = low_trits (trit_c T) ++ high_trits T

-- q0, q1 of C
abbrev pub low_quints : ℕ → List ℕ
unfolding field
low_quints C = pick (eqb (field C 0 3) 5) (field C 3 2 ∷ 4 ∷ []) (field C 0 3 ∷ field C 3 2 ∷ [])

-- the three quints of the code Q, q0 first
unfoldable pub quints_of : ℕ → List ℕ
unfolding field low_quints
quints_of Q =
    pick (both (eqb (field Q 1 2) 3) (eqb (field Q 5 2) 0))
    (4 ∷ 4 ∷ (field Q 0 1 * 4 + field Q 4 1 * (1 - field Q 0 1) * 2 + field Q 3 1 * (1 - field Q 0 1)) ∷ [])
    (pick (eqb (field Q 1 2) 3) (low_quints (field Q 3 2 * 8 + (3 - field Q 5 2) * 2 + field Q 0 1) ++ (4 ∷ []))
    (low_quints (field Q 0 5) ++ (field Q 5 2 ∷ [])))

-- digit k of a code
unfoldable pub digit : Encoding → ℕ → ℕ → ℕ
unfolding trits_of quints_of
digit Bits t k = 0
digit Trits t k = get_or (trits_of t) k 0
digit Quints t k = get_or (quints_of t) k 0

-- 01, "Forms for each place": "and for digits in range". Of all 256 trit codes and 128 quint codes every digit is. Theorem: proofs/Codes.antt,
-- `digit_lt`.
abbrev pub DigitsInRange : Type 0
DigitsInRange = (e : Encoding) (t k : ℕ) → t < 2 ^ code_bits e (group_size e) → k < group_size e → digit e t k < radix e
