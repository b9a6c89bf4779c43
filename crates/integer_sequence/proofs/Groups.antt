-- A group of a sequence by itself: the word that begins where the group begins has the same code and the same numbers.
-- Assumes nothing.
use mathlib.Core.Path.{◌≡◌, refl, sym, ap, ap₂, ◌∙◌, subst}
use Prim.Native.Nat.{ℕ, zero, suc, ◌+◌, ◌*◌, ◌/◌, ◌%◌, ◌^◌, ◌≤◌, ◌<◌}
use native.Mathlib.Nat.{mod-lt, mod-eq_of_lt, div-eq_of_lt, div-one, div-add-mod', zero-mul, lt_of_lt_of_le, add-mul, mul-add, mul_assoc, mul_comm, mul-le-mul_left, lt_of_not-le}
use native.Mathlib.Decide.{dec_le}
use native.Mathlib.Omega.{arith}
use lib.Arith.{digits_div, digits_mod, digits_lt}
use lib.Pow.{pow_mono, shr-shr}
use lib.Pow
use Rattle.bits.specs.Field.{field, stream}
use Rattle.bits.proofs.Fields.{field_lt, field_in, stream_ext, stream_at}
use Rattle.encoding.specs.declared.Encoding.{Encoding}
use Rattle.encoding.specs.declared.Encoding.TheVariants.{Bits, Trits, Quints}
use Rattle.encoding.specs.Encoding.{group_size, radix, code_bits, sequence_bits}
use Rattle.encoding.proofs.Laws.{size_pos}
use Rattle.integer_sequence.specs.Codes.{digit}
use Rattle.integer_sequence.specs.inner.Entries.{digits_entry, group_numbers}
use Rattle.integer_sequence.specs.Reading.{share_bits, share, code_at, number}
use Rattle.integer_sequence.specs.inner.Sequences.{Narrow}
use Rattle.integer_sequence.proofs.Codes.{digit_lt}
use Rattle.integer_sequence.proofs.Places.{bits_zero, bits_group, share_group, place_next, place_mono, code_lt}

-- ---- groups

pub number_lt : (κ : Encoding) (b s i : ℕ) → number κ b s i < radix κ * 2 ^ b
unfolding number
number_lt κ b s i =
    digits_lt (digit_lt κ (code_at κ b s (i / group_size κ)) (i % group_size κ) (code_lt κ b s (i / group_size κ)) (mod-lt i (size_pos κ)))
    (field_lt s (sequence_bits κ b i) b)

-- the layout of a group is that of every group
pub place_group : (κ : Encoding) (b g k : ℕ) → sequence_bits κ b (g * group_size κ + k) ≡ sequence_bits κ b (g * group_size κ) + sequence_bits κ b k
unfolding sequence_bits
place_group κ b g k =
    let z : g * group_size κ ≡ g * group_size κ + 0 = omega arith in
    let e : code_bits κ (g * group_size κ) ≡ code_bits κ 0 + g * code_bits κ (group_size κ) = ap (code_bits κ) z ∙ bits_group κ g 0 in
    omega (arith, add-mul (g * group_size κ) k b, bits_group κ g k, bits_zero κ)

module _ (κ : Encoding) (b s g : ℕ) (small : sequence_bits κ b (group_size κ) ≤ 64) where
  -- the word that begins where group g begins
  abbrev pub group_word : ℕ
  group_word = field s (sequence_bits κ b (g * group_size κ)) 64

  module _ (k : ℕ) (h : k < group_size κ) where
    ends : sequence_bits κ b k + b + share_bits κ k ≤ 64
    ends = let m : sequence_bits κ b (suc k) ≤ sequence_bits κ b (group_size κ) = place_mono κ b (group_size κ) (suc k) h in omega (arith, place_next κ b k)

    share_in : share κ b s (g * group_size κ + k) ≡ share κ b group_word k
    unfolding share
    share_in =
        ap₂ (λ (p w : ℕ). field s p w) (ap (λ (n : ℕ). n + b) (place_group κ b g k) ∙ assoc _ _ _) (share_group κ g k)
        ∙ sym (field_in s (sequence_bits κ b (g * group_size κ)) 64 (sequence_bits κ b k + b) (share_bits κ k) ends)
      where
        assoc : (x y z : ℕ) → x + y + z ≡ x + (y + z)
        assoc x y z = omega arith

    low_in : field s (sequence_bits κ b (g * group_size κ + k)) b ≡ field group_word (sequence_bits κ b k) b
    low_in = rw (place_group κ b g k) (sym (field_in s (sequence_bits κ b (g * group_size κ)) 64 (sequence_bits κ b k) b (omega (arith, ends))))

  code_in : code_at κ b s g ≡ code_at κ b group_word 0
  unfolding code_at
  code_in =
      stream_ext (code_bits κ) _ _ (group_size κ)
      (λ k h. share_in k h ∙ ap (share κ b group_word) (let z : k ≡ 0 * group_size κ + k = omega (arith, zero-mul (group_size κ)) in z))

  -- number k of group g is number k of the word
  pub number_in : (k : ℕ) → k < group_size κ → number κ b s (g * group_size κ + k) ≡ number κ b group_word k
  unfolding number
  number_in k h =
      rw (digits_div g h, digits_mod g h, div-eq_of_lt h, mod-eq_of_lt h, low_in k h, code_in)

-- where group g begins
group_place : (κ : Encoding) (b g : ℕ) → sequence_bits κ b (g * group_size κ) ≡ g * sequence_bits κ b (group_size κ)
unfolding sequence_bits
group_place κ b g =
    let z : g * group_size κ ≡ g * group_size κ + 0 = omega arith in
    let e : code_bits κ (g * group_size κ) ≡ code_bits κ 0 + g * code_bits κ (group_size κ) = ap (code_bits κ) z ∙ bits_group κ g 0 in
    omega (arith, bits_zero κ, mul_assoc g (group_size κ) b, mul-add g (group_size κ * b) (code_bits κ (group_size κ)))

-- number i alone, from the word that begins where its group begins
pub number_alone : (κ : Encoding) (b s i : ℕ) {p word : ℕ} → sequence_bits κ b (group_size κ) ≤ 64 → p ≡ i / group_size κ * sequence_bits κ b (group_size κ) → word ≡ field s p 64
    → number κ b word (i % group_size κ) ≡ number κ b s i
number_alone κ b s i small ep ew =
    ap (λ (w : ℕ). number κ b w (i % group_size κ)) (ew ∙ ap (λ (n : ℕ). field s n 64) (ep ∙ sym (group_place κ b (i / group_size κ))))
    ∙ sym (number_in κ b s (i / group_size κ) small (i % group_size κ) (mod-lt i (size_pos κ)))
    ∙ ap (number κ b s) (div-add-mod' i (group_size κ))

-- ---- the numbers of a first group, a byte each

-- what each value holds above and below
stream_sum : (pos u v : ℕ → ℕ) (m n : ℕ) → stream pos (λ k. u k * m + v k) n ≡ stream pos u n * m + stream pos v n
unfolding stream
stream_sum pos u v m zero = omega (arith, zero-mul m)
stream_sum pos u v m (suc n) =
    let p = 2 ^ pos n in
    omega (arith, stream_sum pos u v m n, add-mul (u n * m) (v n) p, add-mul (u n * p) (stream pos u n) m, mul_assoc (u n) m p, mul_assoc (u n) p m, ap (λ (x : ℕ). u n * x) (mul_comm m p))

pub group_numbers_lem : (κ : Encoding) (b g : ℕ) {code x own : ℕ} → code ≡ code_at κ b g 0 → x ≡ digits_entry κ code
    → own ≡ stream (λ k. 8 * k) (λ k. field g (sequence_bits κ b k) b) (group_size κ) → x * 2 ^ b + own ≡ group_numbers κ b g
unfolding group_numbers digits_entry number
group_numbers_lem κ b g ec ex eo =
    rw (ex, ec, eo)
    (sym (stream_sum (λ k. 8 * k) (digit κ (code_at κ b g 0)) (λ k. field g (sequence_bits κ b k) b) (2 ^ b) (group_size κ))
    ∙ stream_ext (λ k. 8 * k) _ (number κ b g) (group_size κ) (λ k h. rw (div-eq_of_lt h, mod-eq_of_lt h)))

-- the codes of a first group, share by share
share_at : (κ : Encoding) (b g i p : ℕ) → p ≡ sequence_bits κ b i + b → field g p (share_bits κ i) ≡ share κ b g i
unfolding share
share_at κ b g i p e = rw e

-- a share that stands at its place in the code once so many numbers are shifted out
shifted_share : (κ : Encoding) (b g i n c w : ℕ) {x : ℕ} → x ≡ g / 2 ^ n → n + c ≡ sequence_bits κ b i + b → w ≡ share_bits κ i → x % 2 ^ (w + c) / 2 ^ c ≡ share κ b g i
unfolding field
shifted_share κ b g i n c w {x} e p q =
    Pow.field x w c ∙ ap (λ (y : ℕ). y / 2 ^ c % 2 ^ w) e ∙ ap (λ (y : ℕ). y % 2 ^ w) (shr-shr g n c) ∙ ap (λ (y : ℕ). g / 2 ^ (n + c) % 2 ^ y) q ∙ share_at κ b g i (n + c) p

down : (g n b : ℕ) {x y : ℕ} → x ≡ g / 2 ^ n → y ≡ x / 2 ^ b → y ≡ g / 2 ^ (n + b)
down g n b e f = f ∙ ap (λ (z : ℕ). z / 2 ^ b) e ∙ shr-shr g n b

-- the bits of number k, once so many numbers are shifted out
own_at : (κ : Encoding) (b g k n c : ℕ) {x v : ℕ} → v ≡ field x c b → x ≡ g / 2 ^ n → n + c ≡ sequence_bits κ b k → v ≡ field g (sequence_bits κ b k) b
unfolding field
own_at κ b g k n c e q p = e ∙ ap (λ (y : ℕ). y / 2 ^ c % 2 ^ b) q ∙ ap (λ (y : ℕ). y % 2 ^ b) (shr-shr g n c) ∙ ap (λ (y : ℕ). g / 2 ^ y % 2 ^ b) p

pub five_own : (b g : ℕ) {g1 g2 g3 g4 v0 v1 v2 v3 v4 : ℕ} → g1 ≡ g / 2 ^ b → g2 ≡ g1 / 2 ^ b → g3 ≡ g2 / 2 ^ b → g4 ≡ g3 / 2 ^ b
    → v0 ≡ field g 0 b → v1 ≡ field g1 2 b → v2 ≡ field g2 4 b → v3 ≡ field g3 5 b → v4 ≡ field g4 7 b
    → v0 + v1 * 256 + v2 * 65536 + v3 * 16777216 + v4 * 4294967296 ≡ stream (λ k. 8 * k) (λ k. field g (sequence_bits Trits b k) b) 5
unfolding stream sequence_bits
five_own b g e1 e2 e3 e4 f0 f1 f2 f3 f4 =
    let d2 = down g b b e1 e2 in
    let d3 = down g (b + b) b d2 e3 in
    let d4 = down g (b + b + b) b d3 e4 in
    omega (arith, own_at Trits b g 0 0 0 f0 (sym (div-one g)) (omega arith), own_at Trits b g 1 b 2 f1 e1 (omega arith), own_at Trits b g 2 (b + b) 4 f2 d2 (omega arith), own_at Trits b g 3 (b + b + b) 5 f3 d3 (omega arith), own_at Trits b g 4 (b + b + b + b) 7 f4 d4 (omega arith))

pub three_own : (b g : ℕ) {g1 g2 v0 v1 v2 : ℕ} → g1 ≡ g / 2 ^ b → g2 ≡ g1 / 2 ^ b → v0 ≡ field g 0 b → v1 ≡ field g1 3 b → v2 ≡ field g2 5 b
    → v0 + v1 * 256 + v2 * 65536 ≡ stream (λ k. 8 * k) (λ k. field g (sequence_bits Quints b k) b) 3
unfolding stream sequence_bits
three_own b g e1 e2 f0 f1 f2 =
    omega (arith, own_at Quints b g 0 0 0 f0 (sym (div-one g)) (omega arith), own_at Quints b g 1 b 3 f1 e1 (omega arith), own_at Quints b g 2 (b + b) 5 f2 (down g b b e1 e2) (omega arith))

pub trit_code_lem : (b g : ℕ) {g1 g2 g3 g4 g5 : ℕ} → g1 ≡ g / 2 ^ b → g2 ≡ g1 / 2 ^ b → g3 ≡ g2 / 2 ^ b → g4 ≡ g3 / 2 ^ b → g5 ≡ g4 / 2 ^ b
    → g1 % 4 + g2 % 16 / 4 * 4 + g3 % 32 / 16 * 16 + g4 % 128 / 32 * 32 + g5 % 256 / 128 * 128 ≡ code_at Trits b g 0
unfolding code_at stream sequence_bits
trit_code_lem b g {g1} {g2} {g3} {g4} {g5} e1 e2 e3 e4 e5 =
    let d2 = down g b b e1 e2 in
    let d3 = down g (b + b) b d2 e3 in
    let d4 = down g (b + b + b) b d3 e4 in
    let d5 = down g (b + b + b + b) b d4 e5 in
    rw (
      sym (div-one (g1 % 4)) ∙ shifted_share Trits b g 0 b 0 2 e1 (omega arith) refl,
      shifted_share Trits b g 1 (b + b) 2 2 d2 (omega arith) refl,
      shifted_share Trits b g 2 (b + b + b) 4 1 d3 (omega arith) refl,
      shifted_share Trits b g 3 (b + b + b + b) 5 2 d4 (omega arith) refl,
      shifted_share Trits b g 4 (b + b + b + b + b) 7 1 d5 (omega arith) refl,
    )
    (omega arith)

pub quint_code_lem : (b g : ℕ) {g1 g2 g3 : ℕ} → g1 ≡ g / 2 ^ b → g2 ≡ g1 / 2 ^ b → g3 ≡ g2 / 2 ^ b
    → g1 % 8 + g2 % 32 / 8 * 8 + g3 % 128 / 32 * 32 ≡ code_at Quints b g 0
unfolding code_at stream sequence_bits
quint_code_lem b g {g1} {g2} {g3} e1 e2 e3 =
    let d2 = down g b b e1 e2 in
    let d3 = down g (b + b) b d2 e3 in
    rw (
      sym (div-one (g1 % 8)) ∙ shifted_share Quints b g 0 b 0 3 e1 (omega arith) refl,
      shifted_share Quints b g 1 (b + b) 3 2 d2 (omega arith) refl,
      shifted_share Quints b g 2 (b + b + b) 5 2 d3 (omega arith) refl,
    )
    (omega arith)

-- ---- what a number of a byte asks

pub number_byte : (κ : Encoding) (b s : ℕ) → Narrow κ b → (i : ℕ) → number κ b s i < 2 ^ 8
number_byte κ b s h i = lt_of_lt_of_le (number_lt κ b s i) h

-- number k in the numbers of its group
pub in_group : (κ : Encoding) (b g : ℕ) {x : ℕ} → Narrow κ b → x ≡ group_numbers κ b g → (k : ℕ) → k < group_size κ → x / 2 ^ (8 * k) % 256 ≡ number κ b g k
unfolding group_numbers field
in_group κ b g h e k l = rw e (stream_at (λ k. 8 * k) (λ k. 8) (λ i. omega arith) (number κ b g) (number_byte κ b g h) (group_size κ) k l)

-- the bits that fit a byte below a trit or a quint
below_radix : (r b m : ℕ) → r * 2 ^ b ≤ 256 → 256 < r * 2 ^ suc m → b ≤ m
below_radix r b m h l = elim (dec_le b m) [ yes k ↦ k | no k ↦ absurd (clash (lt_of_not-le k)) ]
  where
    clash : m < b → ⊥
    clash k = let p : r * 2 ^ suc m ≤ r * 2 ^ b = mul-le-mul_left r (pow_mono {i = suc m} {j = b} k) in omega arith

pub narrow : {κ μ : Encoding} (b : ℕ) → κ ≡ μ → Narrow κ b → Narrow μ b
narrow b q h = subst (λ (x : Encoding). Narrow x b) q h

pub narrow_bits : (b : ℕ) → Narrow Bits b → b ≤ 8
narrow_bits b h = below_radix 1 b 8 h (omega arith)

pub narrow_trits : (b : ℕ) → Narrow Trits b → b ≤ 6
narrow_trits b h = below_radix 3 b 6 h (omega arith)

pub narrow_quints : (b : ℕ) → Narrow Quints b → b ≤ 5
narrow_quints b h = below_radix 5 b 5 h (omega arith)

-- a group of numbers that fit a byte is shorter than a word
pub group_fits : (κ : Encoding) (b : ℕ) → Narrow κ b → sequence_bits κ b (group_size κ) < 64
unfolding sequence_bits
group_fits Bits b h = omega (arith, narrow_bits b h)
group_fits Trits b h = omega (arith, narrow_trits b h)
group_fits Quints b h = omega (arith, narrow_quints b h)

-- ---- numbers with no digit

pub number_bits : (b g : ℕ) {v : ℕ} → v ≡ field g 0 b → v ≡ number Bits b g 0
unfolding number digit sequence_bits
number_bits b g e = let z : sequence_bits Bits b 0 ≡ 0 = omega (arith, zero-mul b) in let y : 0 * 2 ^ b + field g 0 b ≡ field g 0 b = omega (arith, zero-mul (2 ^ b)) in rw (e, z, y)
