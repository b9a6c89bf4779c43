-- The layout of the groups: where numbers and their shares of the codes lie.
-- Assumes nothing.
use mathlib.Core.Path.{◌≡◌, refl, subst}
use Prim.Native.Nat.{ℕ, suc, ◌+◌, ◌*◌, ◌^◌, ◌≤◌, ◌<◌}
use native.Mathlib.Nat.{suc-mul, add-suc, add-mul-div_right}
use native.Mathlib.Omega.{arith}
use Rattle.encoding.specs.declared.Encoding.{Encoding}
use Rattle.encoding.specs.declared.Encoding.TheVariants.{Bits, Trits, Quints}
use Rattle.encoding.specs.Encoding.{group_size, code_bits, sequence_bits}
use Rattle.integer_sequence.specs.Reading.{share_bits, share, code_at}
use Rattle.bits.proofs.Fields.{pos_mono, field_lt, stream_lt}

pub bits_zero : (κ : Encoding) → code_bits κ 0 ≡ 0
bits_zero Bits = refl
bits_zero Trits = refl
bits_zero Quints = refl

pub bits_next : (κ : Encoding) (i : ℕ) → code_bits κ (suc i) ≡ share_bits κ i + code_bits κ i
bits_next Bits i = omega arith
bits_next Trits i = omega arith
bits_next Quints i = omega arith

-- the layout of a group is that of every group
pub bits_group : (κ : Encoding) (g k : ℕ) → code_bits κ (g * group_size κ + k) ≡ code_bits κ k + g * code_bits κ (group_size κ)
bits_group Bits g k = omega arith
bits_group Trits g k =
    let e : 8 * (g * 5 + k) + 4 ≡ 8 * k + 4 + (g * 8) * 5 = omega arith in
    rw e (add-mul-div_right (8 * k + 4) (g * 8) (omega arith))
bits_group Quints g k =
    let e : 7 * (g * 3 + k) + 2 ≡ 7 * k + 2 + (g * 7) * 3 = omega arith in
    rw e (add-mul-div_right (7 * k + 2) (g * 7) (omega arith))

pub share_group : (κ : Encoding) (g k : ℕ) → share_bits κ (g * group_size κ + k) ≡ share_bits κ k
share_group κ g k = rw (← add-suc, bits_group, bits_group) (omega arith)

pub code_mono : (κ : Encoding) (n i : ℕ) → i ≤ n → code_bits κ i ≤ code_bits κ n
code_mono κ = pos_mono (code_bits κ) (share_bits κ) (bits_next κ)

module _ (κ : Encoding) (b : ℕ) where
  pub place_next : (i : ℕ) → sequence_bits κ b (suc i) ≡ (share_bits κ i + b) + sequence_bits κ b i
  unfolding sequence_bits
  place_next i = rw (suc-mul, bits_next κ i) (omega arith)

  pub place_mono : (n i : ℕ) → i ≤ n → sequence_bits κ b i ≤ sequence_bits κ b n
  place_mono = pos_mono (sequence_bits κ b) (λ i. share_bits κ i + b) place_next

  pub share_lt : (s i : ℕ) → share κ b s i < 2 ^ share_bits κ i
  unfolding share
  share_lt s i = field_lt s (sequence_bits κ b i + b) (share_bits κ i)

pub code_lt : (κ : Encoding) (b s g : ℕ) → code_at κ b s g < 2 ^ code_bits κ (group_size κ)
unfolding code_at
code_lt κ b s g =
    stream_lt (code_bits κ) (share_bits κ) (bits_next κ) (λ j. share κ b s (g * group_size κ + j))
    (λ j. subst (λ (w : ℕ). share κ b s (g * group_size κ + j) < 2 ^ w) (share_group κ g j) (share_lt κ b s (g * group_size κ + j))) (group_size κ)
