-- Bytes as a number and back, and the fields of a block in terms of its two halves.
-- Assumes nothing.
use mathlib.Core.Path.{◌≡◌, refl, sym, ap, ap₂, ◌∙◌, subst}
use mathlib.Core.List.{List}
use Prim.Native.Nat.{ℕ, suc, ◌+◌, ◌-◌, ◌*◌, ◌/◌, ◌%◌, ◌^◌, ◌≤◌, ◌<◌}
use native.Mathlib.Nat.{mod-eq_of_lt, lt_of_lt_of_le, mul-mod_left, add-zero, div-one}
use native.Mathlib.Omega.{arith}
use lib.Arith.{digits_lt}
use lib.Pow.{pow_mono, high, low, mod-pow-add, shr_lt, shl-shr}
use lib.ListN.{length, get_or}
use lib.Seq.{ext_get_or}
use Rattle.laws.specs.Table.{Bytes}
use Rattle.laws.proofs.Filling.{length_tab, get_or_tab}
use Rattle.bits.specs.Field.{field, stream}
use Rattle.bits.specs.Block.{number_of, bytes_of}
use Rattle.bits.proofs.Fields.{field_past, field_cut, field_below, byte_below, stream_lt, stream_at, restream, stream_ext}

next_byte : (i : ℕ) → 8 * suc i ≡ 8 + 8 * i
next_byte i = omega arith

pub number_lt : (s : List ℕ) → Bytes s → number_of s < 2 ^ (8 * length s)
unfolding number_of
number_lt s h = stream_lt (λ k. 8 * k) (λ k. 8) next_byte (λ k. get_or s k 0) h (length s)

-- byte k is bits 8k..8k+7
pub byte_here : (s : List ℕ) → Bytes s → (k : ℕ) → k < length s → field (number_of s) (8 * k) 8 ≡ get_or s k 0
unfolding number_of
byte_here s h k l = stream_at (λ k. 8 * k) (λ k. 8) next_byte (λ k. get_or s k 0) h (length s) k l

pub byte_past : (s : List ℕ) → Bytes s → (k : ℕ) → length s ≤ k → field (number_of s) (8 * k) 8 ≡ 0
byte_past s h k l = field_past (number_of s) (8 * k) 8 (lt_of_lt_of_le (number_lt s h) (pow_mono (omega arith)))

-- bytes are those of their number, so that the number decides the memory
pub bytes_number : (s : List ℕ) → Bytes s → bytes_of (length s) (number_of s) ≡ s
unfolding bytes_of
bytes_number s h =
    ext_get_or 0 _ s (length_tab _ (length s))
    (λ i l. let m : i < length s = subst (λ (n : ℕ). i < n) (length_tab _ (length s)) l in get_or_tab _ (length s) i 0 m ∙ byte_here s h i m)

-- eight bytes from byte k on as one word
module _ (s : List ℕ) (h : Bytes s) (k : ℕ) (room : k + 8 ≤ length s) where
  here : (i : ℕ) → i < 8 → {b : ℕ} → b ≡ get_or s (k + i) 0 → b ≡ field (number_of s) (8 * (k + i)) 8
  here i l e = e ∙ sym (byte_here s h (k + i) (omega arith))

  pub eight_bytes : {b0 b1 b2 b3 b4 b5 b6 b7 : ℕ} → b0 ≡ get_or s k 0 → b1 ≡ get_or s (k + 1) 0 → b2 ≡ get_or s (k + 2) 0 → b3 ≡ get_or s (k + 3) 0
      → b4 ≡ get_or s (k + 4) 0 → b5 ≡ get_or s (k + 5) 0 → b6 ≡ get_or s (k + 6) 0 → b7 ≡ get_or s (k + 7) 0
      → b0 + 256 * b1 + 65536 * b2 + 16777216 * b3 + 4294967296 * b4 + 1099511627776 * b5 + 281474976710656 * b6 + 72057594037927936 * b7 ≡ field (number_of s) (8 * k) 64
  eight_bytes e0 e1 e2 e3 e4 e5 e6 e7 =
      let w6 = more 6 7 8 16 (omega arith) (omega arith) (here 7 (omega arith) e7) (here 6 (omega arith) e6) in
      let w5 = more 5 6 16 24 (omega arith) (omega arith) w6 (here 5 (omega arith) e5) in
      let w4 = more 4 5 24 32 (omega arith) (omega arith) w5 (here 4 (omega arith) e4) in
      let w3 = more 3 4 32 40 (omega arith) (omega arith) w4 (here 3 (omega arith) e3) in
      let w2 = more 2 3 40 48 (omega arith) (omega arith) w3 (here 2 (omega arith) e2) in
      let w1 = more 1 2 48 56 (omega arith) (omega arith) w2 (here 1 (omega arith) e1) in
      omega (arith, byte_below (number_of s) (8 * k) (8 * (k + 1)) 56 64 (omega arith) (omega arith) w1 (e0 ∙ sym (byte_here s h k (omega arith))))
    where
      more : (i j w v : ℕ) {x b : ℕ} → j ≡ i + 1 → v ≡ w + 8 → x ≡ field (number_of s) (8 * (k + j)) w → b ≡ field (number_of s) (8 * (k + i)) 8
          → x * 256 + b ≡ field (number_of s) (8 * (k + i)) v
      more i j w v e f = byte_below (number_of s) (8 * (k + i)) (8 * (k + j)) w v (omega arith) f

pub bytes_length : (n v : ℕ) → length (bytes_of n v) ≡ n
unfolding bytes_of
bytes_length n v = length_tab _ n

pub number_bytes : (n v : ℕ) → number_of (bytes_of n v) ≡ v % 2 ^ (8 * n)
unfolding number_of bytes_of
number_bytes n v =
    ap (stream (λ k. 8 * k) (λ k. get_or (bytes_of n v) k 0)) (bytes_length n v)
    ∙ stream_ext (λ k. 8 * k) _ (λ k. field v (8 * k) 8) n (λ i l. get_or_tab _ n i 0 l)
    ∙ restream (λ k. 8 * k) (λ k. 8) next_byte refl v n

-- ---- the two halves

module _ (hi lo : ℕ) (h : lo < 2 ^ 64) where
  pub low_half : field (hi * 2 ^ 64 + lo) 0 64 ≡ lo
  unfolding field
  low_half = rw (div-one (hi * 2 ^ 64 + lo)) (low hi 64 h)

  -- a word that reaches from the low half into the high one
  pub spliced : (p : ℕ) → p < 64 → hi * 2 ^ (64 - p) % 2 ^ 64 + lo / 2 ^ p ≡ field (hi * 2 ^ 64 + lo) p 64
  unfolding field
  spliced p l =
      let d : 64 ≡ p + (64 - p) = omega arith in
      ap₂ ◌+◌ (top d) (bottom d) ∙ sym (field_cut (hi * 2 ^ 64 + lo) p p (64 - p)) ∙ ap (field (hi * 2 ^ 64 + lo) p) (sym d)
    where
      top : 64 ≡ p + (64 - p) → hi * 2 ^ (64 - p) % 2 ^ 64 ≡ field (hi * 2 ^ 64 + lo) (p + (64 - p)) p * 2 ^ (64 - p)
      top d =
          ap (λ (n : ℕ). hi * 2 ^ (64 - p) % 2 ^ n) d ∙ mod-pow-add (hi * 2 ^ (64 - p)) p (64 - p)
          ∙ rw (shl-shr hi (64 - p), mul-mod_left hi (2 ^ (64 - p))) (add-zero _)
          ∙ ap (λ (x : ℕ). x % 2 ^ p * 2 ^ (64 - p)) (sym (high hi 64 h) ∙ ap (λ (n : ℕ). (hi * 2 ^ 64 + lo) / 2 ^ n) d)

      bottom : 64 ≡ p + (64 - p) → lo / 2 ^ p ≡ field (hi * 2 ^ 64 + lo) p (64 - p)
      bottom d = let d2 : 64 - p + p ≡ 64 = omega arith in sym (mod-eq_of_lt (shr_lt (64 - p) p (rw d2 h))) ∙ sym (field_below hi lo 64 p (64 - p) (omega arith))

pub block_lt : (hi lo : ℕ) → hi < 2 ^ 64 → lo < 2 ^ 64 → hi * 2 ^ 64 + lo < 2 ^ 128
block_lt hi lo h l = digits_lt h l
