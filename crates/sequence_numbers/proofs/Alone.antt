-- Numbers that follow each other, a byte each: those with no digits from the last down, the others group by group.
-- Assumes nothing.
use mathlib.Core.Path.{◌≡◌, sym, ap, ◌∙◌, subst}
use Prim.Native.Nat.{ℕ, zero, suc, ◌+◌, ◌-◌, ◌*◌, ◌/◌, ◌%◌, ◌^◌, ◌≤◌, ◌<◌}
use native.Mathlib.Nat.{mod-lt, mod-eq_of_lt, div-one, div-le_self, div-add-mod', mul-div_left, add-div_right, lt_of_lt_of_le, add-zero, zero-add, add-suc, add_assoc, add-mul, mul_assoc, zero-mul, mul-mod_left, mul-le-mul, mul-le-mul_right}
use native.Mathlib.Decide.{dec_le}
use native.Mathlib.Omega.{arith}
use lib.Arith.{digits_div, digits_mod, digits_lt}
use lib.Pow.{pow_pos, pow-add, pow_mono, high, mod-pow-add, shl-shr, shr-shr}
use Rattle.bits.specs.Field.{field, stream}
use Rattle.bits.proofs.Fields.{field_in, stream_ext, stream_lt, stream_at}
use Rattle.encoding.specs.declared.Encoding.{Encoding}
use Rattle.encoding.specs.declared.Encoding.TheVariants.{Bits}
use Rattle.encoding.specs.Encoding.{group_size, sequence_bits}
use Rattle.encoding.proofs.Laws.{size_pos}
use Rattle.integer_sequence.specs.Codes.{digit}
use Rattle.integer_sequence.specs.inner.Entries.{group_numbers}
use Rattle.integer_sequence.specs.Reading.{number}
use Rattle.integer_sequence.specs.inner.Sequences.{Narrow}
use Rattle.integer_sequence.proofs.Groups.{number_alone, number_byte}
use Rattle.sequence_numbers.specs.inner.Eight.{Eight}

-- number `first + k` of a sequence with no digits, from the word where number `first` begins
pub bits_alone : (b s first k : ℕ) {p word v : ℕ} → b ≤ 8 → k < 8 → p ≡ first * b → word ≡ field s p 64 → v ≡ field word (k * b) b → v ≡ number Bits b s (first + k)
unfolding number digit sequence_bits
bits_alone b s first k h l ep ew ev =
    let m : k * b ≤ 7 * b = mul-le-mul_right b (omega arith) in
    let q : first * b + k * b ≡ (first + k) * b + 0 = omega (arith, add-mul first k b) in
    let z : 0 * 2 ^ b + field s ((first + k) * b + 0) b ≡ field s ((first + k) * b + 0) b = omega (arith, zero-mul (2 ^ b)) in
    rw (ev, ew, ep, field_in s (first * b) 64 (k * b) b (omega (arith, m)), q, z)

-- those from place k on stand in `out`, the one at k lowest
pub record Held (n : ℕ) (f : ℕ → ℕ) (k out : ℕ) : Type 0 where
  pub most : k ≤ n
  pub small : out < 2 ^ (8 * (n - k))
  pub at : (j : ℕ) → k ≤ j → j < n → out / 2 ^ (8 * (j - k)) % 256 ≡ f j

module _ (n : ℕ) (f : ℕ → ℕ) where
  pub held_none : Held n f n 0
  held_none = record {
    most = omega arith;
    small = let z : 8 * (n - n) ≡ 0 = omega arith in rw z (omega arith);
    at = λ j h l. absurd (omega arith);
  }

  -- room for one more
  pub room : (k out : ℕ) → n ≤ 8 → 0 < k → Held n f k out → out < 72057594037927936
  room k out h l w = let m : 2 ^ (8 * (n - k)) ≤ 2 ^ 56 = pow_mono {i = 8 * (n - k)} {j = 56} (omega (arith, w.most)) in omega (arith, w.small, m)

  pub held_more : (k c out v : ℕ) → k ≡ c + 1 → v < 256 → v ≡ f c → Held n f k out → Held n f c (out * 256 + v)
  held_more k c out v e hv ev w = record {
    most = omega (arith, w.most);
    small =
        let z : 8 * (n - c) ≡ 8 * (n - k) + 8 = omega (arith, w.most) in
        rw (z, pow-add 2 (8 * (n - k)) 8) (omega (arith, w.small));
    at = λ j h l. elim (dec_le k j) [
      | yes p ↦
          let z : 8 * (j - c) ≡ 8 + 8 * (j - k) = omega arith in
          let d : (out * 256 + v) / 2 ^ 8 ≡ out = omega arith in
          ap (λ (m : ℕ). (out * 256 + v) / 2 ^ m % 256) z
          ∙ ap (λ (m : ℕ). m % 256) (sym (shr-shr (out * 256 + v) 8 (8 * (j - k))))
          ∙ ap (λ (m : ℕ). m / 2 ^ (8 * (j - k)) % 256) d
          ∙ w.at j p l
      | no p ↦
          let q : j ≡ c = omega arith in
          let z : 8 * (j - c) ≡ 0 = omega arith in
          ap (λ (m : ℕ). (out * 256 + v) / 2 ^ m % 256) z
          ∙ (let y : (out * 256 + v) / 1 % 256 ≡ v = omega arith in y)
          ∙ ev ∙ ap f (sym q)
    ];
  }

  pub held_all : (k out : ℕ) → k ≤ 0 → Held n f k out → Eight n f (record { 0 = out })
  held_all k out h w = record {
    at = λ j l.
        let z : 8 * j ≡ 8 * (j - k) = omega arith in
        ap (λ (m : ℕ). out / 2 ^ m % 256) z ∙ w.at j (omega arith) l;
  }

-- ---- group by group

-- the first n values, a byte each
abbrev pub bytes : (ℕ → ℕ) → ℕ → ℕ
bytes v n = stream (λ k. 8 * k) v n

append : (v : ℕ → ℕ) (m n : ℕ) → bytes v (m + n) ≡ bytes (λ j. v (m + j)) n * 2 ^ (8 * m) + bytes v m
unfolding stream
append v m zero = let z : m + 0 ≡ m = omega arith in rw z (omega (arith, zero-mul (2 ^ (8 * m))))
append v m (suc n) =
    let e : 2 ^ (8 * (m + n)) ≡ 2 ^ (8 * n) * 2 ^ (8 * m) = ap (λ (x : ℕ). 2 ^ x) (omega arith) ∙ pow-add 2 (8 * n) (8 * m) in
    rw (add-suc m n, e)
    (omega (arith, append v m n, mul_assoc (v (m + n)) (2 ^ (8 * n)) (2 ^ (8 * m)), add-mul (v (m + n) * 2 ^ (8 * n)) (bytes (λ j. v (m + j)) n) (2 ^ (8 * m))))

module _ (v : ℕ → ℕ) (small : (i : ℕ) → v i < 2 ^ 8) where
  bytes_lt : (n : ℕ) → bytes v n < 2 ^ (8 * n)
  bytes_lt n = stream_lt (λ k. 8 * k) (λ k. 8) (λ i. omega arith) v small n

  rest : (m n : ℕ) → bytes v (m + n) / 2 ^ (8 * m) ≡ bytes (λ j. v (m + j)) n
  rest m n = rw (append v m n) (high (bytes (λ j. v (m + j)) n) (8 * m) (bytes_lt m))

  -- more bytes above m, what does not fit cut off
  above : (m n out : ℕ) → m < 8 → out ≡ field (bytes v m) 0 64
      → (out + bytes (λ j. v (m + j)) n * 2 ^ (8 * m) % 2 ^ 64 < 2 ^ 64) × (out + bytes (λ j. v (m + j)) n * 2 ^ (8 * m) % 2 ^ 64 ≡ field (bytes v (m + n)) 0 64)
  unfolding field
  above m n out h e =
      let x = bytes (λ j. v (m + j)) n in
      let d : 64 ≡ (64 - 8 * m) + 8 * m = omega arith in
      let l : bytes v m < 2 ^ 64 = lt_of_lt_of_le (bytes_lt m) (pow_mono {i = 8 * m} {j = 64} (omega arith)) in
      let q : x * 2 ^ (8 * m) % 2 ^ 64 ≡ x % 2 ^ (64 - 8 * m) * 2 ^ (8 * m) =
      ap (λ (k : ℕ). x * 2 ^ (8 * m) % 2 ^ k) d ∙ mod-pow-add (x * 2 ^ (8 * m)) (64 - 8 * m) (8 * m) ∙ rw (shl-shr x (8 * m), mul-mod_left x (2 ^ (8 * m))) (add-zero _) in
      let t : x % 2 ^ (64 - 8 * m) * 2 ^ (8 * m) + bytes v m < 2 ^ 64 = subst (λ (k : ℕ). x % 2 ^ (64 - 8 * m) * 2 ^ (8 * m) + bytes v m < k) (sym (pow-add 2 (64 - 8 * m) (8 * m)) ∙ ap (λ (k : ℕ). 2 ^ k) (sym d)) (digits_lt (mod-lt x (pow_pos (64 - 8 * m))) (bytes_lt m)) in
      (omega (arith, e, l, q, t), omega (arith, e, l, q, t, append v m n))

module _ (κ : Encoding) (b s first : ℕ) where
  abbrev pub wanted : ℕ → ℕ
  wanted j = number κ b s (first + j)

  -- `have` numbers stand in `out`, the last of them the last of its group, which begins at bit p
  pub record Got (p out have : ℕ) : Type 0 where
    pub whole : (first + have) / group_size κ * group_size κ ≡ first + have
    pub place : p + sequence_bits κ b (group_size κ) ≡ (first + have) / group_size κ * sequence_bits κ b (group_size κ)
    pub held : out ≡ field (bytes wanted have) 0 64

  module _ (narrow : Narrow κ b) (fits : sequence_bits κ b (group_size κ) ≤ 64) where
    small : (i : ℕ) → wanted i < 2 ^ 8
    small i = number_byte κ b s narrow (first + i)

    -- the numbers of group g
    group : (g : ℕ) {p word x : ℕ} → p ≡ g * sequence_bits κ b (group_size κ) → word ≡ field s p 64 → x ≡ group_numbers κ b word
        → x ≡ bytes (λ j. number κ b s (g * group_size κ + j)) (group_size κ)
    unfolding group_numbers
    group g {p} {word} ep ew ex =
        ex
        ∙ stream_ext (λ k. 8 * k) (number κ b word) _ (group_size κ)
        (λ j h.
        let q : (g * group_size κ + j) / group_size κ ≡ g = digits_div g h in
        let r : (g * group_size κ + j) % group_size κ ≡ j = digits_mod g h in
        subst (λ (m : ℕ). number κ b word m ≡ number κ b s (g * group_size κ + j)) r
        (number_alone κ b s (g * group_size κ + j) fits (ep ∙ ap (λ (m : ℕ). m * sequence_bits κ b (group_size κ)) (sym q)) ew))

    pub got_place : first < 256 → first / group_size κ * sequence_bits κ b (group_size κ) ≤ 255 * 64
    got_place l = mul-le-mul {n₂ = 255} {m₂ = 64} (omega (arith, div-le_self first (group_size κ))) fits

    pub got_first : (p word x have : ℕ) → have + first % group_size κ ≡ group_size κ → have ≤ 8 → p ≡ first / group_size κ * sequence_bits κ b (group_size κ) → word ≡ field s p 64 → x ≡ group_numbers κ b word
        → Got p (x / 2 ^ (8 * (first % group_size κ))) have
    unfolding field
    got_first p word x have eh hh ep ew ex =
        let g = first / group_size κ in
        let k = first % group_size κ in
        let n : first + have ≡ (g + 1) * group_size κ = omega (arith, div-add-mod' first (group_size κ), add-mul g 1 (group_size κ)) in
        let q : (first + have) / group_size κ ≡ g + 1 = rw n (mul-div_left (g + 1) (size_pos κ)) in
        record {
          whole = rw q (sym n);
          place = rw (q, ep) (omega (arith, add-mul g 1 (sequence_bits κ b (group_size κ))));
          held =
              let e : group_size κ ≡ k + have = omega arith in
              let y : x ≡ bytes (λ j. number κ b s (g * group_size κ + j)) (k + have) = group g ep ew ex ∙ ap (bytes (λ j. number κ b s (g * group_size κ + j))) e in
              let z : x / 2 ^ (8 * k) ≡ bytes wanted have =
              ap (λ (m : ℕ). m / 2 ^ (8 * k)) y ∙ rest (λ j. number κ b s (g * group_size κ + j)) (λ i. number_byte κ b s narrow (g * group_size κ + i)) k have
              ∙ stream_ext (λ k. 8 * k) _ wanted have (λ j h. ap (number κ b s) (omega (arith, div-add-mod' first (group_size κ)))) in
              let l : bytes wanted have < 2 ^ 64 = lt_of_lt_of_le (bytes_lt wanted small have) (pow_mono {i = 8 * have} {j = 64} (omega arith)) in
              z ∙ sym (rw (div-one (bytes wanted have)) (mod-eq_of_lt l));
        }

    module _ (p out have : ℕ) (t : Got p out have) (h : have < 8) where
      pub got_near : first < 256 → p + sequence_bits κ b (group_size κ) ≤ 264 * 64
      got_near l =
          let m : (first + have) / group_size κ ≤ first + have = div-le_self (first + have) (group_size κ) in
          let n : (first + have) / group_size κ * sequence_bits κ b (group_size κ) ≤ 264 * 64 = mul-le-mul {n₂ = 264} {m₂ = 64} (omega arith) fits in
          omega (arith, t.place, n)

      module _ (word x : ℕ) (ew : word ≡ field s (p + sequence_bits κ b (group_size κ)) 64) (ex : x ≡ group_numbers κ b word) where
        next : x ≡ bytes (λ j. wanted (have + j)) (group_size κ)
        next =
            group ((first + have) / group_size κ) t.place ew ex
            ∙ stream_ext (λ k. 8 * k) _ (λ j. wanted (have + j)) (group_size κ) (λ j l. ap (number κ b s) (omega (arith, t.whole)))

        pub got_room : out + x * 2 ^ (8 * have) % 2 ^ 64 < 2 ^ 64
        got_room = rw next (above wanted small have (group_size κ) out h t.held).0

        pub got_more : Got (p + sequence_bits κ b (group_size κ)) (out + x * 2 ^ (8 * have) % 2 ^ 64) (have + group_size κ)
        got_more =
            let q : (first + (have + group_size κ)) / group_size κ ≡ (first + have) / group_size κ + 1 = rw (sym (add_assoc first have (group_size κ))) (add-div_right (first + have) (size_pos κ)) in
            record {
              whole = rw q (omega (arith, t.whole, add-mul ((first + have) / group_size κ) 1 (group_size κ)));
              place = rw q (omega (arith, t.place, add-mul ((first + have) / group_size κ) 1 (sequence_bits κ b (group_size κ))));
              held = rw next (above wanted small have (group_size κ) out h t.held).1;
            }

    pub got_all : (p out have n : ℕ) → n ≤ have → n ≤ 8 → Got p out have → Eight n wanted (record { 0 = out })
    unfolding field
    got_all p out have n h l t = record {
      at = λ j m.
          rw t.held
          (field_in (bytes wanted have) 0 64 (8 * j) 8 (omega arith) ∙ ap (λ (k : ℕ). field (bytes wanted have) k 8) (zero-add (8 * j))
          ∙ stream_at (λ k. 8 * k) (λ k. 8) (λ i. omega arith) wanted small have j (omega arith));
    }
