-- What was packed is read back: once, over the kind, the bits and the numbers.
-- Assumes nothing.
use mathlib.Core.Path.{◌≡◌, sym, ap, ◌∙◌}
use mathlib.Core.List.{List}
use Prim.Native.Nat.{ℕ, ◌+◌, ◌-◌, ◌*◌, ◌/◌, ◌%◌, ◌^◌, ◌≤◌, ◌<◌, min}
use native.Mathlib.Nat.{lt_of_not-le, lt_of_lt_of_le, mod-lt, mod-eq_of_lt, div-add-mod', div-lt_iff_lt-mul, zero-div}
use native.Mathlib.Decide.{dec_le}
use native.Mathlib.Omega.{arith}
use lib.Arith.{digits_lt, digits_div, digits_mod}
use lib.Pow.{pow_pos, pow-add, pow_mono, high, low}
use lib.ListN.{length, take, drop, get_or, length-map, length-take, length-drop, get_or-map}
use lib.Seq.{get_or-take, get_or-drop}
use Rattle.bits.specs.Field.{field}
use Rattle.encoding.specs.declared.Encoding.{Encoding}
use Rattle.encoding.specs.Encoding.{group_size, radix, code_bits, sequence_bits}
use Rattle.encoding.proofs.Laws.{size_pos}
use Rattle.integer_sequence.specs.Codes.{digit}
use Rattle.integer_sequence.specs.Reading.{share_bits, share, code_at, number, sequence_at}
use Rattle.integer_sequence.specs.Writing.{digits_of, group_code, item, packed, InRange}
use Rattle.integer_sequence.specs.RoundTrip.{PackedReadBack}
use Rattle.integer_sequence.proofs.Codes.{Below, code_lt, code_digit}
use Rattle.integer_sequence.proofs.Places.{bits_zero, bits_next, share_group, code_mono, place_next}
use Rattle.bits.proofs.Fields.{field_lt, field_past, field_low, field_high, stream_ext, restream, stream_lt, stream_at, pos_mono}

module _ (κ : Encoding) (b : ℕ) (xs : List ℕ) where
  pub item_lt : (i : ℕ) → item κ b xs i < 2 ^ (share_bits κ i + b)
  unfolding item
  item_lt i = rw pow-add (digits_lt (field_lt _ _ (share_bits κ i)) (mod-lt (get_or xs i 0) (pow_pos b)))

  -- so many bits, and no more
  pub packed_lt : packed κ b xs < 2 ^ sequence_bits κ b (length xs)
  unfolding packed
  packed_lt = stream_lt (sequence_bits κ b) (λ i. share_bits κ i + b) (place_next κ b) (item κ b xs) item_lt (length xs)

  item_at : (i : ℕ) → i < length xs → field (packed κ b xs) (sequence_bits κ b i) (share_bits κ i + b) ≡ item κ b xs i
  unfolding packed
  item_at i h = stream_at (sequence_bits κ b) (λ i. share_bits κ i + b) (place_next κ b) (item κ b xs) item_lt (length xs) i h

  low_at : (i : ℕ) → i < length xs → field (packed κ b xs) (sequence_bits κ b i) b ≡ get_or xs i 0 % 2 ^ b
  unfolding item
  low_at i h = sym (field_low _ _ (share_bits κ i) b) ∙ ap (λ (x : ℕ). x % 2 ^ b) (item_at i h) ∙ low _ b (mod-lt (get_or xs i 0) (pow_pos b))

  share_at : (i : ℕ) → i < length xs → share κ b (packed κ b xs) i ≡ field (group_code κ b xs (i / group_size κ)) (code_bits κ (i % group_size κ)) (share_bits κ i)
  unfolding item share
  share_at i h = sym (field_high _ _ (share_bits κ i) b) ∙ ap (λ (x : ℕ). x / 2 ^ b) (item_at i h) ∙ high _ b (mod-lt (get_or xs i 0) (pow_pos b))

  share_past : (i : ℕ) → length xs ≤ i → share κ b (packed κ b xs) i ≡ 0
  unfolding share
  share_past i h =
      let m : sequence_bits κ b (length xs) ≤ sequence_bits κ b i = pos_mono (sequence_bits κ b) (λ i. share_bits κ i + b) (place_next κ b) i (length xs) h in
      field_past _ (sequence_bits κ b i + b) (share_bits κ i) (lt_of_lt_of_le packed_lt (pow_mono (omega arith)))

  -- the digits of group g, and how many there are
  abbrev digits : ℕ → List ℕ
  digits g = digits_of κ b xs g

  pub count : (g : ℕ) → length (digits g) ≡ min (group_size κ) (length xs - g * group_size κ)
  unfolding digits_of
  count g = rw length-map (simp (length-take, length-drop))

  pub digit_at : (g k : ℕ) → k < length (digits g) → get_or (digits g) k 0 ≡ get_or xs (g * group_size κ + k) 0 / 2 ^ b
  unfolding digits_of
  digit_at g k h =
      let l : k < group_size κ = omega (arith, count g) in
      let z : 0 / 2 ^ b ≡ 0 = zero-div (2 ^ b) in
      ap (get_or (digits g) k) (sym z) ∙ get_or-map (λ x. x / 2 ^ b) (take (group_size κ) (drop (g * group_size κ) xs)) k 0
      ∙ ap (λ (x : ℕ). x / 2 ^ b) (get_or-take (group_size κ) (drop (g * group_size κ) xs) k 0 l ∙ get_or-drop (g * group_size κ) xs k 0)

  module _ (fit : InRange κ b xs) where
    pub digits_below : (g : ℕ) → Below (radix κ) (digits g)
    digits_below g k h = rw digit_at ((div-lt_iff_lt-mul (pow_pos b)).1 (fit (g * group_size κ + k) (omega (arith, count g))))

    pub group_lt : (g : ℕ) → group_code κ b xs g < 2 ^ code_bits κ (length (digits g))
    unfolding group_code
    group_lt g = code_lt κ (digits g) (omega (arith, count g)) (digits_below g)

    -- each number's share of the code, of a whole group and of one that is cut
    share_is : (g k : ℕ) → k < group_size κ → share κ b (packed κ b xs) (g * group_size κ + k) ≡ field (group_code κ b xs g) (code_bits κ k) (share_bits κ k)
    share_is g k h = elim (dec_le (length xs) (g * group_size κ + k)) [ yes l ↦ past l | no l ↦ there (lt_of_not-le l) ]
      where
        past : length xs ≤ g * group_size κ + k → share κ b (packed κ b xs) (g * group_size κ + k) ≡ field (group_code κ b xs g) (code_bits κ k) (share_bits κ k)
        past l =
            share_past (g * group_size κ + k) l
            ∙ sym (field_past _ (code_bits κ k) (share_bits κ k) (lt_of_lt_of_le (group_lt g) (pow_mono (code_mono κ k (length (digits g)) (omega (arith, count g))))))

        there : g * group_size κ + k < length xs → share κ b (packed κ b xs) (g * group_size κ + k) ≡ field (group_code κ b xs g) (code_bits κ k) (share_bits κ k)
        there l = share_at (g * group_size κ + k) l ∙ rw (digits_div g h, digits_mod g h, share_group κ g k)

    -- bits past the end being 0, the code that is read is the code that was written
    pub code_is : (g : ℕ) → code_at κ b (packed κ b xs) g ≡ group_code κ b xs g
    unfolding code_at
    code_is g =
        stream_ext (code_bits κ) _ _ (group_size κ) (share_is g)
        ∙ restream (code_bits κ) (share_bits κ) (bits_next κ) (bits_zero κ) (group_code κ b xs g) (group_size κ)
        ∙ mod-eq_of_lt (lt_of_lt_of_le (group_lt g) (pow_mono (code_mono κ (group_size κ) (length (digits g)) (omega (arith, count g)))))

    pub digit_is : (i : ℕ) → i < length xs → digit κ (group_code κ b xs (i / group_size κ)) (i % group_size κ) ≡ get_or xs i 0 / 2 ^ b
    unfolding group_code
    digit_is i h =
        let e : i / group_size κ * group_size κ + i % group_size κ ≡ i = div-add-mod' i (group_size κ) in
        let m : i % group_size κ < group_size κ = mod-lt i (size_pos κ) in
        let l : i % group_size κ < length (digits (i / group_size κ)) = omega (arith, count (i / group_size κ)) in
        code_digit κ (digits (i / group_size κ)) (omega (arith, count (i / group_size κ))) (digits_below (i / group_size κ)) (i % group_size κ) l
        ∙ digit_at (i / group_size κ) (i % group_size κ) l ∙ ap (λ (j : ℕ). get_or xs j 0 / 2 ^ b) e

    pub round_trip : (i : ℕ) → i < length xs → number κ b (packed κ b xs) i ≡ get_or xs i 0
    unfolding number
    round_trip i h = rw (code_is (i / group_size κ), digit_is i h, low_at i h) (div-add-mod' (get_or xs i 0) (2 ^ b))

-- THE ROUND TRIP (specs/RoundTrip.antt)
pub round_trip_at : PackedReadBack
unfolding sequence_at field
round_trip_at κ b xs fit hi lo from h i l =
    rw (high (hi * 2 ^ sequence_bits κ b (length xs) + packed κ b xs) from h, low hi (sequence_bits κ b (length xs)) (packed_lt κ b xs)) (round_trip κ b xs fit i l)
