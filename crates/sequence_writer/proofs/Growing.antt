-- A sequence in a block as it grows, some numbers at a time.
-- Assumes nothing.
use mathlib.Core.Path.{◌≡◌, refl, sym, ap, ◌∙◌, subst}
use mathlib.Core.List.{List, map}
use Prim.Native.Nat.{ℕ, zero, suc, ◌+◌, ◌-◌, ◌*◌, ◌/◌, ◌%◌, ◌^◌, ◌≤◌, ◌<◌, min}
use native.Mathlib.Nat.{zero-mul, zero-div, add-zero, add-suc, add_comm, add-mul, mul_assoc, mul_comm, mul-le-mul, mod-mod, mod-le, add-mod-mod, lt_of_le_of_lt, min-eq_left, min-eq_right}
use native.Mathlib.Decide.{dec_le}
use native.Mathlib.Omega.{arith}
use lib.Arith.{digits_lt, digits_div, digits_mod}
use lib.ListN.{length, get_or, take, drop, length-take, length-drop}
use lib.Pow.{pow-add}
use lib.Seq.{ext_get_or, get_or-take, get_or-drop, take_all}
use Rattle.bits.specs.Field.{field, stream}
use Rattle.bits.proofs.Fields.{field_lt, field_none, stream_lt}
use Rattle.encoding.specs.declared.Encoding.{Encoding}
use Rattle.encoding.specs.declared.Encoding.TheVariants.{Bits}
use Rattle.encoding.specs.declared.Stored.{Stored}
use Rattle.encoding.specs.Encoding.{group_size, sequence_bits}
use Rattle.encoding.proofs.Laws.{code_le}
use Rattle.integer_sequence.specs.Reading.{share_bits}
use Rattle.integer_sequence.specs.Writing.{code_of, digits_of, group_code, item, packed, values}
use Rattle.integer_sequence.specs.inner.Sequences.{with_sequence}
use Rattle.integer_sequence.proofs.Places.{share_group, place_next}
use Rattle.integer_sequence.proofs.Groups.{place_group}
use Rattle.integer_sequence.proofs.RoundTrip.{item_lt}
use Rattle.integer_sequence.proofs.Search.{append_next}
use Rattle.integer_sequence.proofs.Turns.{groups_next}
use Rattle.sequence_words.specs.inner.Words.{piece}
use Rattle.sequence_words.proofs.Words.{item_alone}
use Rattle.sequence_words.proofs.Numbers.{values_length, written_length}

-- where number i begins, for numbers of at most 8 bits, at most 64 of them
pub place_le : (κ : Encoding) (b i : ℕ) → b ≤ 8 → i ≤ 64 → sequence_bits κ b i ≤ 1024
unfolding sequence_bits
place_le κ b i h l = let m : i * b ≤ 64 * 8 = mul-le-mul {n₂ = 64} {m₂ = 8} l h in omega (arith, code_le κ i)

-- more than 64 numbers count as 64
pub values_cap : (xs : List Stored) (n : ℕ) → length xs ≡ 64 → take (min n 64) (values xs) ≡ take n (values xs)
values_cap xs n e = elim (dec_le n 64) [
  | yes h ↦ ap (λ (k : ℕ). take k (values xs)) (min-eq_left h)
  | no h ↦ ap (λ (k : ℕ). take k (values xs)) (min-eq_right {n = 64} {m = n} (omega arith)) ∙ take_all 64 (values xs) (omega (arith, l)) ∙ sym (take_all n (values xs) (omega (arith, l)))
]
  where
    l : length (values xs) ≡ 64
    l = values_length xs e

nothing : (x y : ℕ) → 0 * x + y ≡ y
nothing x y = omega (arith, zero-mul x)

raised : (s p u f y : ℕ) {x t : ℕ} → x ≡ s * p * f → t ≡ s * p + u → x + (u * f + y) ≡ t * f + y
raised s p u f y e q = rw (e, q, add-mul (s * p) u f) (omega arith)

module _ (κ : Encoding) (b : ℕ) (xs : List ℕ) where
  -- the numbers v 0, v 1, .., m of them, follow number i: as a sequence of their own
  pub record Follow (i m : ℕ) (v : ℕ → ℕ) : Type 0 where
    pub places : (k : ℕ) → k < m → sequence_bits κ b (i + k) ≡ sequence_bits κ b i + sequence_bits κ b k
    pub items : (k : ℕ) → k < m → v k ≡ item κ b xs (i + k)

  stream_more : (v : ℕ → ℕ) (i m : ℕ) → Follow i m v
      → stream (sequence_bits κ b) (item κ b xs) (i + m) ≡ stream (sequence_bits κ b) v m * 2 ^ sequence_bits κ b i + stream (sequence_bits κ b) (item κ b xs) i
  unfolding stream
  stream_more v i zero f = rw (add-zero i) (sym (nothing (2 ^ sequence_bits κ b i) _))
  stream_more v i (suc m) f =
      let P = 2 ^ sequence_bits κ b i in
      let Q = 2 ^ sequence_bits κ b m in
      let S = stream (sequence_bits κ b) v m in
      let ih : stream (sequence_bits κ b) (item κ b xs) (i + m) ≡ S * P + stream (sequence_bits κ b) (item κ b xs) i =
      stream_more v i m (record { places = λ k l. f.places k (omega arith); items = λ k l. f.items k (omega arith) }) in
      let e : item κ b xs (i + m) * 2 ^ sequence_bits κ b (i + m) ≡ v m * Q * P =
      rw (← f.items m (omega arith), f.places m (omega arith), pow-add 2 (sequence_bits κ b i) (sequence_bits κ b m), mul_comm P Q) (sym (mul_assoc (v m) Q P)) in
      rw (add-suc i m) (omega (arith, e, ih, add-mul (v m * Q) S P))

  -- the first i numbers above v, which lies below bit `from`
  abbrev pub so_far : ℕ → ℕ → ℕ → ℕ
  so_far from v i = stream (sequence_bits κ b) (item κ b xs) i * 2 ^ from + v

  -- B is the block before, v what is left of it before the first number
  module _ (from B : ℕ) {v : ℕ} (bare : v ≡ (field B 0 from + 0 * 2 ^ from) % 2 ^ 128) where
    bare_lt : v < 2 ^ from
    bare_lt =
        rw bare
        (lt_of_le_of_lt (mod-le (field B 0 from + 0 * 2 ^ from) (2 ^ 128)) (let h : field B 0 from < 2 ^ from = field_lt B 0 from in omega (arith, zero-mul (2 ^ from))))

    so_far_lt : (i : ℕ) → so_far from v i < 2 ^ (from + sequence_bits κ b i)
    so_far_lt i =
        rw (add_comm from (sequence_bits κ b i), pow-add 2 (sequence_bits κ b i) from)
        (digits_lt (stream_lt (sequence_bits κ b) (λ i. share_bits κ i + b) (place_next κ b) (item κ b xs) (item_lt κ b xs) i) bare_lt)

    so_far_more : (u : ℕ → ℕ) (i m : ℕ) → Follow i m u → stream (sequence_bits κ b) u m * 2 ^ (from + sequence_bits κ b i) + so_far from v i ≡ so_far from v (i + m)
    so_far_more u i m f =
        let S = stream (sequence_bits κ b) u m in
        let P = 2 ^ sequence_bits κ b i in
        let e : S * 2 ^ (from + sequence_bits κ b i) ≡ S * P * 2 ^ from =
        rw (add_comm from (sequence_bits κ b i), pow-add 2 (sequence_bits κ b i) from) (sym (mul_assoc S P (2 ^ from))) in
        raised S P (stream (sequence_bits κ b) (item κ b xs) i) (2 ^ from) v e (stream_more u i m f)

    pub write_start : v ≡ so_far from v 0 % 2 ^ 128
    unfolding stream
    write_start =
        sym (ap (λ (n : ℕ). n % 2 ^ 128) (nothing (2 ^ from) v) ∙ rw bare (mod-mod (field B 0 from + 0 * 2 ^ from) (2 ^ 128)))

    pub write_more : (u : ℕ → ℕ) (i m : ℕ) {out at word next : ℕ} → Follow i m u → next ≡ (field out 0 at + word * 2 ^ at) % 2 ^ 128 → out ≡ so_far from v i % 2 ^ 128
        → at ≡ from + sequence_bits κ b i → word ≡ stream (sequence_bits κ b) u m → next ≡ so_far from v (i + m) % 2 ^ 128
    write_more u i m f en eo ea ew =
        rw (en, eo, ea, ew)
        (append_next (so_far from v i) (stream (sequence_bits κ b) u m) (from + sequence_bits κ b i) (so_far_lt i)
        ∙ ap (λ (n : ℕ). n % 2 ^ 128) (so_far_more u i m f))

    pub write_done : {i out : ℕ} → out ≡ so_far from v i % 2 ^ 128 → i ≡ length xs → out ≡ with_sequence κ b B from xs
    unfolding with_sequence packed
    write_done e q =
        rw (e, q, bare)
        (add-mod-mod (packed κ b xs * 2 ^ from) (field B 0 from + 0 * 2 ^ from) (2 ^ 128)
        ∙ ap (λ (n : ℕ). n % 2 ^ 128) (let z : packed κ b xs * 2 ^ from + (field B 0 from + 0 * 2 ^ from) ≡ field B 0 from + packed κ b xs * 2 ^ from = omega (arith, zero-mul (2 ^ from)) in z))

-- ---- a group follows whole groups

module _ (κ : Encoding) (b : ℕ) (xs : List ℕ) (i m : ℕ) (ys : List ℕ) (whole : i / group_size κ * group_size κ ≡ i) (group : take (group_size κ) (drop i xs) ≡ ys)
    (len : length ys ≡ m) where
  small : m ≤ group_size κ
  small = rw (← len, ← group) (simp length-take (omega arith))

  value : (k : ℕ) → k < m → get_or ys k 0 ≡ get_or xs (i / group_size κ * group_size κ + k) 0
  value k h = rw (whole, ← group) (get_or-take (group_size κ) (drop i xs) k 0 (omega (arith, small)) ∙ get_or-drop i xs k 0)

  group_is : take (group_size κ) (drop (i / group_size κ * group_size κ) xs) ≡ ys
  group_is = rw whole group

  piece_here : (k : ℕ) → k < group_size κ → get_or ys k 0 ≡ get_or xs (i / group_size κ * group_size κ + k) 0
      → piece κ b (code_of κ (map (λ x. x / 2 ^ b) ys)) ys k ≡ item κ b xs (i / group_size κ * group_size κ + k)
  unfolding item piece group_code digits_of
  piece_here k l value = rw (digits_div (i / group_size κ) l, digits_mod (i / group_size κ) l, share_group κ (i / group_size κ) k, group_is, value)

  item_here : (k : ℕ) → k < m → item κ b ys k ≡ item κ b xs (i + k)
  item_here k h =
      item_alone κ b ys (omega (arith, len, small)) k (omega (arith, len))
      ∙ piece_here k (omega (arith, small)) (value k h)
      ∙ ap (λ (j : ℕ). item κ b xs (j + k)) whole

  follows : Follow κ b xs i m (item κ b ys)
  follows = record {
    places = λ k h. subst (λ (j : ℕ). sequence_bits κ b (j + k) ≡ sequence_bits κ b j + sequence_bits κ b k) whole (place_group κ b (i / group_size κ) k);
    items = item_here;
  }

  word_is : {word : ℕ} → word ≡ packed κ b ys → word ≡ stream (sequence_bits κ b) (item κ b ys) m
  unfolding packed
  word_is e = e ∙ ap (stream (sequence_bits κ b) (item κ b ys)) len

  pub group_written : (from B : ℕ) {v out at word next : ℕ} → v ≡ (field B 0 from + 0 * 2 ^ from) % 2 ^ 128 → next ≡ (field out 0 at + word * 2 ^ at) % 2 ^ 128
      → out ≡ so_far κ b xs from v i % 2 ^ 128 → at ≡ from + sequence_bits κ b i → word ≡ packed κ b ys → next ≡ so_far κ b xs from v (i + m) % 2 ^ 128
  group_written from B bare en eo ea ew = write_more κ b xs from B bare (item κ b ys) i m follows en eo ea (word_is ew)

-- a whole group of the first n numbers is one of all
whole_taken : (size n i : ℕ) (xs : List ℕ) → i + size ≤ n → n ≤ length xs → (take size (drop i (take n xs)) ≡ take size (drop i xs)) × (length (take size (drop i xs)) ≡ size)
whole_taken size n i xs h l = (
  ext_get_or 0 _ _ (long ∙ sym whole)
      (λ k p. let q : k < size = omega (arith, long) in
      get_or-take size (drop i (take n xs)) k 0 q ∙ get_or-drop i (take n xs) k 0 ∙ get_or-take n xs (i + k) 0 (omega arith)
      ∙ sym (get_or-drop i xs k 0) ∙ sym (get_or-take size (drop i xs) k 0 q)),
  whole,
)
  where
    long : length (take size (drop i (take n xs))) ≡ size
    long = simp (length-take, length-drop) (omega arith)

    whole : length (take size (drop i xs)) ≡ size
    whole = simp (length-take, length-drop) (omega arith)

-- the last group, which is cut, has the numbers that are left
cut_length : (size n i : ℕ) (xs : List ℕ) → length xs ≡ n → n < i + size → length (take size (drop i xs)) ≡ n - i
cut_length size n i xs e h = simp (length-take, length-drop) (omega arith)

-- the place of the next group
place_more : (κ : Encoding) (b from i : ℕ) {at step : ℕ} → i / group_size κ * group_size κ ≡ i → at ≡ from + sequence_bits κ b i → step ≡ sequence_bits κ b (group_size κ)
    → at + step ≡ from + sequence_bits κ b (i + group_size κ)
place_more κ b from i whole ea es =
    let p : sequence_bits κ b (i + group_size κ) ≡ sequence_bits κ b i + sequence_bits κ b (group_size κ) =
    subst (λ (j : ℕ). sequence_bits κ b (j + group_size κ) ≡ sequence_bits κ b j + sequence_bits κ b (group_size κ)) whole (place_group κ b (i / group_size κ) (group_size κ)) in
    omega (arith, p, ea, es)

-- the first n of the block's 64 numbers, group by group: B is the block before, v what is left of it before the first number
module _ (κ : Encoding) (b n from : ℕ) (xs : List Stored) (v : ℕ) where
  -- the groups up to number i stand in `out`, which ends at bit `at`
  pub record Grown (out at i : ℕ) : Type 0 where
    pub most : i ≤ n
    pub whole : i / group_size κ * group_size κ ≡ i
    pub place : at ≡ from + sequence_bits κ b i
    pub held : out ≡ so_far κ b (take n (values xs)) from v i % 2 ^ 128

  module _ (B : ℕ) (bare : v ≡ (field B 0 from + 0 * 2 ^ from) % 2 ^ 128) where
    pub grown_none : Grown v from 0
    unfolding sequence_bits
    grown_none = record {
      most = omega arith;
      whole = rw (zero-div (group_size κ)) (zero-mul (group_size κ));
      place = omega (arith, zero-mul b, code_le κ 0);
      held = write_start κ b (take n (values xs)) from B bare;
    }

    module _ (few : n ≤ 64) (sized : length xs ≡ 64) (out at i : ℕ) (t : Grown out at i) where
      pub grown_near : b ≤ 8 → from ≤ 255 → at ≤ 1279
      grown_near h l = omega (arith, t.place, place_le κ b i h (omega (arith, t.most)))

      -- all are there
      pub grown_all : n ≤ i → out ≡ with_sequence κ b B from (take n (values xs))
      grown_all h = write_done κ b (take n (values xs)) from B bare t.held (omega (arith, t.most, written_length xs n sized few))

      module _ (word next : ℕ) (en : next ≡ (field out 0 at + word * 2 ^ at) % 2 ^ 128) where
        -- a whole group more
        pub grown_more : i + group_size κ ≤ n → word ≡ packed κ b (take (group_size κ) (drop i (values xs)))
            → Grown next (at + sequence_bits κ b (group_size κ)) (i + group_size κ)
        grown_more h ew =
            let group = whole_taken (group_size κ) n i (values xs) h (omega (arith, values_length xs sized)) in
            record {
              most = h;
              whole = groups_next κ i t.whole;
              place = place_more κ b from i t.whole t.place refl;
              held =
                  group_written κ b (take n (values xs)) i (group_size κ) (take (group_size κ) (drop i (values xs))) t.whole group.0 group.1
                  from B bare en t.held t.place ew;
            }

        -- the last group, cut
        pub grown_cut : n < i + group_size κ → word ≡ packed κ b (take (group_size κ) (drop i (take n (values xs))))
            → next ≡ with_sequence κ b B from (take n (values xs))
        grown_cut h ew =
            let ys = take n (values xs) in
            let len = written_length xs n sized few in
            write_done κ b ys from B bare
            (group_written κ b ys i (n - i) (take (group_size κ) (drop i ys)) t.whole refl (cut_length (group_size κ) n i ys len h)
            from B bare en t.held t.place ew)
            (omega (arith, len, t.most))

-- numbers without digits follow any number
pub bits_follow : (b : ℕ) (xs : List ℕ) (i m : ℕ) (v : ℕ → ℕ) → ((k : ℕ) → k < m → v k ≡ get_or xs (i + k) 0 % 2 ^ b) → Follow Bits b xs i m v
unfolding sequence_bits item
bits_follow b xs i m v h = record {
  places = λ k l. omega (arith, add-mul i k b);
  items = λ k l. h k l ∙ sym (rw field_none (nothing (2 ^ b) (get_or xs (i + k) 0 % 2 ^ b)));
}
