-- The bits of one group, whole or cut: the sequence of its numbers alone.
-- Assumes nothing.
use mathlib.Core.Path.{◌≡◌, sym, ap, ◌∙◌}
use mathlib.Core.Logic.{◌⊎◌, inl, inr, ⊎_elim}
use mathlib.Core.Bool.{Bool}
use mathlib.Core.List.{List, [], ◌∷◌, map}
use Prim.Native.Nat.{ℕ, zero, suc, ◌+◌, ◌-◌, ◌*◌, ◌/◌, ◌%◌, ◌^◌, ◌≤◌, ◌<◌}
use native.Mathlib.Nat.{zero-mul, zero-mod, add-zero, add-suc, div-eq_of_lt, mod-eq_of_lt, lt_of_lt_of_le, lt_of_not-le}
use native.Mathlib.Decide.{dec_le}
use native.Mathlib.Omega.{arith}
use lib.Dec.{T, eqb, eqb→eq}
use lib.ListN.{length, get_or, take, length-take, length-map}
use lib.Pow.{pow_mono}
use lib.Seq.{get_or-take, take_all}
use Rattle.laws.specs.Choice.{all}
use Rattle.laws.proofs.Computed.{each}
use Rattle.bits.specs.Field.{field, stream}
use Rattle.bits.proofs.Fields.{field_past, field_none, stream_ext}
use Rattle.encoding.specs.declared.Encoding.{Encoding}
use Rattle.encoding.specs.declared.Encoding.TheVariants.{Bits, Trits, Quints}
use Rattle.encoding.specs.Encoding.{group_size, radix, code_bits, sequence_bits}
use Rattle.integer_sequence.specs.Reading.{share_bits}
use Rattle.integer_sequence.specs.Writing.{code_of, digits_of, group_code, item, packed}
use Rattle.integer_sequence.proofs.Codes.{Below, code_lt}
use Rattle.integer_sequence.proofs.Places.{code_mono}
use Rattle.smallest_codes.proofs.Entries.{below_none, below_more, no_code}
use Rattle.sequence_words.specs.inner.Words.{piece, group_word, Absent}

-- ---- shares of a code past the digits that are there

-- a digit that is out of range
record Out (r : ℕ) (ds : List ℕ) : Type 0 where
  place : ℕ
  inside : place < length ds
  above : r ≤ get_or ds place 0

in_or_out : (r : ℕ) (ds : List ℕ) → Below r ds ⊎ Out r ds
in_or_out r [] = inl (below_none r)
in_or_out r (d ∷ ds) = elim (dec_le r d) [
  | yes h ↦ inr (record { place = 0; inside = omega arith; above = h })
  | no h ↦ ⊎_elim (λ b. inl (below_more r d ds (lt_of_not-le h) b))
      (λ o. inr (record { place = suc o.place; inside = let l = o.inside in omega arith; above = o.above })) (in_or_out r ds)
]

none : Encoding → ℕ → Bool
unfolding field
none κ k = eqb (field 256 (code_bits κ k) (share_bits κ k)) 0

none_trits : T (all (none Trits) 5)
unfolding none
none_trits = tt

none_quints : T (all (none Quints) 3)
unfolding none
none_quints = tt

share_256 : (κ : Encoding) (k : ℕ) → k < group_size κ → field 256 (code_bits κ k) (share_bits κ k) ≡ 0
unfolding none
share_256 Bits k h = field_none 256 0
share_256 Trits k h = eqb→eq _ _ (each (none Trits) 5 none_trits k h)
share_256 Quints k h = eqb→eq _ _ (each (none Quints) 3 none_quints k h)

share_past : (κ : Encoding) (ds : List ℕ) (k : ℕ) → length ds ≤ k → k < group_size κ → field (code_of κ ds) (code_bits κ k) (share_bits κ k) ≡ 0
share_past κ ds k l h =
    ⊎_elim (λ b. field_past (code_of κ ds) (code_bits κ k) (share_bits κ k) (lt_of_lt_of_le (code_lt κ ds (omega arith) b) (pow_mono (code_mono κ k (length ds) l))))
    (λ o. let i = o.inside in ap (λ (c : ℕ). field c (code_bits κ k) (share_bits κ k)) (sym (no_code κ ds o.place i (omega arith) o.above)) ∙ share_256 κ k h)
    (in_or_out (radix κ) ds)

-- ---- a group by itself

module _ (κ : Encoding) (b : ℕ) (xs : List ℕ) (small : length xs ≤ group_size κ) where
  -- its code
  pub code_alone : group_code κ b xs 0 ≡ code_of κ (map (λ x. x / 2 ^ b) xs)
  unfolding group_code digits_of
  code_alone = rw (zero-mul (group_size κ)) (ap (λ (l : List ℕ). code_of κ (map (λ x. x / 2 ^ b) l)) (take_all (group_size κ) xs small))

  pub item_alone : (k : ℕ) → k < length xs → item κ b xs k ≡ piece κ b (code_of κ (map (λ x. x / 2 ^ b) xs)) xs k
  unfolding item piece
  item_alone k h =
      let l : k < group_size κ = omega arith in
      rw (div-eq_of_lt l, mod-eq_of_lt l, code_alone)

  pub word_alone : {code : ℕ} → code ≡ code_of κ (map (λ x. x / 2 ^ b) xs) → group_word κ b code xs (length xs) ≡ packed κ b xs
  unfolding group_word packed
  word_alone e = rw e (stream_ext (sequence_bits κ b) _ _ (length xs) (λ k h. sym (item_alone k h)))

stream_short : (pos v : ℕ → ℕ) (m d : ℕ) → ((k : ℕ) → m ≤ k → k < m + d → v k ≡ 0) → stream pos v (m + d) ≡ stream pos v m
unfolding stream
stream_short pos v m zero h = rw (add-zero m)
stream_short pos v m (suc d) h =
    rw (add-suc m d, h (m + d) (omega arith) (omega arith), stream_short pos v m d (λ k l q. h k l (omega arith))) (omega (arith, zero-mul (2 ^ pos (m + d))))

-- a cut group, of which the first m numbers are there: what is not there takes no bits
module _ (κ : Encoding) (b m : ℕ) (xs : List ℕ) (some : m ≤ group_size κ) (there : m ≤ length xs) (absent : Absent m xs) where
  len : length (take m xs) ≡ m
  len = simp length-take (omega arith)

  piece_past : (code : ℕ) → code ≡ code_of κ (map (λ x. x / 2 ^ b) (take m xs)) → (k : ℕ) → m ≤ k → k < group_size κ → piece κ b code xs k ≡ 0
  unfolding piece
  piece_past code e k l h =
      rw (e, share_past κ (map (λ x. x / 2 ^ b) (take m xs)) k (omega (arith, len, length-map (take m xs) (λ x. x / 2 ^ b))) h, absent k l, zero-mod) (omega (arith, zero-mul (2 ^ b)))

  piece_taken : (code k : ℕ) → k < m → piece κ b code xs k ≡ piece κ b code (take m xs) k
  unfolding piece
  piece_taken code k h = rw (get_or-take m xs k 0 h)

  pub word_cut : {code size : ℕ} → size ≡ group_size κ → code ≡ code_of κ (map (λ x. x / 2 ^ b) (take m xs)) → group_word κ b code xs size ≡ packed κ b (take m xs)
  unfolding group_word
  word_cut {code} {size} s e =
      let d : size ≡ m + (size - m) = omega (arith, s) in
      ap (stream (sequence_bits κ b) (piece κ b code xs)) d
      ∙ stream_short (sequence_bits κ b) (piece κ b code xs) m (size - m) (λ k l q. piece_past code e k l (omega (arith, s)))
      ∙ stream_ext (sequence_bits κ b) _ _ m (piece_taken code)
      ∙ ap (stream (sequence_bits κ b) (piece κ b code (take m xs))) (sym len)
      ∙ word_alone κ b (take m xs) (omega (arith, len)) e

-- ---- a group from its parts

module _ (κ : Encoding) (b code : ℕ) (xs : List ℕ) where
  -- number k, laid at its place
  pub piece_laid : (k p : ℕ) {share x r : ℕ} → r ≡ (share * 2 ^ b + x % 2 ^ b) * 2 ^ p → share ≡ field code (code_bits κ k) (share_bits κ k) → x ≡ get_or xs k 0
      → p ≡ sequence_bits κ b k → r ≡ piece κ b code xs k * 2 ^ sequence_bits κ b k
  unfolding piece
  piece_laid k p e es ex ep = rw (e, es, ex, ep)

  pub five_laid : {r0 r1 r2 r3 r4 : ℕ} → r0 ≡ piece κ b code xs 0 * 2 ^ sequence_bits κ b 0 → r1 ≡ piece κ b code xs 1 * 2 ^ sequence_bits κ b 1
      → r2 ≡ piece κ b code xs 2 * 2 ^ sequence_bits κ b 2 → r3 ≡ piece κ b code xs 3 * 2 ^ sequence_bits κ b 3 → r4 ≡ piece κ b code xs 4 * 2 ^ sequence_bits κ b 4
      → r4 + (r3 + (r2 + (r1 + r0))) ≡ group_word κ b code xs 5
  unfolding group_word stream
  five_laid e0 e1 e2 e3 e4 = rw (e0, e1, e2, e3, e4, add-zero)

  pub three_laid : {r0 r1 r2 : ℕ} → r0 ≡ piece κ b code xs 0 * 2 ^ sequence_bits κ b 0 → r1 ≡ piece κ b code xs 1 * 2 ^ sequence_bits κ b 1
      → r2 ≡ piece κ b code xs 2 * 2 ^ sequence_bits κ b 2 → r2 + (r1 + r0) ≡ group_word κ b code xs 3
  unfolding group_word stream
  three_laid e0 e1 e2 = rw (e0, e1, e2, add-zero)
