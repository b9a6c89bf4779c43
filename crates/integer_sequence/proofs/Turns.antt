-- A sequence read from the front, a whole group at each turn: what holds between two turns, for every encoding.
-- Assumes nothing.
use mathlib.Core.Path.{◌≡◌, sym, ap, ◌∙◌, subst}
use mathlib.Core.List.{List}
use mathlib.Core.Logic.{◌⊎◌, ⊎_elim}
use Prim.Native.Nat.{ℕ, ◌+◌, ◌*◌, ◌/◌, ◌%◌, ◌^◌, ◌≤◌, ◌<◌, min}
use native.Mathlib.Nat.{zero-div, zero-mul, div-one}
use native.Mathlib.Omega.{arith}
use lib.Pow.{shr-shr}
use lib.ListN.{set}
use Rattle.laws.specs.Table.{tab, padded}
use Rattle.laws.proofs.Filling.{padded_none, padded_more}
use Rattle.bits.specs.Field.{field}
use Rattle.bits.specs.Block.{block_number}
use Rattle.bits.specs.declared.PhysicalBlock.{PhysicalBlock}
use Rattle.encoding.specs.declared.Encoding.{Encoding}
use Rattle.encoding.specs.declared.Encoding.TheVariants.{Bits, Trits, Quints}
use Rattle.encoding.specs.Encoding.{group_size, sequence_bits}
use Rattle.integer_sequence.specs.inner.Entries.{group_numbers}
use Rattle.integer_sequence.specs.Reading.{number}
use Rattle.integer_sequence.specs.inner.Sequences.{Narrow}
use Rattle.integer_sequence.proofs.Places.{bits_zero}
use Rattle.integer_sequence.proofs.Groups.{place_group, number_in, in_group}

-- whole groups, and one more
pub groups_next : (κ : Encoding) (i : ℕ) → i / group_size κ * group_size κ ≡ i → (i + group_size κ) / group_size κ * group_size κ ≡ i + group_size κ
groups_next Bits i h = omega arith
groups_next Trits i h = omega arith
groups_next Quints i h = omega arith

place_none : (κ : Encoding) (b : ℕ) → sequence_bits κ b 0 ≡ 0
unfolding sequence_bits
place_none κ b = omega (arith, zero-mul b, bits_zero κ)

-- of each number an element is kept, `none` where there is no number
module _ {A : Type 0} (element : ℕ → A) (none : A) (κ : Encoding) (b s n : ℕ) where
  -- those of the first i numbers, of n
  abbrev pub so_far : ℕ → List A
  so_far i = padded 64 (min i n) (λ k. element (number κ b s k)) none

  -- before the turn for number i, which begins a group: the numbers so far, and the rest of the sequence
  pub record Turn (i : ℕ) (out : List A) (rest : PhysicalBlock) : Type 0 where
    pub whole : i / group_size κ * group_size κ ≡ i
    pub done : out ≡ so_far i
    pub left : block_number rest ≡ s / 2 ^ sequence_bits κ b i

  pub turn_first : {out : List A} {rest : PhysicalBlock} → out ≡ tab (λ k. none) 64 → block_number rest ≡ s → Turn 0 out rest
  turn_first e f = record {
    whole = rw (zero-div (group_size κ)) (zero-mul (group_size κ));
    done = e ∙ sym (padded_none _ none 64) ∙ ap (λ (m : ℕ). padded 64 m (λ k. element (number κ b s k)) none) (omega arith);
    left = f ∙ rw (place_none κ b) (sym (div-one s));
  }

  -- number k of the group, from the first word of the rest
  pub turn_number : {i m word : ℕ} {out : List A} {rest : PhysicalBlock} → sequence_bits κ b (group_size κ) ≤ 64 → word ≡ field (block_number rest) 0 64 → Turn i out rest
      → (k : ℕ) → k < group_size κ → m ≡ i + k → number κ b word k ≡ number κ b s m
  unfolding field
  turn_number {i} {m} {word} {out} {rest} h e t k l q =
      let g : field s (sequence_bits κ b (i / group_size κ * group_size κ)) 64 ≡ word = rw (t.whole, e, t.left, div-one (s / 2 ^ sequence_bits κ b i)) in
      let f : i / group_size κ * group_size κ + k ≡ m = omega (arith, t.whole) in
      ap (λ (w : ℕ). number κ b w k) (sym g) ∙ sym (number_in κ b s (i / group_size κ) h k l) ∙ ap (number κ b s) f

  -- the same from the numbers of that word's group
  pub turn_element : {i m word x : ℕ} {out : List A} {rest : PhysicalBlock} → Narrow κ b → sequence_bits κ b (group_size κ) ≤ 64 → word ≡ field (block_number rest) 0 64
      → Turn i out rest → x ≡ group_numbers κ b word → (k : ℕ) → k < group_size κ → m ≡ i + k → x / 2 ^ (8 * k) % 256 ≡ number κ b s m
  turn_element {word = word} w h e t g k l q = in_group κ b word w g k l ∙ turn_number h e t k l q

  -- number k is put in its place where it is one of the n
  pub put : {k m : ℕ} {x : A} {out new : List A} → n ≤ 64 → out ≡ so_far k → x ≡ element (number κ b s k) → m ≡ k + 1 → k < n → new ≡ set out k x → new ≡ so_far m
  put {k} {m} {x} {out} h e f q l g =
      let a : min k n ≡ k = omega arith in
      let z : min m n ≡ k + 1 = omega arith in
      g ∙ rw (e, a, z) (padded_more (λ j. element (number κ b s j)) none 64 k x (omega arith) f)

  pub put_if : {P Q : Type 0} {k m : ℕ} {x : A} {out new : List A} → (P → k < n) → (Q → n ≤ k) → n ≤ 64 → out ≡ so_far k → x ≡ element (number κ b s k) → m ≡ k + 1
      → (P × (new ≡ set out k x)) ⊎ (Q × (new ≡ out)) → new ≡ so_far m
  put_if {P} {Q} {k} {m} l r h e f q = ⊎_elim (λ w. put h e f q (l w.0) w.1) (λ w. w.1 ∙ e ∙ past (r w.0))
    where
      past : n ≤ k → so_far k ≡ so_far m
      past g = let z : min k n ≡ min m n = omega arith in rw z

  pub turn_next : {i step : ℕ} {rest more : PhysicalBlock} {out new : List A} → Turn i out rest → step ≡ sequence_bits κ b (group_size κ)
      → new ≡ so_far (i + group_size κ) → block_number more ≡ block_number rest / 2 ^ step
      → Turn (i + group_size κ) new more
  turn_next {i} {step} {rest} {more} t e f m = record {
    whole = groups_next κ i t.whole;
    done = f;
    left =
        let p : sequence_bits κ b (i + group_size κ) ≡ sequence_bits κ b i + step = rw e (subst (λ (j : ℕ). sequence_bits κ b (j + group_size κ) ≡ sequence_bits κ b j + sequence_bits κ b (group_size κ)) t.whole (place_group κ b (i / group_size κ) (group_size κ))) in
        rw (m, t.left, p) (shr-shr s (sequence_bits κ b i) step);
  }

  pub turn_last : {i : ℕ} {out : List A} {rest : PhysicalBlock} → n ≤ i → Turn i out rest → out ≡ padded 64 n (λ k. element (number κ b s k)) none
  turn_last {i} h t = let z : min i n ≡ n = omega arith in t.done ∙ rw z
