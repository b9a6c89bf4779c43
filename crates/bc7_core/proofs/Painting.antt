-- One texel after the other.
-- Assumes nothing.
use mathlib.Core.Path.{◌≡◌, sym, ap, ap₂, subst, ◌∙◌}
use mathlib.Core.Bool.{Bool}
use mathlib.Core.List.{List}
use Prim.Native.Nat.{ℕ, ◌+◌, ◌-◌, ◌*◌, ◌/◌, ◌%◌, ◌^◌, ◌≤◌, ◌<◌}
use native.Mathlib.Nat.{not-suc-le-zero}
use native.Mathlib.Decide.{dec_lt}
use native.Mathlib.Omega.{arith}
use lib.Dec.{eqb}
use lib.ListN.{length, set}
use lib.Seq.{get_or-set_same, get_or-set_other}
use Rattle.laws.specs.Choice.{pick}
use Rattle.laws.specs.Table.{tab}
use Rattle.laws.specs.inner.Filled.{Filled, put_four}
use Rattle.laws.proofs.Filling.{filled_four, filled_all, length_four, tab_ext}
use Rattle.bc7_layout.specs.Modes.{subsets, secondary_bits}
use Rattle.bc7_layout.specs.Partitions.{subset_of}
use Rattle.bc7_layout.specs.Layout.{mode_at, partition_field_at, field_at}
use Rattle.bc7_layout.specs.inner.Plan.{plan_of}
use Rattle.bc7_layout.proofs.Packing.{plan_subset}
use Rattle.bc7_layout.proofs.Tables.{subset_lt, subsets_most}
use Rattle.bc7_block.specs.Reading.{fault_of}
use Rattle.bc7_block.specs.Picture.{mixed, rotated, factor_of, end_channel, colour_factor, alpha_factor, mixed_at, texel_of, block_texel}
use Rattle.bc7_block.proofs.Demand.{read_partition, partition_lt}
use Rattle.bc7_block.proofs.Known.{reserved_mode, known-mode, sound}
use Rattle.bc7_ends.specs.inner.Lanes.{subset_line, Line255, sum_on, lane_byte}
use Rattle.bc7_ends.proofs.Places.{end_byte, turned_lt}
use Rattle.bc7_ends.proofs.Mixing.{mixed_byte, line_most}
use Rattle.bc7_core.specs.declared.IndexSet.{IndexSet}
use Rattle.bc7_core.specs.Bytes.{texel_bytes, shown_bytes}
use Rattle.bc7_core.specs.inner.Sets.{set_bits, rest_of, set_of, SetIn, behind_of, set_factor, Factors, SumShows}
use Rattle.bc7_core.proofs.Indices.{set_width, rest_index, rest_next, set_least, set_most, colour_by_set, alpha_by_set, same_set}

module _ (B plan : ℕ) (h : mode_at B < 8) (ep : plan ≡ plan_of (subsets (mode_at B)) (partition_field_at B)) (i : ℕ) (l : i < 16) where
  module _ (k : ℕ) (s : SetIn (mode_at B) k) (held : IndexSet) (es : held ≡ set_of B k i) where
    pub bits_least : 2 ≤ held.bits
    unfolding set_of
    bits_least = rw (ap (λ (x : IndexSet). x.bits) es) (set_least (mode_at B) h k s)

    pub bits_most : held.bits ≤ 4
    unfolding set_of
    bits_most = rw (ap (λ (x : IndexSet). x.bits) es) (set_most (mode_at B) h k s)

    module _ (short : ℕ) (esh : short ≡ plan / 2 ^ (32 + i) % 2) where
      pub factor_at_lem : (r : ℕ) → r ≡ factor_of held.bits (held.rest % 2 ^ (held.bits - short)) → r ≡ set_factor B k i
      unfolding set_of set_factor
      factor_at_lem r er =
          er ∙ (λ t. factor_of (es t).bits ((es t).rest % 2 ^ ((es t).bits - esh t)))
          ∙ ap (λ (w : ℕ). factor_of (set_bits (mode_at B) k) (rest_of B k i % 2 ^ w)) (set_width (mode_at B) (partition_field_at B) plan k i h s ep l)
          ∙ ap (factor_of (set_bits (mode_at B) k)) (rest_index B k plan h s ep i l)

      pub behind_is : behind_of held short ≡ set_of B k (i + 1)
      unfolding behind_of set_of
      behind_is =
          let q : rest_of B k i / 2 ^ (set_bits (mode_at B) k - plan / 2 ^ (32 + i) % 2) ≡ rest_of B k (i + 1) =
          ap (λ (w : ℕ). rest_of B k i / 2 ^ w) (set_width (mode_at B) (partition_field_at B) plan k i h s ep l) ∙ rest_next B k plan h s ep i l in
          (λ t. behind_of (es t) (esh t)) ∙ (λ t. record { first = k; bits = set_bits (mode_at B) k; rest = q t })

  module _ (j : ℕ) (ej : j ≡ plan / 2 ^ (2 * i) % 4) where
    subset_is : j ≡ subset_of (subsets (mode_at B)) (partition_field_at B) i
    subset_is = ej ∙ plan_subset (subsets (mode_at B)) (partition_field_at B) plan i ep l

    subset_by : j ≡ subset_of (subsets (mode_at B)) (field_at B 1) i
    subset_by = subset_is ∙ ap (λ (p : ℕ). subset_of (subsets (mode_at B)) p i) (sym (read_partition B (sound B h)))

    pub subset_here : j < subsets (mode_at B)
    subset_here = rw subset_is (subset_lt (mode_at B) (partition_field_at B) i h (partition_lt B (sound B h)) l)

    pub subset_small : j < 3
    subset_small = let a = subset_here in let b = subsets_most (mode_at B) h in omega arith

    module _ (q : List ℕ) (eq : q ≡ subset_line (mode_at B) (field_at B) j) where
      pub line_small : Line255 q
      line_small = subst Line255 (sym eq) (line_most (mode_at B) (field_at B) j 0 0 (λ e c. end_byte B h j e c subset_here) (turned_lt B h))

      pub shows : (f g s : ℕ) → f ≡ colour_factor (mode_at B) (field_at B) i → g ≡ alpha_factor (mode_at B) (field_at B) i → f ≤ 64 → g ≤ 64 → s ≡ sum_on q f g
          → SumShows s (mode_at B) (field_at B) i
      unfolding texel_of mixed_at
      shows f g s ef eg hf hg e c hc =
          let m = mode_at B in
          let v = field_at B in
          let k = rotated (v 2) c in
          ap (λ (x : ℕ). lane_byte x c) (e ∙ ap (λ (x : List ℕ). sum_on x f g) eq)
          ∙ mixed_byte m v j f g hf hg (λ n d. end_byte B h j n d subset_here) (turned_lt B h) c hc
          ∙ (λ t. mixed (pick (eqb k 3) (eg t) (ef t)) (end_channel m v (subset_by t) 0 k) (end_channel m v (subset_by t) 1 k))

-- a set's own first index
pub first_is : (B k i : ℕ) (held : IndexSet) → held ≡ set_of B k i → held.first ≡ k
unfolding set_of
first_is B k i held e = ap (λ (x : IndexSet). x.first) e

pub own_set : (B k i : ℕ) (held : IndexSet) → held ≡ set_of B k i → held ≡ set_of B held.first i
own_set B k i held e = e ∙ ap (λ (x : ℕ). set_of B x i) (sym (first_is B k i held e))

-- ---- factors, one after the other

module _ (g : ℕ → ℕ) where
  pub factors_none : (l : List ℕ) → Factors g l 0
  factors_none l = record { each = λ i h. absurd (not-suc-le-zero h); small = λ i h. absurd (not-suc-le-zero h) }

  pub factors_more : (l : List ℕ) (n v : ℕ) → n < length l → Factors g l n → v ≡ g n → v ≤ 64 → Factors g (set l n v) (n + 1)
  factors_more l n v h w e b = record {
    each = λ i hi. elim (dec_lt i n) [
      | yes p ↦ get_or-set_other l n i v 0 (λ r. omega (arith, r)) ∙ w.each i p
      | no p ↦ let r : i ≡ n = omega arith in rw r (get_or-set_same l n v 0 h ∙ e)
    ];
    small = λ i hi. elim (dec_lt i n) [
      | yes p ↦ rw (get_or-set_other l n i v 0 (λ r. omega (arith, r))) (w.small i p)
      | no p ↦ let r : i ≡ n = omega arith in rw (r, get_or-set_same l n v 0 h) b
    ];
  }

  pub factors_by : (k : ℕ → ℕ) (l : List ℕ) (n : ℕ) → ((i : ℕ) → g i ≡ k i) → Factors g l n → Factors k l n
  factors_by k l n e w = record { each = λ i h. w.each i h ∙ e i; small = w.small }

-- where there is no second set, alpha goes by the colours' indices
pub one_set : (m : ℕ) (v : ℕ → ℕ) → m < 8 → secondary_bits m ≡ 0 → (i : ℕ) → colour_factor m v i ≡ alpha_factor m v i
one_set m v h z i = sym (colour_by_set m v i) ∙ ap (λ (k : ℕ). factor_of (set_bits m k) (v (k + i))) (same_set m v h z) ∙ alpha_by_set m v i

-- ---- the buffer

module _ (m : ℕ) (v : ℕ → ℕ) (i s : ℕ) (out : List ℕ) (h : i < 16) (n : length out ≡ 64) where
  pub put_more : SumShows s m v i → Filled (λ k. texel_of m v (k / 4) (k % 4)) 0 out (4 * i)
      → Filled (λ k. texel_of m v (k / 4) (k % 4)) 0 (put_four out (4 * i) (lane_byte s 0) (lane_byte s 1) (lane_byte s 2) (lane_byte s 3)) (4 * (i + 1))
  put_more b w =
      let z : 4 * i + 4 ≡ 4 * (i + 1) = omega arith in
      let at : (c : ℕ) → c < 4 → lane_byte s c ≡ texel_of m v ((4 * i + c) / 4) ((4 * i + c) % 4) =
      λ c l. let q : (4 * i + c) / 4 ≡ i = omega arith in let r : (4 * i + c) % 4 ≡ c = omega arith in b c l ∙ ap₂ (texel_of m v) (sym q) (sym r) in
      let zero_at : lane_byte s 0 ≡ texel_of m v (4 * i / 4) (4 * i % 4) =
      let q : 4 * i / 4 ≡ i = omega arith in let r : 4 * i % 4 ≡ 0 = omega arith in b 0 (omega arith) ∙ ap₂ (texel_of m v) (sym q) (sym r) in
      subst (Filled (λ k. texel_of m v (k / 4) (k % 4)) 0 (put_four out (4 * i) (lane_byte s 0) (lane_byte s 1) (lane_byte s 2) (lane_byte s 3))) z
      (filled_four (λ k. texel_of m v (k / 4) (k % 4)) 0 out (4 * i) (lane_byte s 0) (lane_byte s 1) (lane_byte s 2) (lane_byte s 3) (omega arith) w
      zero_at (at 1 (omega arith)) (at 2 (omega arith)) (at 3 (omega arith)))

pub put_length : (i s : ℕ) (out new : List ℕ) → new ≡ put_four out (4 * i) (lane_byte s 0) (lane_byte s 1) (lane_byte s 2) (lane_byte s 3) → length out ≡ 64 → length new ≡ 64
put_length i s out new e n = ap length e ∙ length_four out (4 * i) (lane_byte s 0) (lane_byte s 1) (lane_byte s 2) (lane_byte s 3) ∙ n

pub all_put : (m : ℕ) (v : ℕ → ℕ) (i : ℕ) (out : List ℕ) → i ≡ 16 → length out ≡ 64 → Filled (λ k. texel_of m v (k / 4) (k % 4)) 0 out (4 * i) → out ≡ texel_bytes (texel_of m v)
unfolding texel_bytes
all_put m v i out e n w = filled_all (λ k. texel_of m v (k / 4) (k % 4)) 0 out 64 n (subst (λ (j : ℕ). Filled (λ k. texel_of m v (k / 4) (k % 4)) 0 out (4 * j)) e w)

-- ---- the whole block

module _ (B : ℕ) where
  pub fault_told : mode_at B ≡ 8 → 71 ≡ fault_of B
  unfolding fault_of
  fault_told h = ap (λ (b : Bool). pick b 71 0) (sym (reserved_mode B h))

  pub no_fault_told : (mode_at B ≡ 8 → ⊥) → 0 ≡ fault_of B
  no_fault_told h = sym (sound B (known-mode B h).1)

  pub bytes_reserved : mode_at B ≡ 8 → tab (λ n. 0) 64 ≡ shown_bytes B
  unfolding shown_bytes texel_bytes block_texel
  bytes_reserved h =
      tab_ext (λ n. 0) (λ n. block_texel B (n / 4) (n % 4)) 0 64
      (λ n l. ap (λ (b : Bool). pick b 0 (texel_of (mode_at B) (field_at B) (n / 4) (n % 4))) (sym (reserved_mode B h)))

  pub bytes_shown : (mode_at B ≡ 8 → ⊥) → texel_bytes (texel_of (mode_at B) (field_at B)) ≡ shown_bytes B
  unfolding shown_bytes texel_bytes block_texel
  bytes_shown h =
      tab_ext (λ n. texel_of (mode_at B) (field_at B) (n / 4) (n % 4)) (λ n. block_texel B (n / 4) (n % 4)) 0 64
      (λ n l. ap (λ (b : Bool). pick b 0 (texel_of (mode_at B) (field_at B) (n / 4) (n % 4))) (sym (known-mode B h).0))
