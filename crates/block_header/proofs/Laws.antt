-- Bounds of the counts, and the reasons one by one.
-- Assumes nothing.
use mathlib.Core.Path.{◌≡◌, refl, sym, ap, ◌∙◌}
use Prim.Native.Nat.{ℕ, zero, suc, ◌+◌, ◌-◌, ◌*◌, ◌/◌, ◌≤◌, ◌<◌}
use native.Mathlib.Nat.{mul-le-mul, suc-add}
use native.Mathlib.Omega.{arith}
use Rattle.encoding.specs.Encoding.{sequence_bits}
use Rattle.encoding.proofs.Laws.{code_le}
use Rattle.quantization.specs.Ranges.{encoding_at, bits_at, range_bits}
use Rattle.quantization.proofs.Ranges.{bits_le}
use lib.ListN.{length, get_or, get_or-eq_default}
use mathlib.Core.List.{List}
use Rattle.color_endpoint.specs.Table.{number_count, start_of}
use mathlib.Core.Bool.{Bool, true, false, ◌&&◌, ◌||◌}
use borrow.Author.Tests.{lt-ltb, le-ltb, ltb-false}
use lib.Dec.{ltb}
use Rattle.laws.specs.Choice.{pick, either}
use Rattle.block_mode.specs.declared.WeightGrid.{WeightGrid}
use Rattle.block_header.specs.declared.BlockHeader.{BlockHeader}
use Rattle.block_header.specs.Counts.{weight_bits, endpoint_count, bits_left}
use Rattle.color_endpoint.specs.Modes.{is_hdr}
use Rattle.block_header.specs.Reasons.{grid_too_large, too_many_weights, weight_bits_outside, too_many_endpoints, too_few_endpoint_bits, hdr_refused}
use Rattle.block_header.specs.inner.Stages.{grid_fault, endpoint_fault}
use Rattle.laws.specs.Reasons.{some}

-- a number takes at most eleven bits
pub range_bits_le : (k n m : ℕ) → n ≤ m → range_bits k n ≤ m * 8 + 3 * m
unfolding range_bits sequence_bits
range_bits_le k n m h = let p : n * bits_at k ≤ m * 8 = mul-le-mul h (bits_le k) in omega (arith, code_le (encoding_at k) n)

-- ---- the endpoint numbers without a loop

-- past the modes each partition takes two numbers, as mode 0 does
start_past : (modes : List ℕ) (n : ℕ) → length modes ≡ 4 → start_of modes (n + 4) ≡ start_of modes 4 + 2 * n
unfolding start_of number_count
start_past modes zero h = omega arith
start_past modes (suc n) h =
    let z : get_or modes (n + 4) 0 ≡ 0 = get_or-eq_default modes 0 {n = n + 4} (omega arith) in
    rw (suc-add, z, start_past modes n h) (omega arith)

-- the numbers of partition p, of n
abbrev pub counted_at : List ℕ → ℕ → ℕ → ℕ
counted_at modes n p = pick (ltb p n) (number_count (get_or modes p 0)) 0

pub start_four : (modes : List ℕ) (n : ℕ) → length modes ≡ 4
    → counted_at modes n 0 + counted_at modes n 1 + counted_at modes n 2 + counted_at modes n 3 + 2 * (n - 4) ≡ start_of modes n
unfolding start_of
start_four modes zero h = refl
start_four modes (suc zero) h = omega arith
start_four modes (suc (suc zero)) h = omega arith
start_four modes (suc (suc (suc zero))) h = omega arith
start_four modes (suc (suc (suc (suc n)))) h = past (suc (suc (suc (suc n)))) (omega arith)
  where
    past : (m : ℕ) → 4 ≤ m → counted_at modes m 0 + counted_at modes m 1 + counted_at modes m 2 + counted_at modes m 3 + 2 * (m - 4) ≡ start_of modes m
    past m l =
        let e : m ≡ m - 4 + 4 = omega arith in
        let p : start_of modes m ≡ start_of modes 4 + 2 * (m - 4) = ap (start_of modes) e ∙ start_past modes (m - 4) h in
        rw (lt-ltb 0 m (omega arith), lt-ltb 1 m (omega arith), lt-ltb 2 m (omega arith), lt-ltb 3 m (omega arith)) (omega (arith, p))

-- ---- some HDR mode without a loop

four : (a b c d : Bool) → (a || (b || (c || d))) ≡ either a (either b (either c (either d false)))
four true b c d = refl
four false true c d = refl
four false false true d = refl
four false false false true = refl
four false false false false = refl

-- a test that fails from 4 on
module _ (f : ℕ → Bool) (none : (k : ℕ) → f (k + 4) ≡ false) where
  some_past : (n : ℕ) → some f (n + 4) ≡ some f 4
  some_past zero = refl
  some_past (suc n) = rw (suc-add, none n) (some_past n)

  some_four : (n : ℕ) → (ltb 3 n && f 3 || (ltb 2 n && f 2 || (ltb 1 n && f 1 || ltb 0 n && f 0))) ≡ some f n
  some_four zero = refl
  some_four (suc zero) = four false false false (f 0)
  some_four (suc (suc zero)) = four false false (f 1) (f 0)
  some_four (suc (suc (suc zero))) = four false (f 2) (f 1) (f 0)
  some_four (suc (suc (suc (suc n)))) = past (suc (suc (suc (suc n)))) (omega arith)
    where
      past : (m : ℕ) → 4 ≤ m → (ltb 3 m && f 3 || (ltb 2 m && f 2 || (ltb 1 m && f 1 || ltb 0 m && f 0))) ≡ some f m
      past m l =
          let e : m ≡ m - 4 + 4 = omega arith in
          rw (lt-ltb 0 m (omega arith), lt-ltb 1 m (omega arith), lt-ltb 2 m (omega arith), lt-ltb 3 m (omega arith))
          (four (f 3) (f 2) (f 1) (f 0) ∙ sym (ap (some f) e ∙ some_past (m - 4)))

-- whether partition p, of n, is HDR
abbrev hdr_at : List ℕ → ℕ → ℕ → Bool
hdr_at modes n p = ltb p n && is_hdr (get_or modes p 0)

-- past the modes none is HDR, as mode 0 is not
pub hdr_four : (modes : List ℕ) (n : ℕ) → length modes ≡ 4
    → (hdr_at modes n 3 || (hdr_at modes n 2 || (hdr_at modes n 1 || hdr_at modes n 0))) ≡ some (λ p. is_hdr (get_or modes p 0)) n
unfolding is_hdr
hdr_four modes n h = some_four (λ p. is_hdr (get_or modes p 0)) (λ k. rw (get_or-eq_default modes 0 {n = k + 4} (omega arith))) n

-- ---- 14 to 16

-- a grid without fault has at most 96 weight bits
pub grid_bits : (fp : ℕ) (g : WeightGrid) → grid_fault fp g ≡ 0 → weight_bits g ≤ 96
unfolding grid_fault weight_bits_outside
grid_bits fp g e = go (grid_too_large fp g) (too_many_weights g) (ltb (weight_bits g) 24) (ltb 96 (weight_bits g)) refl e where
  go : (a b c d : Bool) → ltb 96 (weight_bits g) ≡ d → ◌≡◌ {A = ℕ} (pick a 14 (pick b 15 (pick (either c d) 16 0))) 0 → weight_bits g ≤ 96
  go true b c d q r = absurd (omega arith)
  go false true c d q r = absurd (omega arith)
  go false false true d q r = absurd (omega arith)
  go false false false true q r = absurd (omega arith)
  go false false false false q r = ltb-false 96 (weight_bits g) q

-- ---- 18 to 20, one by one

module _ (hdr : Bool) (h : BlockHeader) where
  pub count_over : 18 < endpoint_count h → 18 ≡ endpoint_fault hdr h
  unfolding endpoint_fault too_many_endpoints
  count_over l = rw (lt-ltb _ _ l)

  module _ (n : endpoint_count h ≤ 18) where
    pub bits_short : bits_left h < (13 * endpoint_count h + 4) / 5 → 19 ≡ endpoint_fault hdr h
    unfolding endpoint_fault too_many_endpoints too_few_endpoint_bits
    bits_short l = rw (le-ltb _ _ n, lt-ltb _ _ l)

    module _ (m : (13 * endpoint_count h + 4) / 5 ≤ bits_left h) where
      pub hdr_there : hdr_refused hdr h ≡ true → 20 ≡ endpoint_fault hdr h
      unfolding endpoint_fault too_many_endpoints too_few_endpoint_bits
      hdr_there e = rw (le-ltb _ _ n, le-ltb _ _ m, e)

      pub ends_sound : hdr_refused hdr h ≡ false → 0 ≡ endpoint_fault hdr h
      unfolding endpoint_fault too_many_endpoints too_few_endpoint_bits
      ends_sound e = rw (le-ltb _ _ n, le-ltb _ _ m, e)

-- a header without fault has at most 18 endpoint numbers
pub ends_count : (hdr : Bool) (h : BlockHeader) → endpoint_fault hdr h ≡ 0 → endpoint_count h ≤ 18
unfolding endpoint_fault too_many_endpoints
ends_count hdr h e = go (ltb 18 (endpoint_count h)) (too_few_endpoint_bits h) (hdr_refused hdr h) refl e where
  go : (a b c : Bool) → ltb 18 (endpoint_count h) ≡ a → ◌≡◌ {A = ℕ} (pick a 18 (pick b 19 (pick c 20 0))) 0 → endpoint_count h ≤ 18
  go true b c q r = absurd (omega arith)
  go false b c q r = ltb-false 18 (endpoint_count h) q
