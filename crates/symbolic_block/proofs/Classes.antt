-- The mode bits, both ways.
-- Assumes nothing.
use mathlib.Core.Path.{◌≡◌, refl, subst, sym, ap, ◌∙◌}
use mathlib.Core.Bool.{Bool, true, false, not}
use mathlib.Core.List.{List}
use Prim.Native.Nat.{ℕ, suc, ◌+◌, ◌-◌, ◌*◌, ◌/◌, ◌%◌, ◌^◌, ◌≤◌, ◌<◌}
use native.Mathlib.Nat.{mod-lt}
use native.Mathlib.Omega.{arith}
use lib.Arith.{digits_lt}
use lib.Pow.{pow-add}
use lib.Dec.{T, ltb, eqb}
use lib.ListN.{get_or}
use borrow.Author.Tests.{eq-eqb, ne_eqb, eqb-true, eqb-false, ltb-false, not-false}
use Rattle.laws.specs.Choice.{both, either}
use Rattle.laws.specs.Table.{padded}
use Rattle.laws.proofs.Filling.{padded_here}
use Rattle.bits.specs.Field.{field, stream}
use Rattle.bits.proofs.Fields.{field_lt, field_under, field_above, stream_lt, stream_at}
use Rattle.block_header.specs.declared.BlockHeader.{BlockHeader}
use Rattle.block_header.specs.Counts.{extra_bits}
use Rattle.block_fault.specs.Bits.{mode_of}
use Rattle.symbolic_block.specs.Refusals.{misfit, modes_misfit}
use Rattle.symbolic_block.specs.Writing.{class_bit, modes_code}
use Rattle.laws.proofs.Reasons.{some_none, none_some}

-- ---- selector 0, and 1 to 3

extra_none : (P sel : ℕ) → sel ≡ 0 → extra_bits P sel ≡ 0
unfolding extra_bits
extra_none P sel e = rw (eq-eqb sel 0 e)

extra_many : (P sel : ℕ) → 1 ≤ sel → extra_bits P sel ≡ 3 * P - 4
unfolding extra_bits
extra_many P sel h = rw (ne_eqb sel 0 (λ e. omega arith))

pub mode_none : (P sel bits i : ℕ) → sel ≡ 0 → mode_of P sel bits i ≡ bits
unfolding mode_of
mode_none P sel bits i e = rw (eq-eqb sel 0 e)

pub mode_many : (P sel bits i : ℕ) → 1 ≤ sel → mode_of P sel bits i ≡ 4 * (sel - 1 + field bits i 1) + field bits (P + 2 * i) 2
unfolding mode_of
mode_many P sel bits i h = rw (ne_eqb sel 0 (λ e. omega arith))

-- a mode fits the selector
abbrev pub Fits : ℕ → ℕ → ℕ → Type 0
Fits sel first m = misfit sel first m ≡ false

fits_none : (sel first m : ℕ) → sel ≡ 0 → Fits sel first m → m ≡ first
fits_none sel first m e f = eqb-true m first (not-false (eqb m first) (rw (eq-eqb sel 0 e) at f))

none_fits : (sel first m : ℕ) → sel ≡ 0 → m ≡ first → Fits sel first m
none_fits sel first m e q = rw (eq-eqb sel 0 e, eq-eqb m first q)

one_of : (c k : ℕ) → not (either (eqb c (k - 1)) (eqb c k)) ≡ false → (k - 1 ≤ c) × (c ≤ k)
one_of c k e = go (eqb c (k - 1)) refl (eqb c k) refl where
  go : (a : Bool) → eqb c (k - 1) ≡ a → (b : Bool) → eqb c k ≡ b → (k - 1 ≤ c) × (c ≤ k)
  go true p b q = let r : c ≡ k - 1 = eqb-true c (k - 1) p in (omega arith, omega arith)
  go false p true q = let r : c ≡ k = eqb-true c k q in (omega arith, omega arith)
  go false p false q = absurd (subst T (rw (p, q) at e) tt)

of_one : (c k : ℕ) → k - 1 ≤ c → c ≤ k → not (either (eqb c (k - 1)) (eqb c k)) ≡ false
of_one c k h l = go (eqb c (k - 1)) refl where
  go : (a : Bool) → eqb c (k - 1) ≡ a → not (either (eqb c (k - 1)) (eqb c k)) ≡ false
  go true p = rw p
  go false p = rw (p, eq-eqb c k (omega (arith, eqb-false c (k - 1) p)))

fits_many : (sel first m : ℕ) → 1 ≤ sel → Fits sel first m → (sel - 1 ≤ m / 4) × (m / 4 ≤ sel)
fits_many sel first m h f = one_of (m / 4) sel (rw (ne_eqb sel 0 (λ e. omega arith)) at f)

many_fits : (sel first m : ℕ) → 1 ≤ sel → sel - 1 ≤ m / 4 → m / 4 ≤ sel → Fits sel first m
many_fits sel first m h a b = rw (ne_eqb sel 0 (λ e. omega arith)) (of_one (m / 4) sel a b)

-- by cases on the selector
by_selector : {A : Type 0} (sel : ℕ) → (sel ≡ 0 → A) → (1 ≤ sel → A) → A
by_selector {A} sel f g = go (eqb sel 0) refl where
  go : (b : Bool) → eqb sel 0 ≡ b → A
  go true e = f (eqb-true sel 0 e)
  go false e = g (omega (arith, eqb-false sel 0 e))

-- ---- what is written is read

module _ (h : BlockHeader) where
  abbrev class : ℕ → ℕ
  class i = class_bit h.selector (get_or h.modes i 0)

  abbrev low : ℕ → ℕ
  low i = get_or h.modes i 0 % 4

  classes_lt : stream (λ i. i) class h.partitions < 2 ^ h.partitions
  classes_lt = stream_lt (λ i. i) (λ i. 1) (λ i. omega arith) class (λ i. mod-lt (get_or h.modes i 0 / 4 - (h.selector - 1)) (omega arith)) h.partitions

  lows_lt : stream (λ i. 2 * i) low h.partitions < 2 ^ (2 * h.partitions)
  lows_lt = stream_lt (λ i. 2 * i) (λ i. 2) (λ i. omega arith) low (λ i. mod-lt (get_or h.modes i 0) (omega arith)) h.partitions

  code_none : h.selector ≡ 0 → modes_code h ≡ get_or h.modes 0 0
  unfolding modes_code
  code_none e = rw (eq-eqb h.selector 0 e)

  code_many : 1 ≤ h.selector → modes_code h ≡ stream (λ i. 2 * i) low h.partitions * 2 ^ h.partitions + stream (λ i. i) class h.partitions
  unfolding modes_code
  code_many l = rw (ne_eqb h.selector 0 (λ e. omega arith))

  class_at : (i : ℕ) → i < h.partitions → 1 ≤ h.selector → field (modes_code h) i 1 ≡ class i
  class_at i l s =
      let P = h.partitions in
      let d : P ≡ (P - suc i) + (1 + i) = omega arith in
      ap (λ (x : ℕ). field x i 1) (code_many s)
      ∙ ap (λ (x : ℕ). field (stream (λ i. 2 * i) low P * 2 ^ x + stream (λ i. i) class P) i 1) d
      ∙ field_under (stream (λ i. 2 * i) low P) (stream (λ i. i) class P) (P - suc i) 1 i
      ∙ stream_at (λ i. i) (λ i. 1) (λ i. omega arith) class (λ i. mod-lt (get_or h.modes i 0 / 4 - (h.selector - 1)) (omega arith)) P i l

  low_at : (i : ℕ) → i < h.partitions → 1 ≤ h.selector → field (modes_code h) (h.partitions + 2 * i) 2 ≡ low i
  low_at i l s =
      let P = h.partitions in
      ap (λ (x : ℕ). field x (P + 2 * i) 2) (code_many s)
      ∙ field_above (stream (λ i. 2 * i) low P) (stream (λ i. i) class P) P (2 * i) 2 classes_lt
      ∙ stream_at (λ i. 2 * i) (λ i. 2) (λ i. omega arith) low (λ i. mod-lt (get_or h.modes i 0) (omega arith)) P i l

  -- four bits, and the extra ones
  pub code_lt : (1 ≤ h.selector → 2 ≤ h.partitions) → get_or h.modes 0 0 ≤ 15 → modes_code h < 2 ^ (extra_bits h.partitions h.selector + 4)
  code_lt several first = by_selector h.selector none many where
    none : h.selector ≡ 0 → modes_code h < 2 ^ (extra_bits h.partitions h.selector + 4)
    none e = rw (code_none e, extra_none h.partitions h.selector e) (omega arith)

    many : 1 ≤ h.selector → modes_code h < 2 ^ (extra_bits h.partitions h.selector + 4)
    many s =
        let p : 2 ≤ h.partitions = several s in
        let d : 3 * h.partitions - 4 + 4 ≡ 2 * h.partitions + h.partitions = omega arith in
        rw (code_many s, extra_many h.partitions h.selector s, d, pow-add 2 (2 * h.partitions) h.partitions) (digits_lt lows_lt classes_lt)

  pub code_back : (i : ℕ) → i < h.partitions → Fits h.selector (get_or h.modes 0 0) (get_or h.modes i 0)
      → mode_of h.partitions h.selector (modes_code h) i ≡ get_or h.modes i 0
  code_back i l f = by_selector h.selector none many where
    none : h.selector ≡ 0 → mode_of h.partitions h.selector (modes_code h) i ≡ get_or h.modes i 0
    none e = mode_none h.partitions h.selector (modes_code h) i e ∙ code_none e ∙ sym (fits_none h.selector (get_or h.modes 0 0) (get_or h.modes i 0) e f)

    many : 1 ≤ h.selector → mode_of h.partitions h.selector (modes_code h) i ≡ get_or h.modes i 0
    many s =
        let b = fits_many h.selector (get_or h.modes 0 0) (get_or h.modes i 0) s f in
        mode_many h.partitions h.selector (modes_code h) i s ∙ rw (class_at i l s, low_at i l s) (omega (arith, b.0, b.1))

-- modes that are not refused fit the selector; with one partition there is none to fit
pub all_fit : (h : BlockHeader) → modes_misfit h ≡ false → (h.partitions ≤ 1 → h.selector ≡ 0)
    → (i : ℕ) → i < h.partitions → Fits h.selector (get_or h.modes 0 0) (get_or h.modes i 0)
unfolding modes_misfit
all_fit h e one i l = go (ltb 1 h.partitions) refl where
  go : (b : Bool) → ltb 1 h.partitions ≡ b → Fits h.selector (get_or h.modes 0 0) (get_or h.modes i 0)
  go true q = some_none _ h.partitions (rw q at e) i l
  go false q =
      let p : h.partitions ≤ 1 = ltb-false 1 h.partitions q in
      none_fits h.selector (get_or h.modes 0 0) (get_or h.modes i 0) (one p) (ap (λ (j : ℕ). get_or h.modes j 0) (omega arith))

-- ---- what is read

both_none : (a b : Bool) → b ≡ false → both a b ≡ false
both_none true b e = e
both_none false b e = refl

pub fit_all : (h : BlockHeader) → ((i : ℕ) → i < h.partitions → Fits h.selector (get_or h.modes 0 0) (get_or h.modes i 0)) → modes_misfit h ≡ false
unfolding modes_misfit
fit_all h f = both_none (ltb 1 h.partitions) _ (none_some _ h.partitions f)

module _ (P sel code : ℕ) (most : P ≤ 4) where
  pub mode_most : sel ≤ 3 → code < 2 ^ (extra_bits P sel + 4) → (i : ℕ) → mode_of P sel code i ≤ 15
  mode_most h l i = by_selector sel none many where
    none : sel ≡ 0 → mode_of P sel code i ≤ 15
    none e = let c : code < 2 ^ (0 + 4) = rw (extra_none P sel e) at l in rw (mode_none P sel code i e) (omega arith)

    many : 1 ≤ sel → mode_of P sel code i ≤ 15
    many s = rw (mode_many P sel code i s) (omega (arith, field_lt code i 1, field_lt code (P + 2 * i) 2))

  abbrev modes : List ℕ
  modes = padded 4 P (mode_of P sel code) 0

  used : (i : ℕ) → i < P → get_or modes i 0 ≡ mode_of P sel code i
  used i h = padded_here (mode_of P sel code) 0 4 P i 0 (omega arith) h

  pub read_fits : (i : ℕ) → i < P → Fits sel (get_or modes 0 0) (get_or modes i 0)
  read_fits i h = rw (used i h, used 0 (omega arith)) (by_selector sel none many) where
    none : sel ≡ 0 → Fits sel (mode_of P sel code 0) (mode_of P sel code i)
    none e = none_fits sel (mode_of P sel code 0) (mode_of P sel code i) e (mode_none P sel code i e ∙ sym (mode_none P sel code 0 e))

    many : 1 ≤ sel → Fits sel (mode_of P sel code 0) (mode_of P sel code i)
    many s =
        let e = mode_many P sel code i s in
        many_fits sel (mode_of P sel code 0) (mode_of P sel code i) s
        (omega (arith, e, field_lt code i 1, field_lt code (P + 2 * i) 2)) (omega (arith, e, field_lt code i 1, field_lt code (P + 2 * i) 2))
