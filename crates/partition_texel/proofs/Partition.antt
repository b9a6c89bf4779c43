-- The texel of a partition by its own numbers is that of the block's table.
-- Assumes nothing.
use mathlib.Core.Path.{◌≡◌, refl, sym, ap, ◌∙◌}
use mathlib.Core.Bool.{Bool, true, false, true≢false}
use mathlib.Core.List.{List, [], ◌∷◌}
use Prim.Native.Nat.{ℕ, zero, suc, ◌+◌, ◌*◌, ◌/◌, ◌%◌, ◌^◌, ◌≤◌, ◌<◌, min}
use native.Mathlib.Decide.{dec_lt}
use native.Mathlib.Omega.{arith}
use lib.Dec.{eqb, ltb}
use lib.ListN.{get_or}
use borrow.Author.Tests.{lt-ltb, le-ltb}
use Rattle.laws.specs.Choice.{pick}
use Rattle.laws.specs.Table.{tab, padded}
use Rattle.laws.proofs.Filling.{get_or_tab, padded_here, tab_ext}
use Rattle.bits.specs.Field.{field}
use Rattle.encoding.specs.declared.Level.{Level}
use Rattle.encoding.specs.declared.Stored.{Stored}
use Rattle.quantization.specs.Ranges.{encoding_at, bits_at, range_bits}
use Rattle.quantization.specs.Unquantise.{unquant_endpoint}
use Rattle.quantization.proofs.Ranges.{bits_le}
use Rattle.integer_sequence.specs.Reading.{number, sequence_at, stored}
use Rattle.integer_sequence.proofs.Ranged.{bits_small}
use Rattle.sequence_numbers.specs.declared.StoredEight.{StoredEight}
use Rattle.sequence_numbers.specs.inner.Eight.{Eight}
use Rattle.weight_grid.specs.Cell.{level}
use Rattle.color_endpoint.specs.Modes.{no_level, pair_of}
use Rattle.color_endpoint.specs.Table.{number_count, start_of, numbers_from, table_by, table_of}
use Rattle.color_endpoint.proofs.Laws.{table_at, entry_used}
use Rattle.endpoint_arithmetic.specs.Pair.{zero_pair}
use Rattle.endpoint_arithmetic.specs.declared.EndpointPair.{EndpointPair}
use Rattle.interpolation.specs.declared.Kind.{Kind}
use Rattle.interpolation.specs.declared.Kind.TheVariants.{Unorm16, Srgb8, Float16}
use Rattle.interpolation.specs.declared.Texel.{Texel}
use Rattle.interpolation.specs.Expansion.{no_pair, takes_hdr, expand_of, expanded_end, expanded_pair}
use Rattle.interpolation.specs.Texel.{mix_of, weight_of, channel_of, texel_of}
use Rattle.half_pair.specs.Pair.{no_half, zero_half, half_pair_of, half_table_of}
use Rattle.half_pair.specs.declared.HalfPair.{HalfPair}
use Rattle.half_pair.specs.Texel.{half_texel}
use Rattle.block_header.specs.declared.BlockHeader.{BlockHeader}
use Rattle.block_header.specs.Counts.{endpoint_count, endpoint_range_of}
use Rattle.block_fault.specs.Bits.{endpoints_from, endpoint_at}
use Rattle.texel.specs.Meaning.{endpoint_levels, partition_texel}
use Rattle.partition_texel.proofs.Own.{Agree, pair_own, half_own}

-- ---- where a partition's numbers lie

-- they end where the next one's begin, and all of them within those of the block
pub start_within : (modes : List ℕ) (count p : ℕ) → p < count → start_of modes p + number_count (get_or modes p 0) ≤ start_of modes count
unfolding start_of
start_within modes zero p h = absurd (omega arith)
start_within modes (suc count) p h =
    elim (dec_lt p count) [
      | yes l ↦ omega (arith, start_within modes count p l)
      | no l ↦ let e : p ≡ count = omega arith in rw e (omega arith)
    ]

-- ---- a sequence by itself

pub range_small : (range n : ℕ) → n ≤ 255 → range_bits range n ≤ 65790
unfolding range_bits
range_small range n h = bits_small (encoding_at range) (bits_at range) n (omega (arith, bits_le range)) h

pub cut_out : (range n B from : ℕ) {w s : ℕ} → w ≡ range_bits range n → s ≡ field B from w → s ≡ sequence_at (encoding_at range) (bits_at range) B from n
unfolding range_bits sequence_at
cut_out range n B from ew es = es ∙ ap (λ (k : ℕ). field B from k) ew

-- the levels of what was read from place start on
pub levels_read : (range s start count : ℕ) {q : ℕ} {xs : StoredEight} {r : List Level} → q ≡ s
    → Eight count (λ j. number (encoding_at range) (bits_at range) q (start + j)) xs
    → r ≡ padded 18 count (λ k. level (unquant_endpoint range (xs.0 / 2 ^ (8 * k) % 256))) (level 0)
    → r ≡ padded 18 count (λ k. level (unquant_endpoint range (number (encoding_at range) (bits_at range) s (start + k)))) (level 0)
unfolding padded
levels_read range s start count {q} {xs} es ex er =
    er
    ∙ tab_ext (λ k. pick (ltb k count) (level (unquant_endpoint range (xs.0 / 2 ^ (8 * k) % 256))) (level 0)) (λ k. pick (ltb k count) (level (unquant_endpoint range (number (encoding_at range) (bits_at range) s (start + k)))) (level 0)) (level 0) 18 same
  where
    same : (k : ℕ) → k < 18
        → pick (ltb k count) (level (unquant_endpoint range (xs.0 / 2 ^ (8 * k) % 256))) (level 0) ≡ pick (ltb k count) (level (unquant_endpoint range (number (encoding_at range) (bits_at range) s (start + k)))) (level 0)
    same k l =
        elim (dec_lt k count) [
          | yes p ↦
              ap (λ (x : ℕ). pick (ltb k count) (level (unquant_endpoint range x)) (level 0))
              (ex.at k p ∙ ap (λ (m : ℕ). number (encoding_at range) (bits_at range) m (start + k)) es)
          | no p ↦ let z : ltb k count ≡ false = le-ltb k count (omega arith) in rw z
        ]

-- what the loop over them reads
abbrev pub bytes_in : StoredEight → List Stored
bytes_in xs = tab (λ k. stored (xs.0 / 2 ^ (8 * k) % 256)) 18

pub byte_here : (xs : StoredEight) (k : ℕ) {x : Stored} → k < 18 → x ≡ stored (xs.0 / 2 ^ (8 * k) % 256) → x ≡ get_or (bytes_in xs) k (stored 0)
byte_here xs k h e = e ∙ sym (get_or_tab (λ j. stored (xs.0 / 2 ^ (8 * j) % 256)) 18 k (stored 0) h)

pub bytes_done : (range n : ℕ) (xs : StoredEight) {r : List Level} → r ≡ padded 18 n (λ k. level (unquant_endpoint range (get_or (bytes_in xs) k (stored 0)).0)) (level 0)
    → r ≡ padded 18 n (λ k. level (unquant_endpoint range (xs.0 / 2 ^ (8 * k) % 256))) (level 0)
unfolding padded
bytes_done range n xs er =
    er
    ∙ tab_ext (λ k. pick (ltb k n) (level (unquant_endpoint range (get_or (bytes_in xs) k (stored 0)).0)) (level 0)) (λ k. pick (ltb k n) (level (unquant_endpoint range (xs.0 / 2 ^ (8 * k) % 256))) (level 0)) (level 0) 18
    (λ k l. ap (λ (x : Stored). pick (ltb k n) (level (unquant_endpoint range x.0)) (level 0)) (get_or_tab (λ j. stored (xs.0 / 2 ^ (8 * j) % 256)) 18 k (stored 0) l))

-- ---- one entry of a table

module _ (mode : ℕ) (modes : List ℕ) (count p : ℕ) (own ends : List Level) (four : p < 4) (used : p < count) (em : mode ≡ get_or modes p 0)
    (same : (k : ℕ) → k < min (number_count mode) 8 → get_or own k no_level ≡ get_or ends (start_of modes p + k) no_level) where
  agree : Agree mode (numbers_from own 0) (numbers_from ends (start_of modes p))
  unfolding numbers_from
  agree k h l =
      get_or_tab (λ j. get_or own (0 + j) no_level) 8 k no_level l
      ∙ ap (λ (n : ℕ). get_or own n no_level) (let z : 0 + k ≡ k = omega arith in z)
      ∙ same k (omega arith)
      ∙ sym (get_or_tab (λ j. get_or ends (start_of modes p + j) no_level) 8 k no_level l)

  module _ {A : Type 0} (make : ℕ → List Level → A) (none d : A) (hangs : (v w : List Level) → Agree mode v w → make mode v ≡ make mode w) where
    entry : get_or (table_by make none (mode ∷ 0 ∷ 0 ∷ 0 ∷ []) 1 own) 0 d ≡ get_or (table_by make none modes count ends) p d
    unfolding start_of
    entry =
        table_at make none (mode ∷ 0 ∷ 0 ∷ 0 ∷ []) own 1 0 d (omega arith)
        ∙ entry_used make none (mode ∷ 0 ∷ 0 ∷ 0 ∷ []) own 1 0 (omega arith)
        ∙ hangs (numbers_from own 0) (numbers_from ends (start_of modes p)) agree
        ∙ ap (λ (m : ℕ). make m (numbers_from ends (start_of modes p))) em
        ∙ sym (table_at make none modes ends count p d four ∙ entry_used make none modes ends count p used)

  pub texel_own : (kind : Kind) (first second : Level) (component : ℕ)
      → partition_texel kind (mode ∷ 0 ∷ 0 ∷ 0 ∷ []) 1 own 0 first second component ≡ partition_texel kind modes count ends p first second component
  texel_own Unorm16 first second component = ap (λ (q : EndpointPair). texel_of (expanded_pair Unorm16 q) first second component) (entry pair_of zero_pair no_pair (pair_own mode))
  texel_own Srgb8 first second component = ap (λ (q : EndpointPair). texel_of (expanded_pair Srgb8 q) first second component) (entry pair_of zero_pair no_pair (pair_own mode))
  texel_own Float16 first second component = ap (λ (q : HalfPair). half_texel q first second component) (entry half_pair_of zero_half no_half (half_own mode))

-- ---- by kind

module _ (modes : List ℕ) (count : ℕ) (ends : List Level) (p : ℕ) (first second : Level) (component : ℕ) where
  pub of_halves : (kind : Kind) → takes_hdr kind ≡ true → half_texel (get_or (half_table_of modes count ends) p no_half) first second component ≡ partition_texel kind modes count ends p first second component
  of_halves Unorm16 e = absurd (true≢false (sym e))
  of_halves Srgb8 e = absurd (true≢false (sym e))
  of_halves Float16 e = refl

  pub of_bytes : (kind : Kind) → takes_hdr kind ≡ false → texel_of (expanded_pair kind (get_or (table_of modes count ends) p no_pair)) first second component ≡ partition_texel kind modes count ends p first second component
  of_bytes Unorm16 e = refl
  of_bytes Srgb8 e = refl
  of_bytes Float16 e = absurd (true≢false e)

-- the channels of a pair, step by step
abbrev texel : ℕ → ℕ → ℕ → ℕ → Texel
texel r g b a = record { r = r; g = g; b = b; a = a }

module _ (kind : Kind) (p : EndpointPair) (first second component : ℕ) where
  at_is : (k : ℕ) → (weight_of component (level first) (level second) k).0 ≡ pick (eqb k component) second first
  unfolding weight_of
  at_is k = go (eqb k component) where
    go : (t : Bool) → (pick t (level second) (level first)).0 ≡ pick t second first
    go true = refl
    go false = refl

  pub pair_steps : {w0 w1 w2 w3 r g b a : ℕ} → w0 ≡ pick (eqb 0 component) second first
      → r ≡ mix_of (expand_of kind (get_or p.e0 0 0)) (expand_of kind (get_or p.e1 0 0)) w0 % 65536 → w1 ≡ pick (eqb 1 component) second first
      → g ≡ mix_of (expand_of kind (get_or p.e0 1 0)) (expand_of kind (get_or p.e1 1 0)) w1 % 65536 → w2 ≡ pick (eqb 2 component) second first
      → b ≡ mix_of (expand_of kind (get_or p.e0 2 0)) (expand_of kind (get_or p.e1 2 0)) w2 % 65536 → w3 ≡ pick (eqb 3 component) second first
      → a ≡ mix_of (expand_of kind (get_or p.e0 3 0)) (expand_of kind (get_or p.e1 3 0)) w3 % 65536
      → texel r g b a ≡ texel_of (expanded_pair kind p) (level first) (level second) component
  unfolding texel_of channel_of expanded_pair expanded_end
  pair_steps e0 er e1 eg e2 eb e3 ea = rw (er, eg, eb, ea, e0, e1, e2, e3, ← at_is 0, ← at_is 1, ← at_is 2, ← at_is 3)

-- ---- the whole

module _ (B : ℕ) (h : BlockHeader) (p : ℕ) (used : p < h.partitions) (four : p < 4) (room : endpoint_count h ≤ 18) where
  abbrev ends : List Level
  ends = endpoint_levels (endpoint_range_of h) (endpoint_at B h)

  abbrev value : ℕ → ℕ
  value i = unquant_endpoint (endpoint_range_of h) (number (encoding_at (endpoint_range_of h)) (bits_at (endpoint_range_of h)) (sequence_at (encoding_at (endpoint_range_of h)) (bits_at (endpoint_range_of h)) B (endpoints_from h.partitions) (endpoint_count h)) i)

  last : start_of h.modes p + number_count (get_or h.modes p 0) ≤ endpoint_count h
  unfolding endpoint_count
  last = start_within h.modes h.partitions p used

  pub start_le : start_of h.modes p ≤ 18
  start_le = omega (arith, last)

  -- one of the block's numbers
  listed : (i : ℕ) → i < endpoint_count h → get_or ends i no_level ≡ level (value i)
  unfolding endpoint_levels endpoint_at
  listed i l = get_or_tab (λ k. level (unquant_endpoint (endpoint_range_of h) (endpoint_at B h k))) 18 i no_level (omega arith) ∙ rw (lt-ltb i (endpoint_count h) l)

  pub texel_told_lem : (kind : Kind) (first second : Level) (component : ℕ) {mode start count from n range : ℕ} {own : List Level} {t : Texel} → mode ≡ get_or h.modes p 0 → start ≡ start_of h.modes p
      → count ≡ min (number_count mode) 8 → from ≡ endpoints_from h.partitions → n ≡ endpoint_count h → range ≡ endpoint_range_of h
      → own ≡ padded 18 count (λ k. level (unquant_endpoint range (number (encoding_at range) (bits_at range) (sequence_at (encoding_at range) (bits_at range) B from n) (start + k)))) (level 0)
      → t ≡ partition_texel kind (mode ∷ 0 ∷ 0 ∷ 0 ∷ []) 1 own 0 first second component
      → t ≡ partition_texel kind h.modes h.partitions ends p first second component
  texel_told_lem kind first second component {mode} {start} {count} {from} {n} {range} {own} em es ec ef en er eo et =
      et ∙ texel_own mode h.modes h.partitions p own ends four used em same kind first second component
    where
      is : own ≡ padded 18 (min (number_count mode) 8) (λ k. level (value (start_of h.modes p + k))) (level 0)
      is = rw (← ec, ← es, ← ef, ← en, ← er) eo

      same : (k : ℕ) → k < min (number_count mode) 8 → get_or own k no_level ≡ get_or ends (start_of h.modes p + k) no_level
      same k l =
          ap (λ (o : List Level). get_or o k no_level) is
          ∙ padded_here (λ j. level (value (start_of h.modes p + j))) (level 0) 18 (min (number_count mode) 8) k no_level (omega arith) l
          ∙ sym (listed (start_of h.modes p + k) (let e : number_count mode ≡ number_count (get_or h.modes p 0) = ap number_count em in omega (arith, last)))
