-- DEMAND 3 (statement: specs/Demand3.antt) is proved.
-- Assumes nothing.
use mathlib.Core.Path.{◌≡◌, refl, subst, sym, ap, ◌∙◌}
use mathlib.Core.Logic.{◌↔◌}
use mathlib.Core.Bool.{Bool, true, false}
use Prim.Native.Nat.{ℕ, ◌+◌, ◌-◌, ◌*◌, ◌/◌, ◌^◌, ◌≤◌, ◌<◌}
use native.Mathlib.Omega.{arith}
use lib.Dec.{T, eqb}
use lib.ListN.{length}
use borrow.Author.Tests.{eq-eqb, eqb-true, eqb-false, ltb-false}
use Rattle.laws.specs.Choice.{pick}
use Rattle.laws.proofs.Filling.{length_padded}
use Rattle.bits.specs.Field.{field, reverse}
use Rattle.quantization.specs.Ranges.{encoding_at, bits_at}
use Rattle.integer_sequence.specs.Reading.{sequence_at}
use Rattle.interpolation.specs.declared.Kind.{Kind}
use Rattle.interpolation.specs.declared.Kind.TheVariants.{Unorm16, Srgb8, Float16}
use Rattle.interpolation.specs.Expansion.{takes_hdr}
use Rattle.interpolation.specs.declared.Texel.{Texel}
use Rattle.block_header.specs.declared.BlockHeader.{BlockHeader}
use Rattle.block_header.specs.Counts.{weight_count, weight_bits, component_bits, extra_bits, endpoint_count, bits_left, endpoint_range_of}
use Rattle.block_header.specs.Reasons.{too_few_endpoint_bits, some_hdr}
use Rattle.block_fault.specs.Bits.{mode_at, is_void, partitions_at, mode_of, header_at, endpoints_from, endpoint_at, weight_at}
use Rattle.footprint.specs.Footprint.{is_volume}
use Rattle.block_mode.specs.declared.BlockMode.TheVariants.{Grid}
use Rattle.volume_mode.specs.Either.{block_mode_in}
use Rattle.void_extent.specs.Layout.{colour_at, extent_at, hdr_void_extent}
use Rattle.block_fault.specs.Faults.{fault_of}
use Rattle.block_fault.proofs.ByKind.{fault_ldr}
use Rattle.block_fault.specs.Told.{hdr_block}
use Rattle.texel.specs.Meaning.{shown_channel}
use Rattle.texel.specs.BlockTexel.{block_texel, block_number_at}
use Rattle.symbolic_block.specs.declared.SymbolicBlock.{SymbolicBlock}
use Rattle.symbolic_block.specs.Fields.{sheet_grid, header_of, is_marked, endpoint_in, weight_in, Sized, Typed}
use Rattle.symbolic_block.specs.Refusals.{mode_refusals, void_refusals, refusals, refusal_of, Acceptable}
use Rattle.symbolic_block.specs.Picture.{picture_of, picture_number}
use Rattle.symbolic_block.specs.Writing.{endpoints_end, component_from, block_of}
use Rattle.symbolic_block.specs.Reading.{mode_block, void_block, read_block, selector_in, modes_code_in}
use Rattle.symbolic_block.specs.Demand3.{Demand3}
use Rattle.laws.proofs.Reasons.{None, numbered, none_first, first_none, none_at, at_none, first_told}
use Rattle.integer_sequence.specs.Writing.{Smallest}
use Rattle.symbolic_block.proofs.Opened.{refusal_is, refusals_void, refusals_mode, block_void, block_mode_lem, read_void, read_mode, some_kind, mode_faults, no_mode_fault}
use Rattle.symbolic_block.proofs.Room.{room}
use Rattle.symbolic_block.proofs.Fine.{fine}
use Rattle.symbolic_block.proofs.Types.{mode_typed, void_typed}
use Rattle.symbolic_block.proofs.Written as written
use Rattle.symbolic_block.proofs.Void as void
use Rattle.symbolic_block.proofs.Read as read
use Rattle.symbolic_block.proofs.ReadsAs as relation
use Rattle.symbolic_block.proofs.Shown.{block_shows}

-- ---- refusals

by_mark : {A : Type 0} (s : SymbolicBlock) → (s.mark ≡ 1 → A) → ((s.mark ≡ 1 → ⊥) → A) → A
by_mark {A} s f g = go (eqb s.mark 1) refl where
  go : (b : Bool) → eqb s.mark 1 ≡ b → A
  go true e = f (eqb-true s.mark 1 e)
  go false e = g (eqb-false s.mark 1 e)

module _ (fp : ℕ) (s : SymbolicBlock) where
  void_numbered : T (numbered (void_refusals fp s))
  unfolding void_refusals
  void_numbered = tt

  mode_numbered : T (numbered (mode_refusals fp s))
  unfolding mode_refusals
  mode_numbered = tt

  all_numbered : T (numbered (refusals fp s))
  all_numbered = by_mark s (λ m. rw (refusals_void s m fp) void_numbered) (λ m. rw (refusals_mode s m fp) mode_numbered)

  none : Acceptable fp s → None (refusals fp s)
  none e = first_none (refusals fp s) all_numbered (sym (refusal_is fp s) ∙ e)

  pub void_none : Acceptable fp s → s.mark ≡ 1 → None (void_refusals fp s)
  void_none a m = subst None (refusals_void s m fp) (none a)

  pub mode_none : Acceptable fp s → (s.mark ≡ 1 → ⊥) → None (mode_refusals fp s)
  mode_none a m = subst None (refusals_mode s m fp) (none a)

  accepted : None (refusals fp s) → Acceptable fp s
  accepted n = refusal_is fp s ∙ none_first (refusals fp s) n

-- ---- the kinds in which a block without fault in kind 2 has none

by_void : {A : Type 0} (fp B : ℕ) → (is_void (mode_at fp B) ≡ true → A) → (is_void (mode_at fp B) ≡ false → A) → A
by_void {A} fp B f g = go (is_void (mode_at fp B)) refl where
  go : (v : Bool) → is_void (mode_at fp B) ≡ v → A
  go true v = f v
  go false v = g v

module _ (fp B : ℕ) where
  -- the marks that are read
  marked_back : (b : Bool) → b ≡ eqb (pick b 1 0) 1
  marked_back true = refl
  marked_back false = refl

  hdr_read : hdr_block fp B ≡ is_marked (read_block fp B)
  unfolding hdr_block hdr_void_extent void_block mode_block
  hdr_read =
      by_void fp B
      (λ v. ap (λ (b : Bool). pick b (hdr_void_extent B) (some_hdr (header_at fp B))) v ∙ sym (ap is_marked (read_void fp B v)))
      (λ v. ap (λ (b : Bool). pick b (hdr_void_extent B) (some_hdr (header_at fp B))) v ∙ marked_back (some_hdr (header_at fp B)) ∙ sym (ap is_marked (read_mode fp B v)))

  void_read_mark : is_void (mode_at fp B) ≡ eqb (read_block fp B).mark 1
  unfolding void_block mode_block
  void_read_mark =
      by_void fp B (λ v. v ∙ sym (ap (λ (s : SymbolicBlock). eqb s.mark 1) (read_void fp B v)))
      (λ v. v ∙ sym (ap (λ (s : SymbolicBlock). eqb s.mark 1) (read_mode fp B v)))

-- the fault in kinds 0 and 1, by the marks
abbrev ldr_fault : SymbolicBlock → ℕ
ldr_fault s = pick (is_marked s) (pick (eqb s.mark 1) 13 20) 0

not_none : (b : Bool) → ◌≡◌ {A = ℕ} (pick b 13 20) 0 → ⊥
not_none true e = omega arith
not_none false e = omega arith

module _ (fp B : ℕ) (e : fault_of true fp B ≡ 0) where
  in_ldr : fault_of false fp B ≡ ldr_fault (read_block fp B)
  in_ldr =
      fault_ldr fp B e
      ∙ (λ i. pick (hdr_read fp B i) (pick (void_read_mark fp B i) 13 20) 0)

  ldr_none : (read_block fp B).hdr ≡ 0 → fault_of false fp B ≡ 0
  ldr_none h = in_ldr ∙ ap (λ (x : ℕ). pick (eqb x 1) (pick (eqb (read_block fp B).mark 1) 13 20) 0) h

  hdr_some : (read_block fp B).hdr ≡ 1 → fault_of false fp B ≡ 0 → ⊥
  hdr_some h z =
      not_none (eqb (read_block fp B).mark 1)
      (sym (in_ldr ∙ ap (λ (x : ℕ). pick (eqb x 1) (pick (eqb (read_block fp B).mark 1) 13 20) 0) h) ∙ z)

  kinds_ldr : (read_block fp B).hdr ≡ 0 → (kind : Kind) → fault_of (takes_hdr kind) fp B ≡ 0
  kinds_ldr h Unorm16 = ldr_none h
  kinds_ldr h Srgb8 = ldr_none h
  kinds_ldr h Float16 = e

  other_kind : (kind : Kind) → takes_hdr kind ≡ false → kind ≡ Float16 → ⊥
  other_kind kind f q = subst T (sym (ap takes_hdr q) ∙ f) tt

  kinds_hdr : (read_block fp B).hdr ≡ 1 → (kind : Kind) → (fault_of (takes_hdr kind) fp B ≡ 0) ↔ (kind ≡ Float16)
  kinds_hdr h Unorm16 = (λ z. absurd (hdr_some h z), λ q. absurd (other_kind Unorm16 refl q))
  kinds_hdr h Srgb8 = (λ z. absurd (hdr_some h z), λ q. absurd (other_kind Srgb8 refl q))
  kinds_hdr h Float16 = (λ z. refl, λ q. e)

-- two blocks that read as the same have the same faults
same_kinds : (fp B C : ℕ) → fault_of true fp B ≡ 0 → fault_of true fp C ≡ 0 → read_block fp B ≡ read_block fp C
    → (kind : Kind) → fault_of (takes_hdr kind) fp B ≡ fault_of (takes_hdr kind) fp C
same_kinds fp B C b c r kind = go kind where
  ldr : fault_of false fp B ≡ fault_of false fp C
  ldr = in_ldr fp B b ∙ ap ldr_fault r ∙ sym (in_ldr fp C c)

  go : (k : Kind) → fault_of (takes_hdr k) fp B ≡ fault_of (takes_hdr k) fp C
  go Unorm16 = ldr
  go Srgb8 = ldr
  go Float16 = b ∙ sym c

-- ---- writing

module _ (fp : ℕ) (s : SymbolicBlock) (z : Sized s) (a : Acceptable fp s) where
  fits : block_of fp s < 2 ^ 128
  fits =
      by_mark s (λ m. rw (block_void s m fp) (void.block_lt fp s m (void_none fp s a m) z))
      (λ m. rw (block_mode_lem s m fp) (written.block_lt fp s (fine fp s m (mode_none fp s a m)) z))

  no_fault : fault_of true fp (block_of fp s) ≡ 0
  no_fault =
      by_mark s (λ m. rw (block_void s m fp) (void.void_faultless fp s m (void_none fp s a m) z))
      (λ m. rw (block_mode_lem s m fp) (written.mode_faultless fp s (fine fp s m (mode_none fp s a m)) z (mode_none fp s a m)))

  back : read_block fp (block_of fp s) ≡ s
  back =
      by_mark s (λ m. rw (block_void s m fp) (void.void_back fp s m (void_none fp s a m) z))
      (λ m. rw (block_mode_lem s m fp) (written.mode_back fp s (fine fp s m (mode_none fp s a m)) z))

  shows : (kind : Kind) → fault_of (takes_hdr kind) fp (block_of fp s) ≡ 0 → (x y z : ℕ) → block_texel fp kind (block_of fp s) x y z ≡ picture_of fp kind s x y z
  shows kind e x y z = block_shows fp kind (block_of fp s) x y z e ∙ ap (λ (t : SymbolicBlock). picture_of fp kind t x y z) back

  shows_numbers : (kind : Kind) → fault_of (takes_hdr kind) fp (block_of fp s) ≡ 0
      → (x y z c : ℕ) → block_number_at fp kind (block_of fp s) x y z c ≡ picture_number fp kind s x y z c
  unfolding block_number_at picture_number shown_channel
  shows_numbers kind e x y z c = ap (λ (t : Texel). shown_channel kind t c) (shows kind e x y z)

  written_ldr : s.hdr ≡ 0 → (kind : Kind) → fault_of (takes_hdr kind) fp (block_of fp s) ≡ 0
  written_ldr h = kinds_ldr fp (block_of fp s) no_fault (ap (λ (t : SymbolicBlock). t.hdr) back ∙ h)

  written_hdr : s.hdr ≡ 1 → (kind : Kind) → (fault_of (takes_hdr kind) fp (block_of fp s) ≡ 0) ↔ (kind ≡ Float16)
  written_hdr h = kinds_hdr fp (block_of fp s) no_fault (ap (λ (t : SymbolicBlock). t.hdr) back ∙ h)

  pub typed : Typed s
  typed = by_mark s (λ m. void_typed fp s m (void_none fp s a m) z) (λ m. mode_typed fp s (fine fp s m (mode_none fp s a m)) z)

  module _ (m : s.mark ≡ 0) where
    not_1 : s.mark ≡ 1 → ⊥
    not_1 e = omega arith

    endpoint_codes : Smallest (encoding_at (endpoint_range_of (header_of s))) (bits_at (endpoint_range_of (header_of s))) (endpoint_count (header_of s)) (endpoint_in s)
        (sequence_at (encoding_at (endpoint_range_of (header_of s))) (bits_at (endpoint_range_of (header_of s))) (block_of fp s) (endpoints_from s.partitions) (endpoint_count (header_of s)))
    endpoint_codes = rw (block_mode_lem s not_1 fp) (written.endpoint_codes fp s (fine fp s not_1 (mode_none fp s a not_1)) z)

    weight_codes : Smallest (encoding_at s.range) (bits_at s.range) (weight_count (sheet_grid s)) (weight_in s)
        (sequence_at (encoding_at s.range) (bits_at s.range) (reverse 128 (block_of fp s)) 0 (weight_count (sheet_grid s)))
    weight_codes = rw (block_mode_lem s not_1 fp) (written.weight_codes fp s (fine fp s not_1 (mode_none fp s a not_1)) z)

    spare : field (block_of fp s) (endpoints_end (header_of s)) (component_from (header_of s) - endpoints_end (header_of s)) ≡ 0
    spare = rw (block_mode_lem s not_1 fp) (written.spare_zero fp s (fine fp s not_1 (mode_none fp s a not_1)) z)

    smallest_mode : (m : ℕ) → m < 2048 → block_mode_in (is_volume fp) m ≡ Grid (sheet_grid s) → field (block_of fp s) 0 11 ≤ m
    smallest_mode = rw (block_mode_lem s not_1 fp) (written.mode_least fp s (fine fp s not_1 (mode_none fp s a not_1)) z)

-- the HDR mark
marked : (fp : ℕ) (s : SymbolicBlock) → Acceptable fp s → s.mark ≡ 0 → (s.hdr ≡ 1) ↔ (some_hdr (header_of s) ≡ true)
marked fp s a z =
    let not_1 : s.mark ≡ 1 → ⊥ = λ e. omega (arith, z, e) in
    let same : is_marked s ≡ some_hdr (header_of s) = (fine fp s not_1 (mode_none fp s a not_1)).marked in
    (λ e. sym same ∙ eq-eqb s.hdr 1 e, λ t. eqb-true s.hdr 1 (same ∙ t))

-- ---- reading

four_modes : (fp B : ℕ) → length (header_at fp B).modes ≡ 4
unfolding header_at
four_modes fp B = length_padded (mode_of (partitions_at B) (selector_in B) (modes_code_in fp B)) 0 4 (partitions_at B)

pub sized : (fp B : ℕ) → Sized (read_block fp B)
sized fp B = by_void fp B (λ v. rw (read_void fp B v) (void.void_sized fp B)) (λ v. rw (read_mode fp B v) (read.mode_sized B (header_at fp B) (four_modes fp B)))

module _ (fp B : ℕ) (low : fp ≤ 23) (e : fault_of true fp B ≡ 0) where
  void_read : is_void (mode_at fp B) ≡ true → None (refusals fp (read_block fp B))
  unfolding void_block
  void_read v =
      let s = void_block (field B 9 1) (colour_at B) (extent_at (is_volume fp) B) in
      subst (λ (t : SymbolicBlock). None (refusals fp t)) (sym (read_void fp B v)) (subst None (sym (refusals_void s refl fp)) (void.void_accepted fp B low v e))

  mode_read : is_void (mode_at fp B) ≡ false → None (refusals fp (read_block fp B))
  unfolding mode_block
  mode_read v =
      let n = no_mode_fault fp B v e in
      let s = mode_block (header_at fp B) (endpoint_at B (header_at fp B)) (weight_at B (header_at fp B)) in
      let not_1 : s.mark ≡ 1 → ⊥ = (λ q. omega (arith, q)) in
      subst (λ (t : SymbolicBlock). None (refusals fp t)) (sym (read_mode fp B v))
      (subst None (sym (refusals_mode s not_1 fp)) (read.mode_accepted B (header_at fp B) fp low (read.settled fp B v n.0) n.1))

  read_accepted : Acceptable fp (read_block fp B)
  read_accepted = accepted fp (read_block fp B) (by_void fp B void_read mode_read)

  again_kinds : (kind : Kind) → fault_of (takes_hdr kind) fp (block_of fp (read_block fp B)) ≡ fault_of (takes_hdr kind) fp B
  again_kinds =
      let s = read_block fp B in
      same_kinds fp (block_of fp s) B (no_fault fp s (sized fp B) read_accepted) e (back fp s (sized fp B) read_accepted)

-- of a kind in which it has none
module _ (fp B : ℕ) (low : fp ≤ 23) (kind : Kind) (k : fault_of (takes_hdr kind) fp B ≡ 0) where
  same_shown : (x y z : ℕ) → block_texel fp kind (block_of fp (read_block fp B)) x y z ≡ block_texel fp kind B x y z
  same_shown x y z =
      let e = some_kind fp B kind k in
      shows fp (read_block fp B) (sized fp B) (read_accepted fp B low e) kind (again_kinds fp B low e kind ∙ k) x y z ∙ sym (block_shows fp kind B x y z k)

  same_numbers : (x y z c : ℕ) → block_number_at fp kind (block_of fp (read_block fp B)) x y z c ≡ block_number_at fp kind B x y z c
  unfolding block_number_at
  same_numbers x y z c = ap (λ (t : Texel). shown_channel kind t c) (same_shown x y z)

few : (h : BlockHeader) → too_few_endpoint_bits h ≡ false → (13 * endpoint_count h + 4) / 5 ≤ bits_left h
unfolding too_few_endpoint_bits
few h e = ltb-false (bits_left h) ((13 * endpoint_count h + 4) / 5) e

parts : (fp B : ℕ) → is_void (mode_at fp B) ≡ false → fault_of true fp B ≡ 0 → endpoints_end (header_at fp B)
    + (weight_bits (header_at fp B).grid + component_bits (header_at fp B).grid.planes + extra_bits (header_at fp B).partitions (header_at fp B).selector) ≤ 128
parts fp B v e =
    let n = no_mode_fault fp B v e in
    room (header_at fp B) (read.settled fp B v n.0).partitions_low (few (header_at fp B) (none_at (mode_faults fp (header_at fp B)) n.1 5))

-- ---- the whole

pub demand_3 : Demand3
demand_3 = record {
  refused_exactly = λ fp s. (λ a. none_at (refusals fp s) (none fp s a), λ h. accepted fp s (at_none (refusals fp s) (λ i l. h i)));
  first_is_told = λ fp s i e h. refusal_is fp s ∙ first_told (refusals fp s) i e h;
  marked_exactly = marked;
  written_fits = fits;
  written_no_fault = no_fault;
  written_reads_back = back;
  written_shows = shows;
  written_shows_numbers = shows_numbers;
  written_kinds_ldr = written_ldr;
  written_kinds_hdr = written_hdr;
  read_sized = λ fp B e. sized fp B;
  read_typed = λ fp B low e. typed fp (read_block fp B) (sized fp B) (read_accepted fp B low e);
  read_acceptable = read_accepted;
  reads_as = λ fp B e. relation.reads_as fp B;
  reads_as_one = λ fp B s e z r. relation.reads_same fp B s (read_block fp B) z (sized fp B) r (relation.reads_as fp B);
  parts_apart = parts;
  read_kinds_ldr = kinds_ldr;
  read_kinds_hdr = kinds_hdr;
  rewritten_kinds = again_kinds;
  rewritten_shows = same_shown;
  rewritten_shows_numbers = same_numbers;
  smallest_endpoint_codes = endpoint_codes;
  smallest_weight_codes = weight_codes;
  spare_bits_lem = spare;
  smallest_mode = smallest_mode;
}
