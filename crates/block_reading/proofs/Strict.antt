-- The strict reading, over the definitions: when it tells 21, and that of the blocks that read as an acceptable sheet the writer's alone passes.
-- Assumes nothing.
use mathlib.Core.Path.{◌≡◌, refl, sym, ap, ◌∙◌, subst}
use mathlib.Core.Logic.{◌↔◌}
use mathlib.Core.Bool.{Bool, true, false, not}
use Prim.Native.Nat.{ℕ, ◌^◌, ◌<◌}
use native.Mathlib.Decide.{ℕ_discrete}
use native.Mathlib.Omega.{arith}
use borrow.Author.Tests.{eq-eqb, ne_eqb}
use Rattle.laws.specs.Choice.{pick, both}
use Rattle.laws.specs.Reasons.{first_of}
use Rattle.interpolation.specs.declared.Kind.{Kind}
use Rattle.interpolation.specs.Expansion.{takes_hdr}
use Rattle.block_header.specs.Reasons.{grid_too_large, too_many_weights, weight_bits_outside, four_with_two_planes, too_many_endpoints, too_few_endpoint_bits, hdr_refused}
use Rattle.block_fault.specs.Bits.{mode_at, is_void, is_reserved, header_at}
use Rattle.footprint.specs.Footprint.{is_volume}
use Rattle.void_extent.specs.Layout.{bad_void_extent, hdr_void_extent}
use Rattle.block_fault.specs.Faults.{void_reasons, mode_reasons, fault_of}
use Rattle.block_fault.proofs.ByKind.{fault_hdr}
use Rattle.texel.specs.Meaning.{error_texel}
use Rattle.texel.specs.BlockTexel.{sound_texel, block_texel}
use Rattle.symbolic_block.specs.declared.SymbolicBlock.{SymbolicBlock}
use Rattle.symbolic_block.specs.Fields.{Sized}
use Rattle.symbolic_block.specs.Refusals.{Acceptable}
use Rattle.symbolic_block.specs.Writing.{block_of}
use Rattle.symbolic_block.specs.Reading.{read_block, ReadsAs}
use Rattle.symbolic_block.proofs.Demand.{demand_3}
use Rattle.block_reading.specs.declared.Reading.{Reading}
use Rattle.block_reading.specs.declared.Reading.TheVariants.{Ordinary, Strict}
use Rattle.block_reading.specs.Faults.{canonical_of, is_canonical, strict_fault, fault_in}
use Rattle.block_reading.specs.Shown.{texel_in}
use Rattle.block_reading.specs.OnePasses.{Reads, OnePasses, StrictReading}
use Rattle.block_reading.proofs.Solid.{solid}
use Rattle.block_reading.proofs.Shows.{strict_own, strict_error}

-- ---- the three cases

canonical_yes : (fp B : ℕ) → B ≡ canonical_of fp B → is_canonical fp B ≡ true
unfolding is_canonical
canonical_yes fp B q = eq-eqb B (canonical_of fp B) q

canonical_no : (fp B : ℕ) → (B ≡ canonical_of fp B → ⊥) → is_canonical fp B ≡ false
unfolding is_canonical
canonical_no fp B n = ne_eqb B (canonical_of fp B) n

module _ (hdr : Bool) (fp B : ℕ) where
  pub strict_other : (fault_of hdr fp B ≡ 0 → ⊥) → strict_fault hdr fp B ≡ fault_of hdr fp B
  unfolding strict_fault
  strict_other h = rw (ne_eqb (fault_of hdr fp B) 0 h)

  module _ (e : fault_of hdr fp B ≡ 0) where
    pub strict_none : B ≡ canonical_of fp B → strict_fault hdr fp B ≡ 0
    unfolding strict_fault
    strict_none q = rw (eq-eqb (fault_of hdr fp B) 0 e, canonical_yes fp B q)

    pub strict_21 : (B ≡ canonical_of fp B → ⊥) → strict_fault hdr fp B ≡ 21
    unfolding strict_fault
    strict_21 n = rw (eq-eqb (fault_of hdr fp B) 0 e, canonical_no fp B n)

    pub passed : strict_fault hdr fp B ≡ 0 → B ≡ canonical_of fp B
    passed z = elim (ℕ_discrete B (canonical_of fp B)) [
      | yes q ↦ q
      | no n ↦ let k : ◌≡◌ {A = ℕ} 21 0 = sym (strict_21 n) ∙ z in absurd (omega (arith, k))
    ]

-- no ordinary fault is 21
below : (b : Bool) (n x : ℕ) → n < 21 → x < 21 → pick b n x < 21
below true n x p q = p
below false n x p q = q

void_lt : (a b : Bool) → pick a 12 (pick b 13 0) < 21
void_lt a b = below a 12 (pick b 13 0) (omega arith) (below b 13 0 (omega arith) (omega arith))

ends_lt : (f g h : Bool) → pick f 18 (pick g 19 (pick h 20 0)) < 21
ends_lt f g h = below f 18 _ (omega arith) (below g 19 _ (omega arith) (below h 20 0 (omega arith) (omega arith)))

mode_lt : (a b c d e : Bool) (x : ℕ) → x < 21 → pick a 11 (pick b 14 (pick c 15 (pick d 16 (pick e 17 x)))) < 21
mode_lt a b c d e x l = below a 11 _ (omega arith) (below b 14 _ (omega arith) (below c 15 _ (omega arith) (below d 16 _ (omega arith) (below e 17 x (omega arith) l))))

pub fault_lt : (hdr : Bool) (fp B : ℕ) → fault_of hdr fp B < 21
unfolding fault_of void_reasons mode_reasons
fault_lt hdr fp B =
    let h = header_at fp B in
    below (is_void (mode_at fp B)) (first_of (void_reasons hdr fp B)) (first_of (mode_reasons hdr fp B))
    (void_lt (bad_void_extent (is_volume fp) B) (both (not hdr) (hdr_void_extent B)))
    (mode_lt (is_reserved (mode_at fp B)) (grid_too_large fp h.grid) (too_many_weights h.grid) (weight_bits_outside h.grid) (four_with_two_planes h) _
    (ends_lt (too_many_endpoints h) (too_few_endpoint_bits h) (hdr_refused hdr h)))

exactly_21 : (hdr : Bool) (fp B : ℕ) → (strict_fault hdr fp B ≡ 21) ↔ ((fault_of hdr fp B ≡ 0) × (B ≡ block_of fp (read_block fp B) → ⊥))
unfolding canonical_of
exactly_21 hdr fp B = (
  λ t. elim (ℕ_discrete (fault_of hdr fp B) 0) [
    | yes e ↦ (e, λ q. let k : ◌≡◌ {A = ℕ} 21 0 = sym t ∙ strict_none hdr fp B e q in omega (arith, k))
    | no n ↦ absurd (omega (arith, fault_lt hdr fp B, sym (strict_other hdr fp B n) ∙ t))
  ],
  λ p. strict_21 hdr fp B p.0 p.1,
)

some_hdr_lem : (hdr : Bool) (fp B : ℕ) → fault_of hdr fp B ≡ 0 → fault_of true fp B ≡ 0
some_hdr_lem true fp B e = e
some_hdr_lem false fp B e = fault_hdr fp B e

solid_fault : (hdr : Bool) (fp B : ℕ) → B < 2 ^ 128 → is_void (mode_at fp B) ≡ true → strict_fault hdr fp B ≡ fault_of hdr fp B
solid_fault hdr fp B small v = elim (ℕ_discrete (fault_of hdr fp B) 0) [
  | yes e ↦ strict_none hdr fp B e (sym (solid fp B small v (some_hdr_lem hdr fp B e))) ∙ sym e
  | no n ↦ strict_other hdr fp B n
]

-- ---- what is shown

error : (reading : Reading) (kind : Kind) (fp B : ℕ) → (fault_in reading (takes_hdr kind) fp B ≡ 0 → ⊥) → (x y z : ℕ) → texel_in reading fp kind B x y z ≡ error_texel kind
unfolding block_texel
error Ordinary kind fp B h x y z = rw (ne_eqb (fault_of (takes_hdr kind) fp B) 0 h)
error Strict kind fp B h x y z = strict_error fp kind B h x y z

-- a block that passes has no other fault either
none_other : (hdr : Bool) (fp B : ℕ) → strict_fault hdr fp B ≡ 0 → fault_of hdr fp B ≡ 0
none_other hdr fp B e = elim (ℕ_discrete (fault_of hdr fp B) 0) [ yes z ↦ z | no n ↦ sym (strict_other hdr fp B n) ∙ e ]

sound : (kind : Kind) (fp B : ℕ) → fault_of (takes_hdr kind) fp B ≡ 0 → (x y z : ℕ) → block_texel fp kind B x y z ≡ sound_texel fp kind B x y z
unfolding block_texel
sound kind fp B e x y z = rw (eq-eqb (fault_of (takes_hdr kind) fp B) 0 e)

own : (reading : Reading) (kind : Kind) (fp B : ℕ) → fault_in reading (takes_hdr kind) fp B ≡ 0 → (x y z : ℕ) → texel_in reading fp kind B x y z ≡ sound_texel fp kind B x y z
own Ordinary kind fp B e x y z = sound kind fp B e x y z
own Strict kind fp B e x y z = strict_own fp kind B e x y z ∙ sound kind fp B (none_other (takes_hdr kind) fp B e) x y z

-- ---- of the blocks that read as a sheet

module _ (fp : ℕ) (s : SymbolicBlock) (z : Sized s) (a : Acceptable fp s) where
  -- what is written is its own canonical form
  pub written_canonical : canonical_of fp (block_of fp s) ≡ block_of fp s
  unfolding canonical_of
  written_canonical = ap (block_of fp) (demand_3.written_reads_back fp s z a)

  pub written_reads : ReadsAs fp (block_of fp s) s
  written_reads =
      subst (ReadsAs fp (block_of fp s)) (demand_3.written_reads_back fp s z a) (demand_3.reads_as fp (block_of fp s) (demand_3.written_no_fault fp s z a))

  canonical_is : (B : ℕ) → Reads fp s B → canonical_of fp B ≡ block_of fp s
  unfolding canonical_of
  canonical_is B r = ap (block_of fp) (sym (demand_3.reads_as_one fp B s r.no_fault z r.reads))

  one : OnePasses fp s
  one = record {
    fits = demand_3.written_fits fp s z a;
    written_reads = record { no_fault = demand_3.written_no_fault fp s z a; reads = written_reads };
    written_passes = strict_none true fp (block_of fp s) (demand_3.written_no_fault fp s z a) (sym written_canonical);
    only_written = λ B r p. passed true fp B r.no_fault p ∙ canonical_is B r;
    others_told = λ B r n. strict_21 true fp B r.no_fault (λ q. n (q ∙ canonical_is B r));
  }

-- ---- the whole

pub strict_reading : StrictReading
strict_reading = record {
  ordinary = λ hdr fp B. refl;
  new_number = fault_lt;
  last_in_order = strict_other;
  exactly = exactly_21;
  error_shown = error;
  own_shown = own;
  solid_never = solid_fault;
  one_passes = one;
}
