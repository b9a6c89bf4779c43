-- A block without fault shows the picture of the symbolic block that it reads as.
-- Assumes nothing.
use mathlib.Core.Path.{◌≡◌, refl, sym, ap, ap₂, ◌∙◌}
use mathlib.Core.Bool.{Bool, true, false, not}
use Prim.Native.Nat.{ℕ, ◌<◌}
use native.Mathlib.Omega.{arith}
use lib.Dec.{eqb}
use lib.ListN.{get_or}
use borrow.Author.Tests.{ltb-false}
use Rattle.laws.specs.Choice.{pick, both}
use Rattle.laws.specs.Table.{tab}
use Rattle.laws.proofs.Filling.{get_or_tab, tab_ext}
use Rattle.quantization.specs.Unquantise.{unquant_endpoint, unquant_weight}
use Rattle.integer_sequence.specs.Reading.{stored}
use Rattle.weight_grid.specs.Cell.{level}
use Rattle.interpolation.specs.declared.Kind.{Kind}
use Rattle.interpolation.specs.Expansion.{takes_hdr}
use Rattle.half_float.specs.Half.{unorm_half}
use Rattle.half_pair.specs.Texel.{solid_half}
use Rattle.bits.specs.Field.{field}
use Rattle.block_header.specs.declared.BlockHeader.{BlockHeader}
use Rattle.block_header.specs.Counts.{weight_count, endpoint_count, endpoint_range_of}
use Rattle.block_header.specs.Reasons.{too_many_weights, too_many_endpoints}
use Rattle.block_fault.specs.Bits.{mode_at, is_void, header_at, endpoint_at, weight_at}
use Rattle.footprint.specs.Footprint.{is_volume}
use Rattle.void_extent.specs.Layout.{extent_at, colour_at, hdr_void_extent}
use Rattle.block_fault.specs.Faults.{fault_of}
use Rattle.texel.specs.Meaning.{endpoint_levels, weight_levels, mixed_texel, texel_from, solid_number, solid_texel}
use Rattle.texel.specs.BlockTexel.{block_texel}
use Rattle.symbolic_block.specs.declared.SymbolicBlock.{SymbolicBlock}
use Rattle.symbolic_block.specs.Fields.{is_marked, stored_in, colour_in}
use Rattle.symbolic_block.specs.Picture.{solid_channel, solid_picture, picture_of}
use Rattle.symbolic_block.specs.Reading.{mode_block, void_block, read_block}
use Rattle.laws.proofs.Reasons.{None, none_at}
use Rattle.symbolic_block.proofs.Lists.{stored_at, within_used}
use Rattle.symbolic_block.proofs.Opened.{picture_void, picture_mode, read_void, read_mode, some_kind, texel_void, texel_mode, mode_faults, no_mode_fault}
use Rattle.symbolic_block.proofs.Read.{Settled, settled}
use Rattle.symbolic_block.proofs.Agrees.{Counted, agrees}

-- ---- a texel follows from the numbers

levels_same : (range : ℕ) (f g : ℕ → ℕ) → ((i : ℕ) → i < 18 → f i ≡ g i) → endpoint_levels range f ≡ endpoint_levels range g
unfolding endpoint_levels
levels_same range f g h =
    tab_ext (λ i. level (unquant_endpoint range (f i))) (λ i. level (unquant_endpoint range (g i))) (level 0) 18
    (λ i l. ap (λ (x : ℕ). level (unquant_endpoint range x)) (h i l))

weights_same : (range : ℕ) (f g : ℕ → ℕ) → ((i : ℕ) → i < 64 → f i ≡ g i) → weight_levels range f ≡ weight_levels range g
unfolding weight_levels
weights_same range f g h =
    tab_ext (λ i. level (unquant_weight range (f i))) (λ i. level (unquant_weight range (g i))) (level 0) 64
    (λ i l. ap (λ (x : ℕ). level (unquant_weight range x)) (h i l))

pub texel_same : (fp : ℕ) (kind : Kind) (h : BlockHeader) (e f v w : ℕ → ℕ) (x y z : ℕ) → ((i : ℕ) → i < 18 → e i ≡ f i) → ((i : ℕ) → i < 64 → v i ≡ w i)
    → texel_from fp kind h e v x y z ≡ texel_from fp kind h f w x y z
unfolding texel_from
texel_same fp kind h e f v w x y z p q =
    ap₂ (λ ends weights. mixed_texel fp kind h ends weights x y z) (levels_same (endpoint_range_of h) e f p) (weights_same h.grid.range v w q)

pub solid_same : (kind : Kind) (s : SymbolicBlock) (g : ℕ → ℕ) → ((i : ℕ) → i < 4 → colour_in s i ≡ g i)
    → solid_picture kind s ≡ solid_texel kind (is_marked s) g
unfolding solid_picture solid_channel solid_half solid_texel solid_number
solid_same kind s g h =
    let e0 = each 0 (omega arith) in
    let e1 = each 1 (omega arith) in
    let e2 = each 2 (omega arith) in
    let e3 = each 3 (omega arith) in
    λ i. record { r = e0 i; g = e1 i; b = e2 i; a = e3 i }
  where
    go : (t m : Bool) (n : ℕ) → pick t (pick m n (unorm_half n)) n ≡ pick (both t (not m)) (unorm_half n) n
    go true true n = refl
    go true false n = refl
    go false m n = refl

    each : (i : ℕ) → i < 4
        → pick (takes_hdr kind) (pick (is_marked s) (colour_in s i) (unorm_half (colour_in s i))) (colour_in s i)
        ≡ pick (both (takes_hdr kind) (not (is_marked s))) (unorm_half (g i)) (g i)
    each i l =
        go (takes_hdr kind) (is_marked s) (colour_in s i)
        ∙ ap (λ (n : ℕ). pick (both (takes_hdr kind) (not (is_marked s))) (unorm_half n) n) (h i l)

-- ---- what is read

module _ (fp : ℕ) (kind : Kind) (B x y z : ℕ) where
  void_picture : picture_of fp kind (void_block (field B 9 1) (colour_at B) (extent_at (is_volume fp) B)) x y z ≡ solid_texel kind (hdr_void_extent B) (colour_at B)
  unfolding void_block hdr_void_extent
  void_picture =
      picture_void (void_block (field B 9 1) (colour_at B) (extent_at (is_volume fp) B)) refl fp kind x y z
      ∙ solid_same kind (void_block (field B 9 1) (colour_at B) (extent_at (is_volume fp) B)) (colour_at B) (λ i h. get_or_tab (colour_at B) 4 i 0 h)

  mode_picture : (h : BlockHeader) → Counted (mode_block h (endpoint_at B h) (weight_at B h))
      → picture_of fp kind (mode_block h (endpoint_at B h) (weight_at B h)) x y z ≡ texel_from fp kind h (endpoint_at B h) (weight_at B h) x y z
  unfolding mode_block
  mode_picture h c =
      picture_mode (mode_block h (endpoint_at B h) (weight_at B h)) (λ e. omega (arith, e)) fp kind x y z
      ∙ agrees (mode_block h (endpoint_at B h) (weight_at B h)) c fp kind x y z
      ∙ texel_same fp kind h (stored_in (tab (λ i. stored (endpoint_at B h i)) 18)) (endpoint_at B h)
      (stored_in (tab (λ i. stored (weight_at B h i)) 64)) (weight_at B h) x y z (stored_at (endpoint_at B h) 18) (stored_at (weight_at B h) 64)

  -- the settings of a block without fault
  counted : (h : BlockHeader) → Settled fp h → None (mode_faults fp h) → Counted (mode_block h (endpoint_at B h) (weight_at B h))
  unfolding mode_block too_many_weights too_many_endpoints
  counted h i n = record {
    depth_low = i.limits.depth_low;
    planes_low = i.limits.planes_low;
    planes_most = i.limits.planes_most;
    partitions_low = i.partitions_low;
    modes_most = λ p l u. within_used 4 h.partitions 15 (λ k. get_or h.modes k 0) i.modes_in p l u;
    weights_most = ltb-false 64 (weight_count h.grid) (none_at (mode_faults fp h) n 1);
    numbers_most = ltb-false 18 (endpoint_count h) (none_at (mode_faults fp h) n 4);
  }

  pub block_shows : fault_of (takes_hdr kind) fp B ≡ 0 → block_texel fp kind B x y z ≡ picture_of fp kind (read_block fp B) x y z
  block_shows e = go (is_void (mode_at fp B)) refl where
    go : (v : Bool) → is_void (mode_at fp B) ≡ v → block_texel fp kind B x y z ≡ picture_of fp kind (read_block fp B) x y z
    go true v = texel_void fp B v kind x y z e ∙ sym (rw (read_void fp B v) void_picture)
    go false v =
        let n = no_mode_fault fp B v (some_kind fp B kind e) in
        texel_mode fp B v kind x y z e ∙ sym (rw (read_mode fp B v) (mode_picture (header_at fp B) (counted (header_at fp B) (settled fp B v n.0) n.1)))
