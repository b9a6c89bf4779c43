-- "Reads as" holds of what the reader tells, and of nothing else.
-- Assumes nothing.
use mathlib.Core.Path.{◌≡◌, refl, sym, ap, ◌∙◌}
use mathlib.Core.Bool.{Bool, true, false}
use mathlib.Core.List.{List}
use Prim.Native.Nat.{ℕ, ◌<◌}
use native.Mathlib.Omega.{arith}
use lib.Dec.{ltb}
use lib.ListN.{length, get_or}
use lib.Seq.{ext_get_or}
use Rattle.laws.specs.Choice.{pick}
use Rattle.laws.proofs.Filling.{get_or_tab, padded_at}
use Rattle.encoding.specs.declared.Stored.{Stored}
use Rattle.bits.specs.Field.{field}
use Rattle.integer_sequence.specs.Reading.{stored}
use Rattle.block_fault.specs.Bits.{mode_at, is_void, partitions_at, mode_of, header_at, endpoint_at, weight_at}
use Rattle.footprint.specs.Footprint.{is_volume}
use Rattle.void_extent.specs.Layout.{extent_at, colour_at}
use Rattle.symbolic_block.specs.declared.SymbolicBlock.{SymbolicBlock}
use Rattle.symbolic_block.specs.Fields.{stored_in, Sized}
use Rattle.symbolic_block.specs.Reading.{mode_block, void_block, read_block, selector_in, modes_code_in, ReadsAs}
use Rattle.symbolic_block.proofs.Same.{by_fields}
use Rattle.symbolic_block.proofs.Lists.{zero_at, stored_at}
use Rattle.symbolic_block.proofs.Opened.{read_void, read_mode}

module _ (fp B : ℕ) where
  -- ---- it does

  module _ (v : is_void (mode_at fp B) ≡ true) where
    void_reads : ReadsAs fp B (void_block (field B 9 1) (colour_at B) (extent_at (is_volume fp) B))
    unfolding void_block
    void_reads = record {
      mark = rw v;
      hdr = rw v;
      colours = λ i h. rw v (get_or_tab (colour_at B) 4 i 0 h);
      extents = λ i h. rw v (get_or_tab (extent_at (is_volume fp) B) 6 i 0 h);
      width = rw v;
      height = rw v;
      depth = rw v;
      range = rw v;
      planes = rw v;
      component = rw v;
      partitions = rw v;
      index = rw v;
      selector = rw v;
      modes = λ i h. rw v (zero_at 4 i h);
      endpoints = λ i h. rw v (stored_at (λ k. 0) 18 i h);
      weights = λ i h. rw v (stored_at (λ k. 0) 64 i h);
    }

  module _ (v : is_void (mode_at fp B) ≡ false) where
    mode_at_lem : (i : ℕ) → i < 4 → get_or (header_at fp B).modes i 0
        ≡ pick (ltb i (partitions_at B)) (mode_of (partitions_at B) (selector_in B) (modes_code_in fp B) i) 0
    unfolding header_at
    mode_at_lem i h = padded_at (mode_of (partitions_at B) (selector_in B) (modes_code_in fp B)) 0 4 (partitions_at B) i 0 h

    mode_reads : ReadsAs fp B (mode_block (header_at fp B) (endpoint_at B (header_at fp B)) (weight_at B (header_at fp B)))
    unfolding mode_block header_at
    mode_reads = record {
      mark = rw v;
      hdr = rw v;
      colours = λ i h. rw v (zero_at 4 i h);
      extents = λ i h. rw v (zero_at 6 i h);
      width = rw v;
      height = rw v;
      depth = rw v;
      range = rw v;
      planes = rw v;
      component = rw v;
      partitions = rw v;
      index = rw v;
      selector = rw v;
      modes = λ i h. rw v (mode_at_lem i h);
      endpoints = λ i h. rw v (stored_at (endpoint_at B (header_at fp B)) 18 i h);
      weights = λ i h. rw v (stored_at (weight_at B (header_at fp B)) 64 i h);
    }

  pub reads_as : ReadsAs fp B (read_block fp B)
  reads_as = go (is_void (mode_at fp B)) refl where
    go : (v : Bool) → is_void (mode_at fp B) ≡ v → ReadsAs fp B (read_block fp B)
    go true v = rw (read_void fp B v) (void_reads v)
    go false v = rw (read_mode fp B v) (mode_reads v)

  -- ---- two that a block reads as are the same

  module _ (s t : SymbolicBlock) (z : Sized s) (w : Sized t) (p : ReadsAs fp B s) (q : ReadsAs fp B t) where
    list : (xs ys : List ℕ) (N : ℕ) → length xs ≡ N → length ys ≡ N → ((i : ℕ) → i < N → get_or xs i 0 ≡ get_or ys i 0) → xs ≡ ys
    list xs ys N e f h = ext_get_or 0 xs ys (e ∙ sym f) (λ i l. h i (omega arith))

    stored_list : (xs ys : List Stored) (N : ℕ) → length xs ≡ N → length ys ≡ N → ((i : ℕ) → i < N → stored_in xs i ≡ stored_in ys i) → xs ≡ ys
    stored_list xs ys N e f h = ext_get_or (stored 0) xs ys (e ∙ sym f) (λ i l. ap stored (h i (omega arith)))

    pub reads_same : s ≡ t
    reads_same =
        let e0 = p.mark ∙ sym q.mark in
        let k = p.hdr ∙ sym q.hdr in
        let e1 = list s.colours t.colours 4 z.colours_4 w.colours_4 (λ i h. p.colours i h ∙ sym (q.colours i h)) in
        let e2 = list s.extents t.extents 6 z.extents_6 w.extents_6 (λ i h. p.extents i h ∙ sym (q.extents i h)) in
        let e3 = p.width ∙ sym q.width in
        let e4 = p.height ∙ sym q.height in
        let d = p.depth ∙ sym q.depth in
        let e5 = p.range ∙ sym q.range in
        let e6 = p.planes ∙ sym q.planes in
        let e7 = p.component ∙ sym q.component in
        let e8 = p.partitions ∙ sym q.partitions in
        let e9 = p.index ∙ sym q.index in
        let e10 = p.selector ∙ sym q.selector in
        let e11 = list s.modes t.modes 4 z.modes_4 w.modes_4 (λ i h. p.modes i h ∙ sym (q.modes i h)) in
        let e12 = stored_list s.endpoints t.endpoints 18 z.endpoints_18 w.endpoints_18 (λ i h. p.endpoints i h ∙ sym (q.endpoints i h)) in
        let e13 = stored_list s.weights t.weights 64 z.weights_64 w.weights_64 (λ i h. p.weights i h ∙ sym (q.weights i h)) in
        by_fields e0 k e1 e2 e3 e4 d e5 e6 e7 e8 e9 e10 e11 e12 e13
