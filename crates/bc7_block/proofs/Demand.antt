-- The proof of demand 3 for BC7 over the definitions (specs/Demand), all eight modes at once.
-- Assumes nothing.
use mathlib.Core.Path.{◌≡◌, refl, sym, ap, ap₂, subst, fun_ext, ◌∙◌}
use mathlib.Core.Logic.{◌↔◌}
use mathlib.Core.Bool.{Bool, true, false}
use Prim.Native.Nat.{ℕ, zero, suc, ◌+◌, ◌-◌, ◌*◌, ◌/◌, ◌%◌, ◌^◌, ◌≤◌, ◌<◌}
use native.Mathlib.Nat.{lt_of_lt_of_le, add-zero, mod-eq_of_lt}
use native.Mathlib.Omega.{arith}
use native.Mathlib.Decide.{dec_lt}
use lib.Dec.{T, eqb}
use lib.Pow.{pow_pos, pow-lt, pow_mono}
use borrow.Author.Tests.{eqb-true, eqb-false, ne_eqb}
use Rattle.laws.specs.Choice.{pick}
use Rattle.laws.proofs.Reasons.{None, none_at, at_none, first_told}
use Rattle.bits.specs.Field.{field, stream}
use Rattle.bits.proofs.Fields.{field_lt, field_low, field_past, pos_mono, restream, stream_lt, stream_at, stream_ext}
use Rattle.bc7_layout.specs.Modes.{partition_bits}
use Rattle.bc7_layout.specs.Layout.{field_width, place_of, first_byte, mode_at, is_reserved, partition_field_at, field_at}
use Rattle.bc7_layout.proofs.Tables.{filled_block, mode_lt, mode_mark, mark_mode}
use Rattle.bc7_block.specs.declared.Bc7Block.{Bc7Block}
use Rattle.bc7_block.specs.Fields.{value_in, Sized}
use Rattle.bc7_block.specs.Refusals.{refusals, refusal_of, Acceptable}
use Rattle.bc7_block.specs.Reading.{fault_of, bc7_block, read_block, ReadsAs}
use Rattle.bc7_block.specs.Writing.{block_of}
use Rattle.bc7_block.specs.Picture.{texel_of, picture_of, block_texel}
use Rattle.bc7_block.specs.Demand.{Demand3}
use Rattle.bc7_block.proofs.Views.{value_past, made_sized, made_at, made_mark, made_same, remade}
use Rattle.bc7_block.proofs.Fits.{Fitting, refusal_is, none, accepted, fitting, acceptable}

-- where fields begin
next : (m p k : ℕ) → place_of m p (suc k) ≡ field_width m p k + place_of m p k
unfolding place_of
next m p k = refl

-- the mode's mark lies at bit 0
mark_place : (m p : ℕ) → place_of m p 0 ≡ 0
unfolding place_of
mark_place m p = refl

mark_width : (m p : ℕ) → field_width m p 0 ≡ m + 1
unfolding field_width
mark_width m p = refl

-- and the partition behind it, in every partition
partition_place : (m p : ℕ) → place_of m p 1 ≡ m + 1
partition_place m p = next m p 0 ∙ ap₂ ◌+◌ (mark_width m p) (mark_place m p) ∙ add-zero (m + 1)

partition_width : (m p : ℕ) → field_width m p 1 ≡ partition_bits m
unfolding field_width
partition_width m p = refl

-- ---- a block that begins with a mode's mark

-- the low m + 1 bits of the first byte are those of the block
low_byte : (B m : ℕ) → m < 8 → field B 0 8 % 2 ^ (m + 1) ≡ field B 0 (m + 1)
low_byte B m h =
    let d : 8 ≡ 7 - m + (m + 1) = omega arith in
    ap (λ (n : ℕ). field B 0 n % 2 ^ (m + 1)) d ∙ field_low B 0 (7 - m) (m + 1)

module _ (B m : ℕ) (h : m < 8) (e : field B 0 (m + 1) ≡ 2 ^ m) where
  pub mode_is : mode_at B ≡ m
  unfolding mode_at first_byte
  mode_is = mark_mode m (field B 0 8) h (field_lt B 0 8) (low_byte B m h ∙ e)

  pub not_reserved : is_reserved B ≡ false
  unfolding is_reserved first_byte
  not_reserved = ne_eqb (field B 0 8) 0 (λ q. let z : 0 % 2 ^ (m + 1) ≡ 2 ^ m = sym (ap (λ (n : ℕ). n % 2 ^ (m + 1)) q) ∙ low_byte B m h ∙ e in
      let y : 0 % 2 ^ (m + 1) ≡ 0 = mod-eq_of_lt (pow_pos (m + 1)) in omega (arith, pow_pos m))

-- ---- writing

module _ (s : Bc7Block) (z : Sized s) (f : Fitting s) where
  -- every field fits, also past the last
  small : (k : ℕ) → value_in s k < 2 ^ field_width s.mode s.partition k
  small k =
      elim (dec_lt k 60) [
        | yes l ↦ f.fields k l
        | no l ↦ rw (value_past s z k (omega arith)) (pow_pos (field_width s.mode s.partition k))
      ]

  partition_value : value_in s 1 ≡ s.partition
  unfolding value_in
  partition_value = refl

  partition_fits : s.partition < 2 ^ partition_bits s.mode
  unfolding value_in field_width
  partition_fits = f.fields 1 (omega arith)

  end : place_of s.mode s.partition 60 ≡ 128
  end = filled_block s.mode s.partition f.mode partition_fits

  pub fits_block : block_of s < 2 ^ 128
  unfolding block_of
  fits_block =
      subst (λ (n : ℕ). block_of s < 2 ^ n) end
      (stream_lt (place_of s.mode s.partition) (field_width s.mode s.partition) (next s.mode s.partition) (value_in s) small 60)

  -- what was laid at a place is read there
  laid : (k : ℕ) → k < 60 → field (block_of s) (place_of s.mode s.partition k) (field_width s.mode s.partition k) ≡ value_in s k
  unfolding block_of
  laid k l = stream_at (place_of s.mode s.partition) (field_width s.mode s.partition) (next s.mode s.partition) (value_in s) small 60 k l

  mark : field (block_of s) 0 (s.mode + 1) ≡ 2 ^ s.mode
  unfolding value_in place_of field_width
  mark = laid 0 (omega arith)

  pub mode_back : mode_at (block_of s) ≡ s.mode
  mode_back = mode_is (block_of s) s.mode f.mode mark

  pub partition_back : partition_field_at (block_of s) ≡ s.partition
  unfolding partition_field_at
  partition_back =
      ap (λ (n : ℕ). field (block_of s) (n + 1) (partition_bits n)) mode_back
      ∙ ap₂ (field (block_of s)) (sym (partition_place s.mode s.partition)) (sym (partition_width s.mode s.partition))
      ∙ laid 1 (omega arith) ∙ partition_value

  pub fields_back : (k : ℕ) → field_at (block_of s) k ≡ value_in s k
  unfolding field_at
  fields_back k =
      ap₂ (λ (n q : ℕ). field (block_of s) (place_of n q k) (field_width n q k)) mode_back partition_back
      ∙ elim (dec_lt k 60) [
        | yes l ↦ laid k l
        | no l ↦
            let far : 128 ≤ place_of s.mode s.partition k =
            subst (λ (n : ℕ). n ≤ place_of s.mode s.partition k) end
            (pos_mono (place_of s.mode s.partition) (field_width s.mode s.partition) (next s.mode s.partition) k 60 (omega arith)) in
            field_past (block_of s) _ _ (lt_of_lt_of_le fits_block (pow_mono far)) ∙ sym (value_past s z k (omega arith))
      ]

  pub no_fault : fault_of (block_of s) ≡ 0
  unfolding fault_of
  no_fault = rw (not_reserved (block_of s) s.mode f.mode mark)

  pub reads_back : read_block (block_of s) ≡ s
  unfolding read_block
  reads_back = made_same (mode_at (block_of s)) s.mode (field_at (block_of s)) (value_in s) mode_back (λ k l. fields_back k) ∙ remade s z

  pub shows : (i c : ℕ) → block_texel (block_of s) i c ≡ picture_of s i c
  unfolding block_texel picture_of
  shows i c =
      rw (not_reserved (block_of s) s.mode f.mode mark)
      (ap₂ (λ (n : ℕ) (v : ℕ → ℕ). texel_of n v i c) mode_back (fun_ext fields_back))

-- ---- reading

pub width_holds : (B k : ℕ) → field_at B k < 2 ^ field_width (mode_at B) (partition_field_at B) k
unfolding field_at
width_holds B k = field_lt B (place_of (mode_at B) (partition_field_at B) k) (field_width (mode_at B) (partition_field_at B) k)

-- a block is the stream of its fields
refielded : (B : ℕ) → stream (place_of (mode_at B) (partition_field_at B)) (field_at B) 60 ≡ B % 2 ^ place_of (mode_at B) (partition_field_at B) 60
unfolding field_at
refielded B =
    restream (place_of (mode_at B) (partition_field_at B)) (field_width (mode_at B) (partition_field_at B)) (next (mode_at B) (partition_field_at B))
    (mark_place (mode_at B) (partition_field_at B)) B 60

module _ (B : ℕ) (sound : fault_of B ≡ 0) where
  pub sound_bit : is_reserved B ≡ false
  unfolding fault_of
  sound_bit = go (is_reserved B) refl where
    go : (b : Bool) → is_reserved B ≡ b → is_reserved B ≡ false
    go true e = absurd (let w : 71 ≡ 0 = sym (ap (λ (t : Bool). pick t 71 0) e) ∙ sound in omega arith)
    go false e = e

  byte_set : field B 0 8 ≡ 0 → ⊥
  unfolding is_reserved first_byte
  byte_set = eqb-false (field B 0 8) 0 sound_bit

  pub read_mode_lt : mode_at B < 8
  unfolding mode_at first_byte
  read_mode_lt = mode_lt (field B 0 8) (field_lt B 0 8) byte_set

  -- it begins with its mode's mark
  read_mark : field B 0 (mode_at B + 1) ≡ 2 ^ mode_at B
  unfolding mode_at first_byte
  read_mark = sym (low_byte B (mode_at B) read_mode_lt) ∙ mode_mark (field B 0 8) (field_lt B 0 8) byte_set

  read_mark_at : field_at B 0 ≡ 2 ^ mode_at B
  unfolding field_at
  read_mark_at = ap₂ (field B) (mark_place (mode_at B) (partition_field_at B)) (mark_width (mode_at B) (partition_field_at B)) ∙ read_mark

  -- the partition is field 1
  pub read_partition : field_at B 1 ≡ partition_field_at B
  unfolding field_at partition_field_at
  read_partition = ap₂ (field B) (partition_place (mode_at B) (partition_field_at B)) (partition_width (mode_at B) (partition_field_at B))

  pub partition_lt : partition_field_at B < 2 ^ partition_bits (mode_at B)
  unfolding partition_field_at
  partition_lt = field_lt B (mode_at B + 1) (partition_bits (mode_at B))

  pub read_end : place_of (mode_at B) (partition_field_at B) 60 ≡ 128
  read_end = filled_block (mode_at B) (partition_field_at B) read_mode_lt partition_lt

  pub read_mode : (read_block B).mode ≡ mode_at B
  unfolding read_block bc7_block
  read_mode = refl

  pub read_part : (read_block B).partition ≡ partition_field_at B
  unfolding read_block bc7_block
  read_part = read_partition

  pub read_at : (k : ℕ) → k < 60 → value_in (read_block B) k ≡ field_at B k
  unfolding read_block
  read_at zero l = made_mark (mode_at B) (field_at B) ∙ sym read_mark_at
  read_at (suc k) l = made_at (mode_at B) (field_at B) (suc k) (omega arith) l

  pub read_sized : Sized (read_block B)
  unfolding read_block
  read_sized = made_sized (mode_at B) (field_at B)

  pub read_fitting : Fitting (read_block B)
  read_fitting = record {
    mode = rw read_mode read_mode_lt;
    fields = λ k l. rw (read_at k l, read_mode, read_part) (width_holds B k);
  }

  pub read_as : ReadsAs B (read_block B)
  read_as = record { mode = read_mode; fields = read_at }

  pub read_one : (s : Bc7Block) → Sized s → ReadsAs B s → s ≡ read_block B
  unfolding read_block
  read_one s z r = sym (remade s z) ∙ made_same s.mode (mode_at B) (value_in s) (field_at B) r.mode r.fields

  -- what is written for it is the block again
  pub rewritten : B < 2 ^ 128 → block_of (read_block B) ≡ B
  unfolding block_of
  rewritten h =
      ap₂ (λ (n q : ℕ). stream (place_of n q) (value_in (read_block B)) 60) read_mode read_part
      ∙ stream_ext (place_of (mode_at B) (partition_field_at B)) (value_in (read_block B)) (field_at B) 60 read_at
      ∙ refielded B ∙ ap (λ (n : ℕ). B % 2 ^ n) read_end ∙ mod-eq_of_lt h

pub demand_3 : Demand3
demand_3 = record {
  refused_exactly = λ s. (λ a. none_at (refusals s) (none s a), λ h. accepted s (at_none (refusals s) (λ i l. h i)));
  first_is_told = λ s i e h. refusal_is s ∙ first_told (refusals s) i e h;
  written_fits = λ s z a. fits_block s z (fitting s a);
  written_no_fault = λ s z a. no_fault s z (fitting s a);
  written_reads_back = λ s z a. reads_back s z (fitting s a);
  written_shows = λ s z a. shows s z (fitting s a);
  read_sized = λ B e. read_sized B e;
  read_acceptable = λ B e. acceptable (read_block B) (read_fitting B e);
  reads_as = λ B e. read_as B e;
  reads_as_one = λ B s e z r. read_one B e s z r;
  rewritten_same = λ B h e. rewritten B e h;
  read_shows = λ B h e i c.
      ap (λ (n : ℕ). block_texel n i c) (sym (rewritten B e h)) ∙ shows (read_block B) (read_sized B e) (read_fitting B e) i c;
}
