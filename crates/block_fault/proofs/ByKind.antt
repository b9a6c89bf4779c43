-- A block without fault where HDR is taken has at most 13 or 20 where it is not: exactly where it is HDR.
-- Assumes nothing.
use mathlib.Core.Path.{◌≡◌, refl}
use mathlib.Core.Bool.{Bool, true, false}
use Prim.Native.Nat.{ℕ}
use native.Mathlib.Omega.{arith}
use Rattle.laws.specs.Choice.{pick}
use Rattle.laws.specs.Reasons.{first_of}
use Rattle.block_header.specs.Reasons.{grid_too_large, too_many_weights, weight_bits_outside, four_with_two_planes, too_many_endpoints, too_few_endpoint_bits, some_hdr, hdr_refused}
use Rattle.block_fault.specs.Bits.{mode_at, is_void, is_reserved, header_at}
use Rattle.footprint.specs.Footprint.{is_volume}
use Rattle.void_extent.specs.Layout.{bad_void_extent, hdr_void_extent}
use Rattle.block_fault.specs.Faults.{void_reasons, mode_reasons, fault_of}
use Rattle.block_fault.specs.Told.{hdr_block}

void_both : (bad h : Bool) → ◌≡◌ {A = ℕ} (pick bad 12 0) 0 → ◌≡◌ {A = ℕ} (pick bad 12 (pick h 13 0)) (pick h 13 0)
void_both true h e = absurd (omega arith)
void_both false h e = refl

mode_both : (a b c d e f g h : Bool)
    → ◌≡◌ {A = ℕ} (pick a 11 (pick b 14 (pick c 15 (pick d 16 (pick e 17 (pick f 18 (pick g 19 0))))))) 0
    → ◌≡◌ {A = ℕ} (pick a 11 (pick b 14 (pick c 15 (pick d 16 (pick e 17 (pick f 18 (pick g 19 (pick h 20 0)))))))) (pick h 20 0)
mode_both true b c d e f g h z = absurd (omega arith)
mode_both false true c d e f g h z = absurd (omega arith)
mode_both false false true d e f g h z = absurd (omega arith)
mode_both false false false true e f g h z = absurd (omega arith)
mode_both false false false false true f g h z = absurd (omega arith)
mode_both false false false false false true g h z = absurd (omega arith)
mode_both false false false false false false true h z = absurd (omega arith)
mode_both false false false false false false false h z = refl

module _ (fp B : ℕ) where
  void_ldr : first_of (void_reasons true fp B) ≡ 0 → first_of (void_reasons false fp B) ≡ pick (hdr_void_extent B) 13 0
  unfolding void_reasons
  void_ldr e = void_both (bad_void_extent (is_volume fp) B) (hdr_void_extent B) e

  mode_ldr : first_of (mode_reasons true fp B) ≡ 0 → first_of (mode_reasons false fp B) ≡ pick (some_hdr (header_at fp B)) 20 0
  unfolding mode_reasons hdr_refused
  mode_ldr e =
      let h = header_at fp B in
      mode_both (is_reserved (mode_at fp B)) (grid_too_large fp h.grid) (too_many_weights h.grid) (weight_bits_outside h.grid) (four_with_two_planes h)
      (too_many_endpoints h) (too_few_endpoint_bits h) (some_hdr h) e

  -- the fault in kinds 0 and 1 of a block that has none in kind 2
  pub fault_ldr : fault_of true fp B ≡ 0 → fault_of false fp B ≡ pick (hdr_block fp B) (pick (is_void (mode_at fp B)) 13 20) 0
  unfolding fault_of hdr_block
  fault_ldr e = go (is_void (mode_at fp B)) refl e where
    go : (v : Bool) → is_void (mode_at fp B) ≡ v → pick v (first_of (void_reasons true fp B)) (first_of (mode_reasons true fp B)) ≡ 0
        → pick v (first_of (void_reasons false fp B)) (first_of (mode_reasons false fp B)) ≡ pick (pick v (hdr_void_extent B) (some_hdr (header_at fp B))) (pick v 13 20) 0
    go true q z = void_ldr z
    go false q z = mode_ldr z

  -- a block that has none in kinds 0 and 1 has none in kind 2
  pub fault_hdr : fault_of false fp B ≡ 0 → fault_of true fp B ≡ 0
  unfolding fault_of void_reasons mode_reasons hdr_refused
  fault_hdr e = go (is_void (mode_at fp B)) e where
    void : (bad h : Bool) → ◌≡◌ {A = ℕ} (pick bad 12 (pick h 13 0)) 0 → ◌≡◌ {A = ℕ} (pick bad 12 0) 0
    void true h z = absurd (omega arith)
    void false h z = refl

    mode : (a b c d e f g h : Bool)
        → ◌≡◌ {A = ℕ} (pick a 11 (pick b 14 (pick c 15 (pick d 16 (pick e 17 (pick f 18 (pick g 19 (pick h 20 0)))))))) 0
        → ◌≡◌ {A = ℕ} (pick a 11 (pick b 14 (pick c 15 (pick d 16 (pick e 17 (pick f 18 (pick g 19 0))))))) 0
    mode true b c d e f g h z = absurd (omega arith)
    mode false true c d e f g h z = absurd (omega arith)
    mode false false true d e f g h z = absurd (omega arith)
    mode false false false true e f g h z = absurd (omega arith)
    mode false false false false true f g h z = absurd (omega arith)
    mode false false false false false true g h z = absurd (omega arith)
    mode false false false false false false true h z = absurd (omega arith)
    mode false false false false false false false h z = refl

    go : (v : Bool) → pick v (first_of (void_reasons false fp B)) (first_of (mode_reasons false fp B)) ≡ 0 → pick v (first_of (void_reasons true fp B)) (first_of (mode_reasons true fp B)) ≡ 0
    go true z = void (bad_void_extent (is_volume fp) B) (hdr_void_extent B) z
    go false z =
        let h = header_at fp B in
        mode (is_reserved (mode_at fp B)) (grid_too_large fp h.grid) (too_many_weights h.grid) (weight_bits_outside h.grid) (four_with_two_planes h)
        (too_many_endpoints h) (too_few_endpoint_bits h) (some_hdr h) z
