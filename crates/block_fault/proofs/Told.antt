-- The fault that is told, as the first of its list, and the list with HDR taken beside the one without.
-- Assumes nothing.
use mathlib.Core.Path.{◌≡◌, refl}
use mathlib.Core.Logic.{◌↔◌}
use mathlib.Core.Bool.{Bool, true, false}
use Prim.Native.Nat.{ℕ, ◌<◌}
use native.Mathlib.Omega.{arith}
use lib.Dec.{T, eqb}
use Rattle.laws.specs.Choice.{pick}
use Rattle.laws.specs.Reasons.{first_of, reason_at}
use Rattle.laws.proofs.Reasons as reasons
use Rattle.laws.proofs.Reasons.{numbered, none_first, first_none, none_at, at_none}
use Rattle.footprint.specs.Footprint.{is_volume}
use Rattle.void_extent.specs.Layout.{bad_void_extent, hdr_void_extent}
use Rattle.block_header.specs.Reasons.{grid_too_large, too_many_weights, weight_bits_outside, four_with_two_planes, too_many_endpoints, too_few_endpoint_bits, some_hdr, hdr_refused}
use Rattle.block_fault.specs.Bits.{mode_at, is_void, is_reserved, header_at}
use Rattle.block_fault.specs.Faults.{void_reasons, mode_reasons, fault_of}
use Rattle.block_fault.specs.Told.{fault_reasons, hdr_block, FaultsTold}

-- ---- the first of a list

module _ (hdr : Bool) (fp B : ℕ) where
  pub is_first : fault_of hdr fp B ≡ first_of (fault_reasons hdr fp B)
  unfolding fault_of fault_reasons
  is_first = go (is_void (mode_at fp B)) where
    go : (v : Bool) → pick v (first_of (void_reasons hdr fp B)) (first_of (mode_reasons hdr fp B)) ≡ first_of (pick v (void_reasons hdr fp B) (mode_reasons hdr fp B))
    go true = refl
    go false = refl

  pub all_numbered : T (numbered (fault_reasons hdr fp B))
  unfolding fault_reasons void_reasons mode_reasons
  all_numbered = go (is_void (mode_at fp B)) where
    go : (v : Bool) → T (numbered (pick v (void_reasons hdr fp B) (mode_reasons hdr fp B)))
    go true = tt
    go false = tt

  none_told : (fault_of hdr fp B ≡ 0) ↔ ((i : ℕ) → (reason_at (fault_reasons hdr fp B) i).holds ≡ false)
  none_told = (
    λ e. none_at (fault_reasons hdr fp B) (first_none (fault_reasons hdr fp B) all_numbered (rw is_first at e)),
    λ h. rw is_first (none_first (fault_reasons hdr fp B) (at_none (fault_reasons hdr fp B) (λ i l. h i))),
  )

  first_told : (i : ℕ) → (reason_at (fault_reasons hdr fp B) i).holds ≡ true → ((j : ℕ) → j < i → (reason_at (fault_reasons hdr fp B) j).holds ≡ false)
      → fault_of hdr fp B ≡ (reason_at (fault_reasons hdr fp B) i).told
  first_told i e h = rw is_first (reasons.first_told (fault_reasons hdr fp B) i e h)

-- ---- both lists

-- a list without 13 or 20, and with it
void_both : (bad h : Bool) → ◌≡◌ {A = ℕ} (pick bad 12 (pick h 13 0)) (pick (eqb (pick bad 12 0) 0) (pick h 13 0) (pick bad 12 0))
void_both true h = refl
void_both false h = refl

mode_both : (a b c d e f g h : Bool)
    → ◌≡◌ {A = ℕ} (pick a 11 (pick b 14 (pick c 15 (pick d 16 (pick e 17 (pick f 18 (pick g 19 (pick h 20 0))))))))
    (pick (eqb (pick a 11 (pick b 14 (pick c 15 (pick d 16 (pick e 17 (pick f 18 (pick g 19 0))))))) 0) (pick h 20 0)
    (pick a 11 (pick b 14 (pick c 15 (pick d 16 (pick e 17 (pick f 18 (pick g 19 0))))))))
mode_both true b c d e f g h = refl
mode_both false true c d e f g h = refl
mode_both false false true d e f g h = refl
mode_both false false false true e f g h = refl
mode_both false false false false true f g h = refl
mode_both false false false false false true g h = refl
mode_both false false false false false false true h = refl
mode_both false false false false false false false h = refl

-- neither 13 nor 20 stands in a list without them
void_other : (bad : Bool) → (◌≡◌ {A = ℕ} (pick bad 12 0) 13 → ⊥) × (◌≡◌ {A = ℕ} (pick bad 12 0) 20 → ⊥)
void_other true = (λ q. omega arith, λ q. omega arith)
void_other false = (λ q. omega arith, λ q. omega arith)

mode_other : (a b c d e f g : Bool)
    → (◌≡◌ {A = ℕ} (pick a 11 (pick b 14 (pick c 15 (pick d 16 (pick e 17 (pick f 18 (pick g 19 0))))))) 13 → ⊥)
    × (◌≡◌ {A = ℕ} (pick a 11 (pick b 14 (pick c 15 (pick d 16 (pick e 17 (pick f 18 (pick g 19 0))))))) 20 → ⊥)
mode_other true b c d e f g = (λ q. omega arith, λ q. omega arith)
mode_other false true c d e f g = (λ q. omega arith, λ q. omega arith)
mode_other false false true d e f g = (λ q. omega arith, λ q. omega arith)
mode_other false false false true e f g = (λ q. omega arith, λ q. omega arith)
mode_other false false false false true f g = (λ q. omega arith, λ q. omega arith)
mode_other false false false false false true g = (λ q. omega arith, λ q. omega arith)
mode_other false false false false false false true = (λ q. omega arith, λ q. omega arith)
mode_other false false false false false false false = (λ q. omega arith, λ q. omega arith)

module _ (fp B : ℕ) where
  never : (fault_of true fp B ≡ 13 → ⊥) × (fault_of true fp B ≡ 20 → ⊥)
  unfolding fault_of void_reasons mode_reasons hdr_refused
  never = go (is_void (mode_at fp B)) where
    go : (v : Bool) → (pick v (first_of (void_reasons true fp B)) (first_of (mode_reasons true fp B)) ≡ 13 → ⊥) × (pick v (first_of (void_reasons true fp B)) (first_of (mode_reasons true fp B)) ≡ 20 → ⊥)
    go true = void_other (bad_void_extent (is_volume fp) B)
    go false =
        let h = header_at fp B in
        mode_other (is_reserved (mode_at fp B)) (grid_too_large fp h.grid) (too_many_weights h.grid) (weight_bits_outside h.grid) (four_with_two_planes h)
        (too_many_endpoints h) (too_few_endpoint_bits h)

  other_kinds : fault_of false fp B ≡ pick (eqb (fault_of true fp B) 0) (pick (hdr_block fp B) (pick (is_void (mode_at fp B)) 13 20) 0) (fault_of true fp B)
  unfolding fault_of hdr_block void_reasons mode_reasons hdr_refused
  other_kinds = go (is_void (mode_at fp B)) where
    go : (v : Bool) → pick v (first_of (void_reasons false fp B)) (first_of (mode_reasons false fp B))
        ≡ pick (eqb (pick v (first_of (void_reasons true fp B)) (first_of (mode_reasons true fp B))) 0) (pick (pick v (hdr_void_extent B) (some_hdr (header_at fp B))) (pick v 13 20) 0)
        (pick v (first_of (void_reasons true fp B)) (first_of (mode_reasons true fp B)))
    go true = void_both (bad_void_extent (is_volume fp) B) (hdr_void_extent B)
    go false =
        let h = header_at fp B in
        mode_both (is_reserved (mode_at fp B)) (grid_too_large fp h.grid) (too_many_weights h.grid) (weight_bits_outside h.grid) (four_with_two_planes h)
        (too_many_endpoints h) (too_few_endpoint_bits h) (some_hdr h)

-- ---- the whole

pub told : FaultsTold
told = record {
  none_told = none_told;
  first_told = first_told;
  never_13 = λ fp B. (never fp B).0;
  never_20 = λ fp B. (never fp B).1;
  other_kinds = other_kinds;
}
