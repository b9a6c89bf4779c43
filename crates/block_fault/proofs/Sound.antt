-- What a block without fault is.
-- Assumes nothing.
use mathlib.Core.Path.{◌≡◌, refl}
use mathlib.Core.Bool.{Bool, true, false}
use Prim.Native.Nat.{ℕ, ◌≤◌}
use native.Mathlib.Omega.{arith}
use lib.Dec.{ltb}
use borrow.Author.Tests.{ltb-false}
use Rattle.laws.specs.Choice.{pick}
use Rattle.bits.specs.Field.{field}
use Rattle.block_mode.specs.declared.BlockMode.{BlockMode}
use Rattle.block_mode.specs.declared.BlockMode.TheVariants as mode
use Rattle.block_mode.specs.Back2D.{Limits}
use Rattle.footprint.specs.Footprint.{is_volume}
use Rattle.volume_mode.proofs.Modes.{any_limits}
use Rattle.block_header.specs.Counts.{weight_count, endpoint_count}
use Rattle.block_header.specs.Reasons.{grid_too_large, too_many_weights, weight_bits_outside, four_with_two_planes, too_many_endpoints}
use Rattle.std.specs.Prelude.{Result, Ok}
use Rattle.reason.specs.declared.Fault.{Fault}
use Rattle.reason.specs.Answers.{Finds}
use Rattle.reason.proofs.Answers.{read_is}
use Rattle.block_fault.specs.declared.Settings.{Settings}
use Rattle.block_fault.specs.declared.Contents.{Contents}
use Rattle.block_fault.specs.declared.Contents.TheVariants.{VoidExtent, Coded}
use Rattle.block_fault.specs.inner.Settings.{settings_of, contents_of}
use Rattle.block_fault.specs.Bits.{mode_at, is_void, is_reserved, grid_in, header_with, header_at}
use Rattle.block_fault.specs.Faults.{mode_reasons, fault_of}

-- a mode is a void extent, reserved or a grid
pub a_grid : (m : BlockMode) → is_void m ≡ false → is_reserved m ≡ false → m ≡ mode.Grid (grid_in m)
a_grid mode.VoidExtent v r = let z : ◌≡◌ {A = Bool} true false = v in absurd (let w : ◌≡◌ {A = ℕ} 0 1 = cc in omega arith)
a_grid mode.Reserved v r = let z : ◌≡◌ {A = Bool} true false = r in absurd (let w : ◌≡◌ {A = ℕ} 0 1 = cc in omega arith)
a_grid (mode.Grid g) v r = refl

module _ (hdr : Bool) (fp B : ℕ) where
  -- a reason that is not told does not hold, and neither does any later one
  passed : (t : Bool) (n rest : ℕ) → (n ≡ 0 → ⊥) → pick t n rest ≡ 0 → (t ≡ false) × (rest ≡ 0)
  passed true n rest h e = absurd (h e)
  passed false n rest h e = (refl, e)

  -- the grid of a coded block without fault is within the limits of the modes
  pub coded_limits : fault_of hdr fp B ≡ 0 → is_void (mode_at fp B) ≡ false → Limits (header_at fp B).grid
  unfolding fault_of mode_reasons header_at header_with mode_at
  coded_limits e v =
      let b = passed (is_reserved (mode_at fp B)) 11 _ (λ z. omega arith) (rw v at e) in
      any_limits (is_volume fp) (field B 0 11) (grid_in (mode_at fp B)) (a_grid (mode_at fp B) v b.0)

  -- a coded block without fault has at most 64 weights and 18 endpoint numbers
  pub coded_counts : fault_of hdr fp B ≡ 0 → is_void (mode_at fp B) ≡ false → (weight_count (header_at fp B).grid ≤ 64) × (endpoint_count (header_at fp B) ≤ 18)
  unfolding fault_of mode_reasons too_many_weights too_many_endpoints
  coded_counts e v =
      let h = header_at fp B in
      let a = rw v at e in
      let b = (passed (is_reserved (mode_at fp B)) 11 _ (λ z. omega arith) a).1 in
      let c = (passed (grid_too_large fp h.grid) 14 _ (λ z. omega arith) b).1 in
      let d = passed (ltb 64 (weight_count h.grid)) 15 _ (λ z. omega arith) c in
      let f = (passed (weight_bits_outside h.grid) 16 _ (λ z. omega arith) d.1).1 in
      let g = (passed (four_with_two_planes h) 17 _ (λ z. omega arith) f).1 in
      let k = passed (ltb 18 (endpoint_count h)) 18 _ (λ z. omega arith) g in
      (ltb-false 64 _ d.0, ltb-false 18 _ k.0)

-- what is read of a block: a void extent, or the settings of a coded block
module _ {n : ℕ} (fp B : ℕ) where
  pub void_read : {r : Result Contents Fault} → r ≡ Ok VoidExtent → Finds n (contents_of fp B) r → (n ≡ 0) × (is_void (mode_at fp B) ≡ true)
  unfolding contents_of
  void_read w s = let q = read_is w s in (q.0, go (is_void (mode_at fp B)) q.1) where
    go : (t : Bool) → VoidExtent ≡ pick t VoidExtent (Coded (settings_of fp B)) → t ≡ true
    go true e = refl
    go false e = absurd (let z : ◌≡◌ {A = ℕ} 0 1 = cc in omega arith)

  pub coded_read : {r : Result Contents Fault} {s : Settings} → r ≡ Ok (Coded s) → Finds n (contents_of fp B) r
      → (n ≡ 0) × (is_void (mode_at fp B) ≡ false) × (s ≡ settings_of fp B)
  unfolding contents_of
  coded_read {s = s} w e = let q = read_is w e in let k = go (is_void (mode_at fp B)) q.1 in (q.0, k.0, k.1) where
    go : (t : Bool) → Coded s ≡ pick t VoidExtent (Coded (settings_of fp B)) → (t ≡ false) × (s ≡ settings_of fp B)
    go true e = absurd (let z : ◌≡◌ {A = ℕ} 0 1 = cc in omega arith)
    go false e = (refl, cc)
