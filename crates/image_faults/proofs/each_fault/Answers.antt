use mathlib.Core.Path.{◌≡◌, refl, sym, ap, ◌∙◌}
use Prim.Native.Nat.{ℕ, ◌+◌, ◌-◌}
use mathlib.Core.List.{List}
use native.Mathlib.Omega.{arith}
use lib.ListN.{length}
use Rattle.laws.proofs.Filling.{filling_start, filling_more, filling_done}
use Rattle.interpolation.specs.Expansion.{takes_hdr}
use Rattle.block_reading.specs.declared.Reading.{Reading}
use Rattle.block_reading.specs.Faults.{fault_in}
use Rattle.interpolation.specs.declared.Kind.{Kind}
use Rattle.image_layout.specs.declared.Tally.{Tally}
use Rattle.image_layout.specs.inner.Noted.{noted}
use Rattle.image_layout.specs.Numbers.{block_at, fault_at_in}
use Rattle.image_layout.specs.Faulty.{tally_of}
use Rattle.image_layout.proofs.Tallies.{tally_start, tally_more, tally_le}
use Rattle.image_faults.proofs.each_fault.Goals as goal

-- the fault that is stored and noted
fault_is : (reading : Reading) (kind : Kind) (fp : ℕ) (s : List ℕ) (b B e : ℕ) → e ≡ fault_in reading (takes_hdr kind) fp B → B ≡ block_at s b → e ≡ fault_at_in reading fp kind s b
unfolding fault_at_in
fault_is reading kind fp s b B e p q = p ∙ ap (fault_in reading (takes_hdr kind) fp) q

noted_is : (f : ℕ → ℕ) (n : ℕ) (t : Tally) (e : ℕ) → t ≡ tally_of f n → e ≡ f n → noted t n e ≡ tally_of f (n + 1)
noted_is f n t e p q = rw (p, q) (tally_more f n)

pub loop-b-init : goal.loop-b-init
loop-b-init c = (filling_start _ 0 _ _ refl, sym (tally_start _))

pub note-t-requires : goal.note-t-requires
note-t-requires c = let l = c.loop-b in (tally_le _ l.b l.t l.invariant.1, omega arith)

pub loop-b-preserved : goal.loop-b-preserved
loop-b-preserved c =
    let l = c.loop-b in
    let e = fault_is _ _ _ _ _ _ _ c.fault_of-e.ensures c.block_of.ensures in
    (filling_more _ 0 _ _ _ _ (omega arith) l.invariant.0 e, c.note-t.ensures ∙ noted_is _ l.b _ _ l.invariant.1 e)

pub returns : goal.returns
returns c =
    let l = c.loop-b in
    let e : l.b ≡ length c.args.faults.now = omega arith in
    record { value = l.invariant.1 ∙ ap (tally_of _) e; faults_after = filling_done _ 0 _ _ _ e l.invariant.0 }
