-- Each number is that of one reason: the reason is found again from it.
-- Assumes nothing.
use mathlib.Core.Path.{◌≡◌, refl, sym, ap, ◌∙◌}
use mathlib.Core.Bool.{Bool, true, false}
use Prim.Native.Nat.{ℕ, ◌+◌, ◌<◌}
use native.Mathlib.Omega.{arith}
use lib.Dec.{eqb, ltb}
use Rattle.std.specs.Prelude.{Result, Ok, Err}
use Rattle.laws.specs.Choice.{pick}
use Rattle.reason.specs.declared.Fault.{Fault}
use Rattle.reason.specs.declared.Fault.TheVariants.{ReservedMode, VoidExtent, HdrVoidExtent, GridTooLarge, TooManyWeights, WeightBits, FourWithTwoPlanes, TooManyEndpoints, EndpointBits, HdrEndpoints, NotCanonical}
use Rattle.reason.specs.declared.Refusal.{Refusal}
use Rattle.reason.specs.declared.Refusal.TheVariants.{Footprint, Kind, Side, Bytes, Places, Faulty, Field, BlockMode, Modes, Numbers, HdrMark, ShortFile, FileStart, FileShape, Place, ClipVersion, FrameLength, ClipEnd, PvrtcSide, Bc7Mode, Bc7Field}
use Rattle.reason.specs.Numbers.{fault_number, refusal_number}
use Rattle.reason.specs.Answers.{Answers, Finds}
use Rattle.reason.proofs.Told.{fault_some, refusal_some}
use Rattle.reason_numbers.specs.Apart.{Apart}

-- the fault of a number
fault_at : ℕ → Fault
fault_at n = pick (eqb n 11) ReservedMode (pick (eqb n 12) VoidExtent (pick (eqb n 13) HdrVoidExtent (pick (eqb n 14) GridTooLarge (pick (eqb n 15) TooManyWeights (pick (eqb n 16) WeightBits (pick (eqb n 17) FourWithTwoPlanes (pick (eqb n 18) TooManyEndpoints (pick (eqb n 19) EndpointBits (pick (eqb n 20) HdrEndpoints NotCanonical)))))))))

fault_back : (f : Fault) → fault_at (fault_number f) ≡ f
unfolding fault_at
fault_back ReservedMode = refl
fault_back VoidExtent = refl
fault_back HdrVoidExtent = refl
fault_back GridTooLarge = refl
fault_back TooManyWeights = refl
fault_back WeightBits = refl
fault_back FourWithTwoPlanes = refl
fault_back TooManyEndpoints = refl
fault_back EndpointBits = refl
fault_back HdrEndpoints = refl
fault_back NotCanonical = refl

-- the refusal of a number; from 11 to 21 it is a fault's
refusal_at : ℕ → Refusal
refusal_at n = pick (eqb n 1) Footprint (pick (eqb n 2) Kind (pick (eqb n 3) Side (pick (eqb n 4) Bytes (pick (eqb n 5) Places (pick (eqb n 31) Field (pick (eqb n 32) BlockMode (pick (eqb n 33) Modes (pick (eqb n 34) Numbers (pick (eqb n 35) HdrMark (pick (eqb n 41) ShortFile (pick (eqb n 42) FileStart (pick (eqb n 43) FileShape (pick (eqb n 44) Place (pick (eqb n 51) ClipVersion (pick (eqb n 52) FrameLength (pick (eqb n 53) ClipEnd (pick (eqb n 61) PvrtcSide (pick (eqb n 72) Bc7Mode (pick (eqb n 73) Bc7Field (Faulty (fault_at n)))))))))))))))))))))

refusal_back : (r : Refusal) → refusal_at (refusal_number r) ≡ r
unfolding refusal_at fault_at
refusal_back Footprint = refl
refusal_back Kind = refl
refusal_back Side = refl
refusal_back Bytes = refl
refusal_back Places = refl
refusal_back Field = refl
refusal_back BlockMode = refl
refusal_back Modes = refl
refusal_back Numbers = refl
refusal_back HdrMark = refl
refusal_back ShortFile = refl
refusal_back FileStart = refl
refusal_back FileShape = refl
refusal_back Place = refl
refusal_back ClipVersion = refl
refusal_back FrameLength = refl
refusal_back ClipEnd = refl
refusal_back PvrtcSide = refl
refusal_back Bc7Mode = refl
refusal_back Bc7Field = refl
refusal_back (Faulty ReservedMode) = refl
refusal_back (Faulty VoidExtent) = refl
refusal_back (Faulty HdrVoidExtent) = refl
refusal_back (Faulty GridTooLarge) = refl
refusal_back (Faulty TooManyWeights) = refl
refusal_back (Faulty WeightBits) = refl
refusal_back (Faulty FourWithTwoPlanes) = refl
refusal_back (Faulty TooManyEndpoints) = refl
refusal_back (Faulty EndpointBits) = refl
refusal_back (Faulty HdrEndpoints) = refl
refusal_back (Faulty NotCanonical) = refl

same_fault : (f g : Fault) → fault_number f ≡ fault_number g → f ≡ g
same_fault f g e = sym (fault_back f) ∙ ap fault_at e ∙ fault_back g

same_refusal : (r s : Refusal) → refusal_number r ≡ refusal_number s → r ≡ s
same_refusal r s e = sym (refusal_back r) ∙ ap refusal_at e ∙ refusal_back s

pub apart : Apart
apart = record { faults = same_fault; refusals = same_refusal; one_answer = answer; one_reading = reading } where
  answer : {A : Type 0} (n : ℕ) (x : A) (r s : Result A Refusal) → Answers n x r → Answers n x s → r ≡ s
  answer n x (Ok y) (Ok z) p q = ap Ok (p.1 ∙ sym q.1)
  answer n x (Ok y) (Err b) p q = absurd (omega (arith, refusal_some b, p.0, q))
  answer n x (Err a) (Ok z) p q = absurd (omega (arith, refusal_some a, q.0, p))
  answer n x (Err a) (Err b) p q = ap Err (same_refusal a b (p ∙ sym q))

  reading : {A : Type 0} (n : ℕ) (x : A) (r s : Result A Fault) → Finds n x r → Finds n x s → r ≡ s
  reading n x (Ok y) (Ok z) p q = ap Ok (p.1 ∙ sym q.1)
  reading n x (Ok y) (Err b) p q = absurd (omega (arith, fault_some b, p.0, q))
  reading n x (Err a) (Ok z) p q = absurd (omega (arith, fault_some a, q.0, p))
  reading n x (Err a) (Err b) p q = ap Err (same_fault a b (p ∙ sym q))
