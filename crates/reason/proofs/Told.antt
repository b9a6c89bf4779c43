-- A refusal and a fault are never told as 0.
-- Assumes nothing.
use Rattle.std.proofs.Common.{◌≡◌, ◌<◌, arith}
use Rattle.reason.specs.declared.Fault.{Fault}
use Rattle.reason.specs.declared.Fault.TheVariants.{ReservedMode, VoidExtent, HdrVoidExtent, GridTooLarge, TooManyWeights, WeightBits, FourWithTwoPlanes, TooManyEndpoints, EndpointBits, HdrEndpoints, NotCanonical}
use Rattle.reason.specs.declared.Refusal.{Refusal}
use Rattle.reason.specs.declared.Refusal.TheVariants.{Footprint, Kind, Side, Bytes, Places, Faulty, Field, BlockMode, Modes, Numbers, HdrMark, ShortFile, FileStart, FileShape, Place, ClipVersion, FrameLength, ClipEnd, PvrtcSide, Bc7Mode, Bc7Field}
use Rattle.reason.specs.Numbers.{fault_number, refusal_number}

pub fault_some : (fault : Fault) → 0 < fault_number fault
fault_some ReservedMode = omega arith
fault_some VoidExtent = omega arith
fault_some HdrVoidExtent = omega arith
fault_some GridTooLarge = omega arith
fault_some TooManyWeights = omega arith
fault_some WeightBits = omega arith
fault_some FourWithTwoPlanes = omega arith
fault_some TooManyEndpoints = omega arith
fault_some EndpointBits = omega arith
fault_some HdrEndpoints = omega arith
fault_some NotCanonical = omega arith

pub refusal_some : (refusal : Refusal) → 0 < refusal_number refusal
refusal_some Footprint = omega arith
refusal_some Kind = omega arith
refusal_some Side = omega arith
refusal_some Bytes = omega arith
refusal_some Places = omega arith
refusal_some (Faulty fault) = fault_some fault
refusal_some Field = omega arith
refusal_some BlockMode = omega arith
refusal_some Modes = omega arith
refusal_some Numbers = omega arith
refusal_some HdrMark = omega arith
refusal_some ShortFile = omega arith
refusal_some FileStart = omega arith
refusal_some FileShape = omega arith
refusal_some Place = omega arith
refusal_some ClipVersion = omega arith
refusal_some FrameLength = omega arith
refusal_some ClipEnd = omega arith
refusal_some PvrtcSide = omega arith
refusal_some Bc7Mode = omega arith
refusal_some Bc7Field = omega arith
