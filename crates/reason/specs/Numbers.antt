-- The number of each reason, as the rules list them, and the number that an answer tells: 0 where there is none.
-- Assumes nothing.
use Rattle.std.specs.Prelude.{ℕ, Option, Some, None, Result, Ok, Err}
use Rattle.reason.specs.declared.Fault.{Fault}
use Rattle.reason.specs.declared.Fault.TheVariants.{ReservedMode, VoidExtent, HdrVoidExtent, GridTooLarge, TooManyWeights, WeightBits, FourWithTwoPlanes, TooManyEndpoints, EndpointBits, HdrEndpoints, NotCanonical}
use Rattle.reason.specs.declared.Refusal.{Refusal}
use Rattle.reason.specs.declared.Refusal.TheVariants.{Footprint, Kind, Side, Bytes, Places, Faulty, Field, BlockMode, Modes, Numbers, HdrMark, ShortFile, FileStart, FileShape, Place, ClipVersion, FrameLength, ClipEnd, PvrtcSide, Bc7Mode, Bc7Field}

abbrev pub fault_number : Fault → ℕ
fault_number ReservedMode = 11
fault_number VoidExtent = 12
fault_number HdrVoidExtent = 13
fault_number GridTooLarge = 14
fault_number TooManyWeights = 15
fault_number WeightBits = 16
fault_number FourWithTwoPlanes = 17
fault_number TooManyEndpoints = 18
fault_number EndpointBits = 19
fault_number HdrEndpoints = 20
fault_number NotCanonical = 21

abbrev pub refusal_number : Refusal → ℕ
refusal_number Footprint = 1
refusal_number Kind = 2
refusal_number Side = 3
refusal_number Bytes = 4
refusal_number Places = 5
refusal_number (Faulty fault) = fault_number fault
refusal_number Field = 31
refusal_number BlockMode = 32
refusal_number Modes = 33
refusal_number Numbers = 34
refusal_number HdrMark = 35
refusal_number ShortFile = 41
refusal_number FileStart = 42
refusal_number FileShape = 43
refusal_number Place = 44
refusal_number ClipVersion = 51
refusal_number FrameLength = 52
refusal_number ClipEnd = 53
refusal_number PvrtcSide = 61
refusal_number Bc7Mode = 72
refusal_number Bc7Field = 73

-- the fault that is told, 0 for none
abbrev pub fault_told : Option Fault → ℕ
fault_told None = 0
fault_told (Some fault) = fault_number fault

-- the refusal that is told, 0 where a call is not refused
abbrev pub refusal_told : {A : Type 0} → Result A Refusal → ℕ
refusal_told (Ok x) = 0
refusal_told (Err refusal) = refusal_number refusal

-- the fault of a block that is read, 0 where it has none
abbrev pub fault_found : {A : Type 0} → Result A Fault → ℕ
fault_found (Ok x) = 0
fault_found (Err fault) = fault_number fault
