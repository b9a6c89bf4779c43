use mathlib.Core.Path.{◌≡◌, subst}
use Prim.Native.Nat.{ℕ, ◌*◌, ◌^◌, ◌≤◌}
use native.Mathlib.Omega.{arith}
use Rattle.encoding.specs.declared.Encoding.{Encoding}
use Rattle.encoding.specs.Encoding.{radix}
use Rattle.weight_reader.proofs.read_by.Goals as goal

of : {κ μ : Encoding} (b : ℕ) → κ ≡ μ → radix κ * 2 ^ b ≤ 32 → radix μ * 2 ^ b ≤ 32
of b q h = subst (λ (x : Encoding). radix x * 2 ^ b ≤ 32) q h

pub read_groups-requires : goal.read_groups-requires
read_groups-requires c = (of _ c.in-Bits.is c.requires.0, omega arith)

pub read_groups-requires-in-Trits : goal.read_groups-requires-in-Trits
read_groups-requires-in-Trits c = (of _ c.in-Trits.is c.requires.0, omega arith)

pub read_groups-requires-in-Quints : goal.read_groups-requires-in-Quints
read_groups-requires-in-Quints c = (of _ c.in-Quints.is c.requires.0, omega arith)

pub returns-in-Bits : goal.returns-in-Bits
returns-in-Bits c = rw c.in-Bits.is c.read_groups.ensures

pub returns-in-Trits : goal.returns-in-Trits
returns-in-Trits c = rw c.in-Trits.is c.read_groups-in-Trits.ensures

pub returns-in-Quints : goal.returns-in-Quints
returns-in-Quints c = rw c.in-Quints.is c.read_groups-in-Quints.ensures
