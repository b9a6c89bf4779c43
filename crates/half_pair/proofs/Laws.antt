-- Room for the ends of each HDR mode.
-- Assumes nothing.
use mathlib.Core.Path.{◌≡◌, refl, subst}
use mathlib.Core.Bool.{Bool, true, false}
use mathlib.Core.List.{List}
use Prim.Native.Nat.{ℕ, ◌≤◌}
use lib.Dec.{T, eqb}
use lib.ListN.{get_or}
use Rattle.laws.specs.Choice.{pick}
use Rattle.hdr_endpoint.specs.declared.HdrPair.{HdrPair}
use Rattle.hdr_endpoint.specs.Parts.{swizzled_end}
use Rattle.hdr_endpoint.specs.Direct.{field_ends, fields_shifted, plain_ends, major_bits, direct_mode, direct}
use Rattle.half_pair.specs.inner.Room.{Room}

-- ---- room

clash : {A : Type 0} → true ≡ false → A
clash e = absurd (subst T e tt)

-- where the alpha is HDR, 12 bits are enough
pub room_12 : {e : List ℕ} → ((c : ℕ) → get_or e c 0 ≤ 4095) → Room true e
room_12 h = record { twelve = h; last = λ e. clash e }

pub room_8 : {e : List ℕ} → ((c : ℕ) → get_or e c 0 ≤ 4095) → get_or e 3 0 ≤ 255 → Room false e
room_8 h k = record { twelve = h; last = λ e. k }

-- the alphas of mode 11 are those that it was given
pub record Alpha (p : HdrPair) (a0 a1 : ℕ) : Type 0 where
  pub first : get_or p.e0 3 0 ≡ a0
  pub second : get_or p.e1 3 0 ≡ a1

pick_alpha : (t : Bool) (p q : HdrPair) (a0 a1 : ℕ) → Alpha p a0 a1 → Alpha q a0 a1 → Alpha (pick t p q) a0 a1
pick_alpha true p q a0 a1 h k = h
pick_alpha false p q a0 a1 h k = k

plain_alpha : (v0 v1 v2 v3 v4 v5 a0 a1 : ℕ) → Alpha (plain_ends v0 v1 v2 v3 v4 v5 a0 a1) a0 a1
unfolding plain_ends
plain_alpha v0 v1 v2 v3 v4 v5 a0 a1 = record { first = refl; second = refl }

field_alpha : (mode major v0 v1 v2 v3 v4 v5 a0 a1 : ℕ) → Alpha (fields_shifted mode major v0 v1 v2 v3 v4 v5 a0 a1) a0 a1
unfolding fields_shifted field_ends swizzled_end
field_alpha mode major v0 v1 v2 v3 v4 v5 a0 a1 = record { first = refl; second = refl }

pub direct_alpha : (v0 v1 v2 v3 v4 v5 a0 a1 : ℕ) → Alpha (direct v0 v1 v2 v3 v4 v5 a0 a1) a0 a1
unfolding direct
direct_alpha v0 v1 v2 v3 v4 v5 a0 a1 =
    pick_alpha (eqb (major_bits v4 v5) 3) (plain_ends v0 v1 v2 v3 v4 v5 a0 a1) (fields_shifted (direct_mode v1 v2 v3) (major_bits v4 v5) v0 v1 v2 v3 v4 v5 a0 a1) a0 a1
    (plain_alpha v0 v1 v2 v3 v4 v5 a0 a1) (field_alpha (direct_mode v1 v2 v3) (major_bits v4 v5) v0 v1 v2 v3 v4 v5 a0 a1)
