-- The tables of the codes: an entry cut from its word, tested once over all codes.
-- Assumes nothing.
use mathlib.Core.Path.{◌≡◌}
use mathlib.Core.Bool.{Bool}
use mathlib.Core.List.{List, [], ◌∷◌}
use Prim.Native.Nat.{ℕ, zero, suc, ◌*◌, ◌/◌, ◌%◌, ◌^◌, ◌<◌}
use lib.Bits.{bit_and}
use lib.Dec.{T, eqb, eqb→eq, ltb, ltb→lt}
use Rattle.laws.specs.Choice.{both, all}
use Rattle.laws.proofs.Computed.{both_left, both_right, each}
use Rattle.encoding.specs.declared.Encoding.{Encoding}
use Rattle.encoding.specs.declared.Encoding.TheVariants.{Trits, Quints}
use Rattle.integer_sequence.specs.inner.Entries.{digits_entry, four_entries}

-- the numbers below n, the largest first
abbrev pub below : ℕ → List ℕ
below zero = []
below (suc n) = n ∷ below n

abbrev pub cut_out : Encoding → ℕ → ℕ → ℕ → ℕ
cut_out κ step mask t = bit_and (four_entries κ step (t / 4) / 2 ^ (step * (t % 4))) mask

pub right : Encoding → ℕ → ℕ → ℕ → Bool
unfolding four_entries digits_entry
right κ step mask t = both (eqb (cut_out κ step mask t) (digits_entry κ t)) (ltb (cut_out κ step mask t) (2 ^ 40))

pub entry_cut : (κ : Encoding) (step mask n t : ℕ) {w : ℕ} → T (all (right κ step mask) n) → t < n → w ≡ four_entries κ step (t / 4)
    → (bit_and (w / 2 ^ (step * (t % 4))) mask ≡ digits_entry κ t) × (bit_and (w / 2 ^ (step * (t % 4))) mask < 2 ^ 40)
unfolding right
entry_cut κ step mask n t ok h e =
    let r = each (right κ step mask) n ok t h in
    rw e (
      eqb→eq _ _ (both_left (eqb (cut_out κ step mask t) (digits_entry κ t)) (ltb (cut_out κ step mask t) (2 ^ 40)) r),
      ltb→lt _ _ (both_right (eqb (cut_out κ step mask t) (digits_entry κ t)) (ltb (cut_out κ step mask t) (2 ^ 40)) r),
    )

pub trits_right : T (all (right Trits 2 12935430915) 256)
unfolding right
trits_right = tt

pub quints_right : T (all (right Quints 12 460551) 128)
unfolding right
quints_right = tt
