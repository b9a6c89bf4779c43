-- A symbolic block's numbers by position, and what each call comes to in each event.
-- Assumes nothing.
use mathlib.Core.Path.{◌≡◌, refl, ap, ◌∙◌}
use mathlib.Core.List.{List}
use mathlib.Core.Logic.{◌⊎◌, inl, inr}
use mathlib.Core.Bool.{Bool, true, false}
use Prim.Native.Nat.{ℕ}
use native.Mathlib.Omega.{arith}
use lib.Dec.{eqb}
use lib.ListN.{length}
use borrow.Author.Tests.{eq-eqb, ne_eqb}
use Rattle.laws.specs.Choice.{pick, both}
use Rattle.laws.specs.Table.{tab, tab_from}
use Rattle.integer_sequence.specs.Reading.{stored}
use Rattle.block_answer.specs.Told.{number_told}
use Rattle.spare_bits.specs.Spare.{spare_numbers}
use Rattle.symbolic_block.specs.declared.SymbolicBlock.{SymbolicBlock}
use Rattle.symbolic_block.specs.Fields.{colour_in, extent_in, mode_in, endpoint_in, weight_in, Sized}
use Rattle.symbolic_block.specs.Refusals.{unknown_footprint}
use Rattle.symbolic_block.proofs.Lists.{tab_back, stored_back}
use Rattle.symbolic_calls.specs.Writing.{writing_of}
use Rattle.symbolic_calls.proofs.Laws.{told_number}
use Rattle.symbolic_reader.specs.declared.SymbolicReading.{SymbolicReading}
use Rattle.symbolic_numbers.specs.Numbers.{settings_with, setting_numbers, added_of, flat_of, block_over, block_from}
use Rattle.symbolic_numbers.specs.inner.Numbers.{flat_at, clipped_numbers, endpoints_fit}
use Rattle.symbolic_numbers.specs.Calls.{refused_or5, room_for, put_number, put_numbers, put_spare, lent_refusal, write_number, write_block}
use Rattle.symbolic_clip.proofs.Clip.{clip, fits, refused_1}

-- ---- the reader's call

pub settings_same : (s : SymbolicBlock) (a b c d : ℕ) → a ≡ mode_in s 0 → b ≡ mode_in s 1 → c ≡ mode_in s 2 → d ≡ mode_in s 3
    → settings_with s a b c d ≡ setting_numbers s
settings_same s a b c d p q r t =
    ap (λ (x : ℕ). settings_with s x b c d) p
    ∙ ap (λ (x : ℕ). settings_with s (mode_in s 0) x c d) q
    ∙ ap (λ (x : ℕ). settings_with s (mode_in s 0) (mode_in s 1) x d) r
    ∙ ap (λ (x : ℕ). settings_with s (mode_in s 0) (mode_in s 1) (mode_in s 2) x) t

pub flat_by_position : (s : SymbolicBlock) → tab (flat_at (setting_numbers s) s.endpoints s.weights (added_of s)) 107 ≡ flat_of s
unfolding flat_of tab tab_from
flat_by_position s = refl

-- a list of another length
no_room : (n m : ℕ) → (n ≡ 107 → ⊥) ⊎ (m ≡ 2 → ⊥) → room_for n m ≡ false
no_room n m (inl h) = rw (ne_eqb n 107 h)
no_room n m (inr h) = rw (ne_eqb m 2 h) (off (eqb n 107)) where
  off : (b : Bool) → both b false ≡ false
  off true = refl
  off false = refl

module _ (r : SymbolicReading) (old spare : List ℕ) where
  module _ (h : (length old ≡ 107 → ⊥) ⊎ (length spare ≡ 2 → ⊥)) where
    pub number_5 : refused_or5 r.answer ≡ put_number r (length old) (length spare)
    unfolding put_number
    number_5 = rw (no_room (length old) (length spare) h)

    pub numbers_kept : old ≡ put_numbers r old (length spare)
    unfolding put_numbers
    numbers_kept = rw (no_room (length old) (length spare) h)

    pub spare_kept : spare ≡ put_spare r (length old) spare
    unfolding put_spare
    spare_kept = rw (no_room (length old) (length spare) h)

  module _ (e : length old ≡ 107) (f : length spare ≡ 2) where
    pub number_read : number_told r.answer ≡ put_number r (length old) (length spare)
    unfolding put_number
    number_read = rw (eq-eqb _ _ e, eq-eqb _ _ f)

    pub numbers_read : flat_of r.block ≡ put_numbers r old (length spare)
    unfolding put_numbers
    numbers_read = rw (eq-eqb _ _ e, eq-eqb _ _ f)

    pub spare_read : spare_numbers r.spare ≡ put_spare r (length old) spare
    unfolding put_spare
    spare_read = rw (eq-eqb _ _ e, eq-eqb _ _ f)

-- ---- a list's symbolic block

module _ (numbers : List ℕ) where
  pub from_sized : Sized (block_from numbers)
  unfolding block_over tab tab_from
  from_sized = record { colours_4 = refl; extents_6 = refl; modes_4 = refl; endpoints_18 = refl; weights_64 = refl }

  pub from_clipped : block_over numbers (clipped_numbers numbers) ≡ clip (block_from numbers)
  unfolding block_over clipped_numbers tab tab_from
  from_clipped = refl

  pub from_fits : endpoints_fit numbers ≡ fits (block_from numbers)
  unfolding endpoints_fit fits block_over tab tab_from
  from_fits = refl

-- the writer takes what the reader tells
abbrev tabled : SymbolicBlock → SymbolicBlock
tabled s = record {
  mark = s.mark;
  hdr = s.hdr;
  colours = tab (colour_in s) 4;
  extents = tab (extent_in s) 6;
  width = s.width;
  height = s.height;
  depth = s.depth;
  range = s.range;
  planes = s.planes;
  component = s.component;
  partitions = s.partitions;
  index = s.index;
  selector = s.selector;
  modes = tab (mode_in s) 4;
  endpoints = tab (λ i. stored (endpoint_in s i)) 18;
  weights = tab (λ i. stored (weight_in s i)) 64;
}

flat_tabled : (s : SymbolicBlock) → block_from (flat_of s) ≡ tabled s
unfolding block_over flat_of tab tab_from
flat_tabled s = refl

pub from_flat : (s : SymbolicBlock) → Sized s → block_from (flat_of s) ≡ s
from_flat s z =
    flat_tabled s
    ∙ rw (
      tab_back s.colours (colour_in s) 0 4 z.colours_4 (λ i l. refl),
      tab_back s.extents (extent_in s) 0 6 z.extents_6 (λ i l. refl),
      tab_back s.modes (mode_in s) 0 4 z.modes_4 (λ i l. refl),
      stored_back s.endpoints (endpoint_in s) 18 z.endpoints_18 (λ i l. refl),
      stored_back s.weights (weight_in s) 64 z.weights_64 (λ i l. refl),
    )

-- ---- the writer's call

-- a number that is not 0, after 1
after_1_lem : (b : Bool) (n m : ℕ) → (n ≡ 0 → ⊥) → pick b 1 n ≡ pick (eqb (pick b 1 n) 0) m (pick b 1 n)
after_1_lem true n m h = refl
after_1_lem false n m h = rw (ne_eqb n 0 h)

module _ (fp : ℕ) (numbers old : List ℕ) where
  module _ (h : length old ≡ 16 → ⊥) where
    pub write_4 : pick (unknown_footprint fp) 1 4 ≡ write_number fp numbers (length old)
    unfolding write_number lent_refusal
    write_4 = rw (ne_eqb _ _ h) (after_1_lem (unknown_footprint fp) 4 _ (λ q. absurd (omega (arith, q))))

    pub kept_4 : old ≡ write_block fp numbers old
    unfolding write_block
    kept_4 = rw (ne_eqb _ _ h)

  module _ (e : length old ≡ 16) where
    module _ (h : length numbers ≡ 107 → ⊥) where
      pub write_5 : pick (unknown_footprint fp) 1 5 ≡ write_number fp numbers (length old)
      unfolding write_number lent_refusal
      write_5 = rw (eq-eqb _ _ e, ne_eqb _ _ h) (after_1_lem (unknown_footprint fp) 5 _ (λ q. absurd (omega (arith, q))))

      pub zeros_5 : tab (λ k. 0) 16 ≡ write_block fp numbers old
      unfolding write_block
      zeros_5 = rw (eq-eqb _ _ e, ne_eqb _ _ h)

    module _ (l : length numbers ≡ 107) where
      pub write_told : number_told (writing_of fp (block_from numbers)).answer ≡ write_number fp numbers (length old)
      unfolding write_number lent_refusal
      write_told = rw (eq-eqb _ _ e, eq-eqb _ _ l) (go (unknown_footprint fp) refl) where
        go : (b : Bool) → unknown_footprint fp ≡ b
            → number_told (writing_of fp (block_from numbers)).answer ≡ pick (eqb (pick b 1 0) 0) (number_told (writing_of fp (block_from numbers)).answer) (pick b 1 0)
        go true u = told_number fp (block_from numbers) ∙ refused_1 (block_from numbers) fp u
        go false u = refl

      pub block_written : (writing_of fp (block_from numbers)).bytes ≡ write_block fp numbers old
      unfolding write_block
      block_written = rw (eq-eqb _ _ e, eq-eqb _ _ l)
