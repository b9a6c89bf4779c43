-- The answers of both calls in each case.
-- Assumes nothing.
use mathlib.Core.Path.{◌≡◌, sym, ap, ◌∙◌}
use mathlib.Core.Bool.{Bool, true, false}
use mathlib.Core.List.{List}
use Prim.Native.Nat.{ℕ}
use lib.Dec.{eqb}
use lib.ListN.{length, get_or}
use borrow.Author.Tests.{eq-eqb, ne_eqb}
use Rattle.laws.specs.Choice.{pick, both}
use Rattle.laws.specs.Table.{tab}
use Rattle.block_answer.specs.Told.{number_told}
use Rattle.bc7_block.specs.declared.Bc7Block.{Bc7Block}
use Rattle.bc7_block.specs.Reading.{bc7_block}
use Rattle.bc7_codec.specs.Numbers.{sheet_number}
use Rattle.bc7_calls.specs.declared.Bc7Reading.{Bc7Reading}
use Rattle.bc7_calls.specs.declared.Bc7Writing.{Bc7Writing}
use Rattle.bc7_calls.specs.Calls.{reading_of, writing_of}
use Rattle.bc7_numbers.specs.Calls.{read_number, read_numbers, sheet_from, write_number, write_block}

-- ---- the reader

module _ (s old : List ℕ) where
  module _ (h : length old ≡ 60 → ⊥) where
    pub read_short : pick (eqb (length s) 16) 5 4 ≡ read_number s (length old)
    unfolding read_number
    read_short = ap (λ (b : Bool). pick b (number_told (reading_of s).answer) (pick (eqb (length s) 16) 5 4)) (sym (ne_eqb (length old) 60 h))

    pub list_kept : old ≡ read_numbers s old
    unfolding read_numbers
    list_kept = ap (λ (b : Bool). pick b (tab (sheet_number (reading_of s).block) 60) old) (sym (ne_eqb (length old) 60 h))

  module _ (h : length old ≡ 60) (r : Bc7Reading) (e : r ≡ reading_of s) where
    pub read_told : number_told r.answer ≡ read_number s (length old)
    unfolding read_number
    read_told =
        ap (λ (x : Bc7Reading). number_told x.answer) e
        ∙ ap (λ (b : Bool). pick b (number_told (reading_of s).answer) (pick (eqb (length s) 16) 5 4)) (sym (eq-eqb (length old) 60 h))

    pub list_read : tab (sheet_number r.block) 60 ≡ read_numbers s old
    unfolding read_numbers
    list_read =
        ap (λ (x : Bc7Reading). tab (sheet_number x.block) 60) e
        ∙ ap (λ (b : Bool). pick b (tab (sheet_number (reading_of s).block) 60) old) (sym (eq-eqb (length old) 60 h))

-- ---- the writer

module _ (numbers old : List ℕ) where
  pub write_4 : (length old ≡ 16 → ⊥) → 4 ≡ write_number numbers (length old)
  unfolding write_number
  write_4 h = rw (ne_eqb (length old) 16 h)

  pub kept_4 : (length old ≡ 16 → ⊥) → old ≡ write_block numbers old
  unfolding write_block
  kept_4 h = ap (λ (b : Bool). pick (both b (eqb (length numbers) 60)) (writing_of (sheet_from numbers)).bytes old) (sym (ne_eqb (length old) 16 h))

  module _ (e : length old ≡ 16) where
    pub write_5 : (length numbers ≡ 60 → ⊥) → 5 ≡ write_number numbers (length old)
    unfolding write_number
    write_5 h = rw (eq-eqb (length old) 16 e, ne_eqb (length numbers) 60 h)

    both_tests : (b : Bool) → eqb (length numbers) 60 ≡ b → both (eqb (length old) 16) (eqb (length numbers) 60) ≡ b
    both_tests b q = ap (λ (a : Bool). both a (eqb (length numbers) 60)) (eq-eqb (length old) 16 e) ∙ q

    pub kept_5 : (length numbers ≡ 60 → ⊥) → old ≡ write_block numbers old
    unfolding write_block
    kept_5 h = ap (λ (b : Bool). pick b (writing_of (sheet_from numbers)).bytes old) (sym (both_tests false (ne_eqb (length numbers) 60 h)))

    module _ (h : length numbers ≡ 60) (f : List ℕ) (ef : f ≡ numbers) (s : Bc7Block) (es : s ≡ bc7_block (get_or f 0 0) (λ k. get_or f k 0)) (w : Bc7Writing) (ew : w ≡ writing_of s) where
      sheet : s ≡ sheet_from numbers
      unfolding sheet_from
      sheet = es ∙ ap (λ (l : List ℕ). bc7_block (get_or l 0 0) (λ k. get_or l k 0)) ef

      pub write_told : number_told w.answer ≡ write_number numbers (length old)
      unfolding write_number
      write_told =
          ap (λ (x : Bc7Writing). number_told x.answer) (ew ∙ ap writing_of sheet)
          ∙ rw (eq-eqb (length old) 16 e, eq-eqb (length numbers) 60 h)

      pub block_written : w.bytes ≡ write_block numbers old
      unfolding write_block
      block_written =
          ap (λ (x : Bc7Writing). x.bytes) (ew ∙ ap writing_of sheet)
          ∙ ap (λ (b : Bool). pick b (writing_of (sheet_from numbers)).bytes old) (sym (both_tests true (eq-eqb (length numbers) 60 h)))
