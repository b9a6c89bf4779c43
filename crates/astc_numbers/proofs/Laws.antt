-- What the two calls answer and leave in each event.
-- Assumes nothing.
use Prim.Native.Nat.{ℕ}
use native.Mathlib.Omega.{arith}
use mathlib.Core.Path.{◌≡◌, sym, ap, ◌∙◌}
use mathlib.Core.List.{List}
use lib.ListN.{length}
use borrow.Author.Tests.{eq-eqb, ne_eqb}
use Rattle.std.specs.Prelude.{Result, Ok, Err}
use Rattle.std.specs.Result.{result_unwrap_or}
use Rattle.laws.specs.Table.{tab}
use Rattle.reason.specs.declared.Refusal.{Refusal}
use Rattle.reason.specs.Numbers.{refusal_told}
use Rattle.reason.proofs.Told.{refusal_some}
use Rattle.astc_header.specs.declared.FileHeader.{FileHeader}
use Rattle.image_size.specs.Sides.{size_refusal}
use Rattle.astc_header.specs.Header.{header_refusal, header_answer, header_told, written_header}
use Rattle.astc_numbers.specs.Numbers.{then_five, header_numbers, read_number, read_numbers, written_bytes, write_number, write_bytes}

-- ---- reading

module _ (s old : List ℕ) where
  pub read_kept : (length old ≡ 3 → ⊥) → old ≡ read_numbers s old
  unfolding read_numbers
  read_kept n = rw (ne_eqb (length old) 3 n)

  pub read_told : length old ≡ 3 → header_numbers (header_told s) ≡ read_numbers s old
  unfolding read_numbers
  read_told e = rw (eq-eqb (length old) 3 e)

-- ---- writing

module _ (fp w h : ℕ) (old : List ℕ) where
  pub write_kept : (length old ≡ 16 → ⊥) → old ≡ write_bytes fp w h old
  unfolding write_bytes
  write_kept n = rw (ne_eqb (length old) 16 n)

  pub write_bytes_lem : length old ≡ 16 → written_bytes fp w h ≡ write_bytes fp w h old
  unfolding write_bytes
  write_bytes_lem e = rw (eq-eqb (length old) 16 e)

-- the answers of both calls, told as numbers
read_told_number : (s : List ℕ) (r : Result FileHeader Refusal) → header_answer s r → refusal_told r ≡ header_refusal s
read_told_number s (Ok h) q = sym q.0
read_told_number s (Err e) q = q

write_told_number : (fp w h : ℕ) (r : Result (List ℕ) Refusal) → written_header fp w h r → refusal_told r ≡ size_refusal fp w h
write_told_number fp w h (Ok b) q = sym q.0
write_told_number fp w h (Err e) q = q

pub told_bytes : (fp w h : ℕ) (r : Result (List ℕ) Refusal) → written_header fp w h r → result_unwrap_or r (tab (λ k. 0) 16) ≡ written_bytes fp w h
unfolding written_bytes
told_bytes fp w h (Ok b) q = rw q.0 q.1
told_bytes fp w h (Err e) q = rw (ne_eqb (size_refusal fp w h) 0 (λ z. omega (arith, refusal_some e, q, z)))

pub read_value : (s : List ℕ) (n : ℕ) (r : Result FileHeader Refusal) → header_answer s r → {k : ℕ} → k ≡ then_five (refusal_told r) n 3 → k ≡ read_number s n
unfolding read_number
read_value s n r q e = e ∙ ap (λ (k : ℕ). then_five k n 3) (read_told_number s r q)

pub write_value : (fp w h n : ℕ) (r : Result (List ℕ) Refusal) → written_header fp w h r → {k : ℕ} → k ≡ then_five (refusal_told r) n 16 → k ≡ write_number fp w h n
unfolding write_number
write_value fp w h n r q e = e ∙ ap (λ (k : ℕ). then_five k n 16) (write_told_number fp w h r q)
