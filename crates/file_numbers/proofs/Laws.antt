-- The refusal of a file whose tally is not of three numbers.
-- Assumes nothing.
use mathlib.Core.Path.{◌≡◌}
use mathlib.Core.List.{List}
use Prim.Native.Nat.{ℕ}
use borrow.Author.Tests.{ne_eqb}
use Rattle.std.specs.Prelude.{Ok, Err}
use Rattle.reason.specs.declared.Refusal.{Refusal}
use Rattle.reason.specs.Numbers.{refusal_number}
use Rattle.astc_header.specs.declared.FileHeader.{FileHeader}
use Rattle.astc_header.specs.Header.{header_answer, header_refusal}
use Rattle.astc_header.proofs.Refusals.{stopped}
use Rattle.image_numbers.specs.Calls.{refusal_or5}

-- the header's refusal, or 5
pub file_stopped : (s : List ℕ) (r : Refusal) → header_answer s (Err r) → refusal_number r ≡ refusal_or5 (header_refusal s)
file_stopped s r q = let k = stopped s r q in rw (ne_eqb (header_refusal s) 0 k.some) q

pub file_passed : (s : List ℕ) (h : FileHeader) → header_answer s (Ok h) → 5 ≡ refusal_or5 (header_refusal s)
file_passed s h q = rw q.0
