-- What the calls promise, in their two events.
-- Assumes nothing.
use Prim.Native.Nat.{ℕ, ◌-◌, ◌≤◌}
use mathlib.Core.Path.{◌≡◌, refl}
use mathlib.Core.List.{List}
use lib.ListN.{length, take, drop}
use borrow.Author.Tests.{ne_eqb}
use Rattle.std.specs.Prelude.{Result, Ok, Err}
use Rattle.reason.specs.declared.Refusal.{Refusal}
use Rattle.image_layout.specs.declared.Tally.{Tally}
use Rattle.interpolation.specs.declared.Kind.{Kind}
use Rattle.image_layout.specs.Call.{told_of}
use Rattle.block_reading.specs.declared.Reading.TheVariants.{Ordinary}
use Rattle.image_layout.proofs.Calls.{Promised}
use Rattle.astc_header.specs.declared.FileHeader.{FileHeader}
use Rattle.astc_header.specs.Header.{header_answer, header_refusal}
use Rattle.astc_header.proofs.Refusals.{stopped, passed, part_all, taken}
use Rattle.astc_file.specs.File.{file_answer, file_told, file_out}

pub record FilePromised (kind : Kind) (s old : List ℕ) (r : Result Tally Refusal) (new : List ℕ) : Type 0 where
  pub answer : file_answer kind s (length old) r
  pub told : told_of r ≡ file_told kind s (length old)
  pub image : new ≡ file_out kind s old

module _ (kind : Kind) (s old : List ℕ) where
  -- a refused file: its number, and the buffer as it was
  pub file_refused : (r : Refusal) → header_answer s (Err r) → FilePromised kind s old (Err r) old
  unfolding file_told file_out
  file_refused r q =
      let n = (stopped s r q).some in
      record { answer = rw (ne_eqb (header_refusal s) 0 n) q; told = rw (ne_eqb (header_refusal s) 0 n, q) refl; image = rw (ne_eqb (header_refusal s) 0 n) refl }

  -- any other: what the image call promises of its blocks b
  pub file_decoded : (h : FileHeader) → header_answer s (Ok h) → (b : List ℕ) (r : Result Tally Refusal) (new : List ℕ) → b ≡ drop 16 s
      → Promised Ordinary h.footprint kind h.width h.height b old r new → FilePromised kind s old r new
  unfolding file_told file_out
  file_decoded h q b r new e p =
      let k = passed s h q in
      record { answer = rw k.none (rw (k.says, e) at p.answer); told = rw k.none (rw (k.says, e) at p.told); image = rw k.none (rw (k.says, e) at p.image) }

pub long : (s : List ℕ) (h : FileHeader) → header_answer s (Ok h) → 16 ≤ length s
long s h q = (taken s (passed s h q).none).form.long

-- the part from byte 16 on
pub behind : (s : List ℕ) (h : FileHeader) → header_answer s (Ok h) → take (length s - 16) (drop 16 s) ≡ drop 16 s
behind s h q = part_all s (passed s h q).none
