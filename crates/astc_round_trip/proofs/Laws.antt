-- A header that is read and written again.
-- Assumes nothing.
use Prim.Native.Nat.{ℕ, ◌<◌}
use native.Mathlib.Omega.{arith}
use mathlib.Core.Path.{◌∙◌}
use mathlib.Core.List.{List}
use lib.ListN.{get_or}
use Rattle.std.specs.Prelude.{Result, Ok, Err}
use Rattle.reason.specs.declared.Refusal.{Refusal}
use Rattle.reason.proofs.Told.{refusal_some}
use Rattle.astc_header.specs.declared.FileHeader.{FileHeader}
use Rattle.astc_header.specs.Header.{header_answer, written_header}
use Rattle.astc_header.proofs.RoundTrip.{written_again}
use Rattle.astc_round_trip.specs.Rewritten.{rewritten}

-- what was read is not refused by the writer
pub again : (s : List ℕ) (h : FileHeader) (r : Result (List ℕ) Refusal) → ((k : ℕ) → get_or s k 0 < 256) → header_answer s (Ok h)
    → written_header h.footprint h.width h.height r → rewritten s r
again s h (Ok b) bytes q w = (q.0, w.1 ∙ (written_again s h bytes q).same_bytes)
again s h (Err e) bytes q w = absurd (omega (arith, refusal_some e, w, (written_again s h bytes q).not_refused))
