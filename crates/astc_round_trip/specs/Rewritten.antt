-- 02, a: "any accepted header is written again byte for byte", of what the reader's and the writer's call return.
-- Assumes nothing.
use Rattle.std.specs.Prelude.{ℕ, List, take, Result}
use Rattle.reason.specs.declared.Refusal.{Refusal}
use Rattle.reason.specs.Answers.{Answers}
use Rattle.astc_header.specs.Header.{header_refusal}

-- the file's own first sixteen bytes; the reader's refusal where it refuses
abbrev pub rewritten : List ℕ → Result (List ℕ) Refusal → Type 0
rewritten s = Answers (header_refusal s) (take 16 s)
