-- 02, a: what is proved of reading and writing headers. Theorems: proofs/RoundTrip.antt, `reads_back`, `written_again`; proofs/Refusals.antt,
-- `never_1`.
-- Assumes nothing.
use Rattle.std.specs.Prelude.{ℕ, ◌*◌, ◌≡◌, List, ◌++◌, length, take, Ok}
use Rattle.laws.specs.Table.{Bytes}
use Rattle.image_size.specs.Sides.{size_refusal}
use Rattle.astc_header.specs.declared.FileHeader.{FileHeader}
use Rattle.astc_header.specs.Header.{blocks_in, header_refusal, header_answer, file_blocks, header_bytes}

-- "What we write, with its blocks behind it, must read back as it was": footprint, sides, and the blocks' bytes
pub record ReadsBack (h : FileHeader) (blocks : List ℕ) : Type 0 where
  pub header_back : header_answer (header_bytes h.footprint h.width h.height ++ blocks) (Ok h)
  pub blocks_back : file_blocks (header_bytes h.footprint h.width h.height ++ blocks) ≡ blocks

-- of every header that is not refused, and as many blocks as it asks for
abbrev pub AllReadBack : Type 0
AllReadBack = (h : FileHeader) (blocks : List ℕ) → size_refusal h.footprint h.width h.height ≡ 0 → length blocks ≡ 16 * blocks_in h → ReadsBack h blocks

-- "any accepted header is written again byte for byte": h is what was read of the file s
pub record WrittenAgain (s : List ℕ) (h : FileHeader) : Type 0 where
  pub not_refused : size_refusal h.footprint h.width h.height ≡ 0
  pub same_bytes : header_bytes h.footprint h.width h.height ≡ take 16 s

-- of every file that is accepted
abbrev pub AllWrittenAgain : Type 0
AllWrittenAgain = (s : List ℕ) (h : FileHeader) → Bytes s → header_answer s (Ok h) → WrittenAgain s h

-- sides that no flat footprint has are 43: no file is told as 1
abbrev pub Never1 : Type 0
Never1 = (s : List ℕ) → header_refusal s ≡ 1 → ⊥
