-- What was read is the input's front, and its text is the input's.
use Rattle.std.proofs.Common.{ℕ, ◌<◌, length, take, replicate, arith}
use Rattle.std.proofs.lemmas.List.{length-replicate}
use Rattle.std.specs.Io.KnownBytes.{IsAtEnd}
use Rattle.unpack.proofs.Text.{text_of_input, text_in_front, said_on_ok}
use Rattle.unpack.proofs.write_text.Goals as goal

pub returns : goal.returns
returns g c =
    let front = take c.in_ok-count.count c.read_full.new.buffer in
    let ended : length front < 19 → IsAtEnd (g.R.Read.remaining c.read_full.new.input) = λ less. c.in_ok-count.ensures.end (omega (arith, c.in_ok-count.ensures.bound.1)) in
    let same = text_of_input _ _ front c.in_ok-count.ensures.bytes ended in
    let shown = text_in_front front (replicate {A = ℕ} 5200 0) c.program_text-n.new.out c.program_text-n.result (length-replicate {A = ℕ} 5200 0) c.program_text-n.ensures.value c.program_text-n.ensures.out_after in
    said_on_ok _ _ _ _ _ front shown same c.write_all.ensures.bytes
