use mathlib.Core.Path.{◌≡◌, sym, ap, ◌∙◌}
use Rattle.bits.specs.Block.{number_of, block_number}
use Rattle.laws.specs.Table.{Bytes}
use Rattle.bits.proofs.Halves.{loaded}
use Rattle.symbolic_block.specs.Refusals.{refusal_of}
use Rattle.symbolic_block.specs.Writing.{block_of}
use Rattle.block_reading.specs.declared.Reading.TheVariants.{Strict}
use Rattle.symbolic_reader.specs.declared.SymbolicReading.{SymbolicReading}
use Rattle.symbolic_reader.specs.Answers.{reading_of}
use Rattle.strict_reader.proofs.Laws.{both_told, Read, read, not_read, acceptable, same_passes, other_21}
use Rattle.strict_reader.proofs.read_strict.Goals as goal
use Rattle.strict_reader.proofs.read_strict.Goals.{After-block_of-arg-1, After-told, In_default, Then-same}

answer_is-In_default : (r : In_default) → r.read_symbolic-r.result.answer ≡ (reading_of r.args.fp r.args.block.now).answer
answer_is-In_default r = ap (λ (q : SymbolicReading). q.answer) r.read_symbolic-r.ensures.value

answer_is-After-block_of-arg-1 : (r : After-block_of-arg-1) → r.read_symbolic-r.result.answer ≡ (reading_of r.args.fp r.args.block.now).answer
answer_is-After-block_of-arg-1 r = ap (λ (q : SymbolicReading). q.answer) r.read_symbolic-r.ensures.value

answer_is-After-told : (r : After-told) → r.read_symbolic-r.result.answer ≡ (reading_of r.args.fp r.args.block.now).answer
answer_is-After-told r = ap (λ (q : SymbolicReading). q.answer) r.read_symbolic-r.ensures.value

answer_is-Then-same : (r : Then-same) → r.read_symbolic-r.result.answer ≡ (reading_of r.args.fp r.args.block.now).answer
answer_is-Then-same r = ap (λ (q : SymbolicReading). q.answer) r.read_symbolic-r.ensures.value

block_is-After-block_of-arg-1 : (r : After-block_of-arg-1) → r.read_symbolic-r.result.block ≡ (reading_of r.args.fp r.args.block.now).block
block_is-After-block_of-arg-1 r = ap (λ (q : SymbolicReading). q.block) r.read_symbolic-r.ensures.value

block_is-After-told : (r : After-told) → r.read_symbolic-r.result.block ≡ (reading_of r.args.fp r.args.block.now).block
block_is-After-told r = ap (λ (q : SymbolicReading). q.block) r.read_symbolic-r.ensures.value

block_is-Then-same : (r : Then-same) → r.read_symbolic-r.result.block ≡ (reading_of r.args.fp r.args.block.now).block
block_is-Then-same r = ap (λ (q : SymbolicReading). q.block) r.read_symbolic-r.ensures.value

facts-After-block_of-arg-1 : (c : After-block_of-arg-1) → Read c.args.fp c.args.block.now
facts-After-block_of-arg-1 c = read _ _ (sym (answer_is-After-block_of-arg-1 c) ∙ c.in-Done.is)

facts-After-told : (c : After-told) → Read c.args.fp c.args.block.now
facts-After-told c = read _ _ (sym (answer_is-After-told c) ∙ c.in-Done.is)

facts-Then-same : (c : Then-same) → Read c.args.fp c.args.block.now
facts-Then-same c = read _ _ (sym (answer_is-Then-same c) ∙ c.in-Done.is)

-- the two blocks that are compared
loaded_is-After-told : (l : After-told) → block_number l.load.result ≡ number_of l.args.block.now
loaded_is-After-told l =
    let k = l in
    let s = k.args.block.now in
    let bytes : Bytes s = λ i. (k.shared_slice_known-1.given i).fits in
    l.load.ensures ∙ loaded s bytes (facts-After-told l).sixteen

-- the two blocks that are compared
loaded_is-Then-same : (l : Then-same) → block_number l.load.result ≡ number_of l.args.block.now
loaded_is-Then-same l =
    let k = l in
    let s = k.args.block.now in
    let bytes : Bytes s = λ i. (k.shared_slice_known-1.given i).fits in
    l.load.ensures ∙ loaded s bytes (facts-Then-same l).sixteen

written_is-After-told : (w : After-told) → block_number w.block_of-written.result ≡ block_of w.args.fp (reading_of w.args.fp w.args.block.now).block
written_is-After-told w = w.block_of-written.ensures ∙ ap (block_of w.args.fp) (block_is-After-told w)

written_is-Then-same : (w : Then-same) → block_number w.block_of-written.result ≡ block_of w.args.fp (reading_of w.args.fp w.args.block.now).block
written_is-Then-same w = w.block_of-written.ensures ∙ ap (block_of w.args.fp) (block_is-Then-same w)

pub returns-in_default : goal.returns-in_default
returns-in_default c = let r = c in
    let a = r.args in let it = both_told Strict a.fp a.block.now _
    (r.read_symbolic-r.ensures.value
    ∙ not_read a.fp a.block.now
    (λ d. c.in_default.not-Done (answer_is-In_default c ∙ d))) in record { value = it.0; answer_value = it.1 }

pub block_of-written-requires : goal.block_of-written-requires
block_of-written-requires c = ap (refusal_of c.args.fp) (block_is-After-block_of-arg-1 c) ∙ acceptable _ _ (facts-After-block_of-arg-1 c)

pub returns-then-same : goal.returns-then-same
returns-then-same c = let l = c in
    let w = l in
    let r = w in let it = both_told Strict _ _ _ (r.read_symbolic-r.ensures.value ∙ same_passes _ _ (facts-Then-same c) _ _ (loaded_is-Then-same c) (written_is-Then-same c) (sym c.if-same.true ∙ c.same.ensures)) in record { value = it.0; answer_value = it.1 }

pub returns : goal.returns
returns c = let e = c in
    let l = e in
    let w = l in let it = both_told Strict _ _ _ (c.told.ensures ∙ other_21 _ _ (facts-After-told c) _ _ (loaded_is-After-told c) (written_is-After-told c) (sym e.if-same.false ∙ e.same.ensures)) in record { value = it.0; answer_value = it.1 }
