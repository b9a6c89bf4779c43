use borrow.Author.Tests.{eq-eqb, ne_eqb, lt-ltb, le-ltb}
use Rattle.unpack_text.specs.Text.{program_refusal}
use Rattle.unpack_text.proofs.check.Goals as goal

pub returns-then-bytes-ne18 : goal.returns-then-bytes-ne18
unfolding program_refusal
returns-then-bytes-ne18 c = rw (ne_eqb _ _ c.if-bytes-ne18.true)

pub returns-then-fp-gt13 : goal.returns-then-fp-gt13
unfolding program_refusal
returns-then-fp-gt13 c = rw (eq-eqb _ _ c.if-bytes-ne18.false, lt-ltb _ _ c.if-fp-gt13.true)

pub returns-then-kind-gt2 : goal.returns-then-kind-gt2
unfolding program_refusal
returns-then-kind-gt2 c = rw (eq-eqb _ _ c.if-bytes-ne18.false, le-ltb _ _ c.if-fp-gt13.false, lt-ltb _ _ c.if-kind-gt2.true)

pub returns : goal.returns
unfolding program_refusal
returns c = rw (eq-eqb _ _ c.if-bytes-ne18.false, le-ltb _ _ c.if-fp-gt13.false, le-ltb _ _ c.if-kind-gt2.false)
