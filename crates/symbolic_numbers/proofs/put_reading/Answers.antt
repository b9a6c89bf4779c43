use mathlib.Core.Path.{◌∙◌}
use mathlib.Core.Logic.{inl, inr}
use Rattle.symbolic_numbers.proofs.Laws.{number_5, numbers_kept, spare_kept, number_read, numbers_read, spare_read}
use Rattle.symbolic_numbers.proofs.put_reading.Goals as goal

pub returns-then-numbers-ne107 : goal.returns-then-numbers-ne107
returns-then-numbers-ne107 c = let k = c.before.before in
    let st = k.args in
    let h = inl c.if-numbers-ne107.true in record {
      value = c.refused_or_5.ensures
          ∙ number_5 st.reading st.numbers.now st.spare.now h;
      numbers_after = numbers_kept st.reading st.numbers.now st.spare.now h;
      spare_after = spare_kept st.reading st.numbers.now st.spare.now h;
    }

pub returns-then-spare-ne2 : goal.returns-then-spare-ne2
returns-then-spare-ne2 c = let k = c.before.before.before in
    let st = k.args in
    let h = inr c.if-spare-ne2.true in record {
      value = c.refused_or_5-then-spare-ne2.ensures
          ∙ number_5 st.reading st.numbers.now st.spare.now h;
      numbers_after = numbers_kept st.reading st.numbers.now st.spare.now h;
      spare_after = spare_kept st.reading st.numbers.now st.spare.now h;
    }

pub returns : goal.returns
returns c = let q = c.before.before.before in
    let p = q.before.before.before.before in
    let k = p.before.before.before.before in
    let st = k.args in
    let e = p.if-numbers-ne107.false in
    let f = p.if-spare-ne2.false in record {
      value = c.number_told.ensures
          ∙ number_read st.reading st.numbers.now st.spare.now e f;
      numbers_after = p.put.ensures
          ∙ numbers_read st.reading st.numbers.now st.spare.now e f;
      spare_after = q.put_spare.ensures
          ∙ spare_read st.reading st.numbers.now st.spare.now e f;
    }
