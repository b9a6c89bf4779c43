use mathlib.Core.Path.{◌≡◌, refl, sym, ap, ◌∙◌}
use mathlib.Core.List.{List}
use Prim.Native.Nat.{ℕ}
use native.Mathlib.Omega.{arith}
use lib.ListN.{length}
use borrow.Author.Rules.{rules}
use Rattle.block_answer.specs.declared.Answer.TheVariants.{Refused}
use Rattle.laws.specs.Table.{Bytes}
use Rattle.block_answer.specs.Told.{block_refusal, answer_for}
use Rattle.block_answer.proofs.Laws.{fits_in, not_refused}
use Rattle.one_block.proofs.Laws.{refused, untouched, told, promised, copied}
use Rattle.one_block.proofs.show_words.Goals as goal
use Rattle.one_block.proofs.show_words.Goals.{After-answer_for, After-buffer-1, After-copy_words-arg-1}

none-After-answer_for : (c : After-answer_for) → block_refusal c.args.fp (length c.args.block.now) (length c.args.out.now) ≡ 0
none-After-answer_for c = sym c.requires.n_value ∙ c.if-n-ne0.false

none-After-buffer-1 : (c : After-buffer-1) → block_refusal c.args.fp (length c.args.block.now) (length c.args.out.now) ≡ 0
none-After-buffer-1 c = sym c.requires.n_value ∙ c.if-n-ne0.false

none-After-copy_words-arg-1 : (c : After-copy_words-arg-1) → block_refusal c.args.fp (length c.args.block.now) (length c.args.out.now) ≡ 0
none-After-copy_words-arg-1 c = sym c.requires.n_value ∙ c.if-n-ne0.false

pub returns-then-n-ne0 : goal.returns-then-n-ne0
returns-then-n-ne0 c = let st = c.args in
    let h : block_refusal st.fp (length st.block.now) (length st.out.now) ≡ 0 → ⊥ = λ q. c.if-n-ne0.true (c.requires.n_value ∙ q) in let it = promised st.reading st.kind st.fp st.block.now st.out.now _ _ (ap Refused c.requires.n_value ∙ refused st.reading st.kind st.fp st.block.now st.out.now h) (untouched st.reading st.kind st.fp st.block.now st.out.now h) in record { value = it.0; out_after = it.1.0; result_value = it.1.1 }

pub returns : goal.returns
returns c = let d = c in
    let l = d in
    let st = l.args in
    let bytes : Bytes st.block.now = λ i. (l.shared_slice_known-1.given i).fits in
    let e = none-After-answer_for c in
    let s = st.block.now in
    let old = st.out.now in let it = promised st.reading st.kind st.fp s old _ _
    (c.answer_for.ensures ∙ ap answer_for d.decode_in-fault.ensures.value ∙ told st.reading st.kind st.fp s old bytes _ l.load-b.ensures e)
    (c.copy_words.ensures
    ∙ copied st.reading st.kind st.fp s old bytes _ l.load-b.ensures e _ (λ x. x) (λ x. sym (l.requires.words x)) _ refl (d.decode_in-fault.ensures.out_after refl)) in record { value = it.0; out_after = it.1.0; result_value = it.1.1 }

pub decode_in-fault-requires : goal.decode_in-fault-requires
decode_in-fault-requires c = ((not_refused _ _ _ (none-After-buffer-1 c)).known, c.is_volume.ensures)

pub copy_words-requires : goal.copy_words-requires
copy_words-requires c = fits_in _ _ _ (none-After-copy_words-arg-1 c)
