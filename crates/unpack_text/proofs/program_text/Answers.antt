use mathlib.Core.Path.{◌≡◌, sym, ap, ◌∙◌}
use Prim.Native.Nat.{ℕ}
use native.Mathlib.Omega.{arith}
use lib.ListN.{get_or, take, drop}
use Rattle.bits.specs.Block.{number_of}
use borrow.Author.Tests.{ne_eqb}
use Rattle.reason.proofs.Told.{refusal_some}
use Rattle.unpack_text.specs.Text.{program_refusal, block_text}
use Rattle.line_text.proofs.Laws.{puts_as}
use Rattle.unpack_text.proofs.Laws.{sixteen_left, flat_text, refused_text, shown_text, promised}
use Rattle.unpack_text.proofs.program_text.Goals as goal

-- another length than 18
short : (n fp kind : ℕ) → (n ≡ 18 → ⊥) → program_refusal n fp kind ≡ 4
unfolding program_refusal
short n fp kind h = rw (ne_eqb n 18 h)

pub returns-then-out-ne5200 : goal.returns-then-out-ne5200
returns-then-out-ne5200 c = record { value = rw (ne_eqb _ _ c.if-out-ne5200.true); out_after = rw (ne_eqb _ _ c.if-out-ne5200.true); upper_bound = omega arith }

pub returns-then-input-ne18 : goal.returns-then-input-ne18
returns-then-input-ne18 c = let a = c.args in let it = promised a.input.now a.out.now _ _ c.if-out-ne5200.false
    (puts_as (refused_text a.input.now 4 (short _ _ _ c.if-input-ne18.true) (λ e. omega (arith, e))) c.put_told.ensures.puts) in record { value = it.0; out_after = it.1.0; upper_bound = it.1.1 }

pub returns-in-Err : goal.returns-in-Err
returns-in-Err c =
    let a = c.args in
    let s = a.input.now in
    let e = ap (λ (n : ℕ). program_refusal n (get_or s 0 0) (get_or s 1 0)) c.if-input-ne18.false ∙ sym (c.into.ensures ∙ c.in-Err.ensures) in
    let it = promised s a.out.now _ _ c.if-out-ne5200.false
    (puts_as (refused_text s _ e (λ z. omega (arith, refusal_some c.in-Err.refusal, c.into.ensures, z))) c.put_told-in-Err.ensures.puts) in
    record { value = it.0; out_after = it.1.0; upper_bound = it.1.1 }

pub put_block-requires : goal.put_block-requires
put_block-requires c =
    let s = c.args.input.now in
    let e = ap (λ (n : ℕ). program_refusal n (get_or s 0 0) (get_or s 1 0)) c.if-input-ne18.false ∙ sym c.in-Ok.ensures in
    record { fp_bound = flat_text s e; out_len = (c.if-out-ne5200.false, sixteen_left s c.if-input-ne18.false) }

pub returns-in-Ok : goal.returns-in-Ok
returns-in-Ok c =
    let a = c.args in
    let s = a.input.now in
    let e = ap (λ (n : ℕ). program_refusal n (get_or s 0 0) (get_or s 1 0)) c.if-input-ne18.false ∙ sym c.in-Ok.ensures in
    let it = promised s a.out.now _ _ c.if-out-ne5200.false
    (puts_as (ap (λ k. block_text (get_or s 0 0) k (number_of (take 16 (drop 2 s)))) c.kind_of.ensures ∙ shown_text s e) c.put_block.ensures) in
    record { value = it.0; out_after = it.1.0; upper_bound = it.1.1 }

pub shape_of-out-then-input-ne18 : goal.shape_of-out-then-input-ne18
shape_of-out-then-input-ne18 c = c.put_told.ensures.puts.same
