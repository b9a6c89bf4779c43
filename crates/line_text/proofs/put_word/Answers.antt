use mathlib.Core.Path.{◌≡◌, sym, ap, ◌∙◌}
use Prim.Native.Nat.{ℕ}
use native.Mathlib.Omega.{arith}
use lib.ListN.{length, take}
use lib.Seq.{take-length}
use Rattle.line_text.proofs.Laws.{puts_none, puts_then, puts_as, take_more}
use Rattle.line_text.proofs.put_word.Goals as goal

pub loop-b-init : goal.loop-b-init
loop-b-init c = (omega arith, puts_none _ _)

pub put_byte-end-requires : goal.put_byte-end-requires
put_byte-end-requires c = let l = c.loop-b in omega (arith, l.invariant.0, l.invariant.1.same, c.requires)

pub loop-b-preserved : goal.loop-b-preserved
loop-b-preserved c =
    let l = c.loop-b in
    let p = c.put_byte-end.ensures in
    (omega (arith, p.value, l.invariant.0), puts_as (sym (take_more c.args.word.now l.b-index (omega arith))) (puts_then l.invariant.1 p.puts))

pub shape_of-out : goal.shape_of-out
shape_of-out c = c.loop-b.invariant.1.same

pub returns : goal.returns
returns c =
    let l = c.loop-b in
    let w = c.args.word.now in
    let z : l.b-index ≡ length w = omega arith in
    record { value = omega (arith, l.invariant.0, z); puts = puts_as (ap (λ (n : ℕ). take n w) z ∙ take-length w) l.invariant.1 }
