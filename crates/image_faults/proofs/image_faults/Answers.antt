use mathlib.Core.Path.{sym}
use Rattle.std.proofs.lemmas.Result.{err_from_is_err_and}
use Rattle.image_faults.proofs.Laws.{lengths, refused, told_all}
use Rattle.image_faults.proofs.image_faults.Goals as goal

pub returns-in_err-check : goal.returns-in_err-check
returns-in_err-check c =
    let p = err_from_is_err_and c.from_residual.result c.from_residual.ensures.1 in
    let a = c.args in
    let it = refused a.reading a.footprint a.kind a.width a.height a.blocks.now a.faults.now _ c.in_err-check.ensures in
    rw (p.1, p.2) (record { answer = it.answer; told = it.told; list = it.list })

pub each_fault-requires : goal.each_fault-requires
each_fault-requires c =
    let a = c.args in
    let l = lengths a.footprint a.kind a.width a.height a.blocks.now a.faults.now (sym c.in_ok-check.ensures) in
    record { footprint_bound = l.footprint; blocks_len = l.bytes; faults_len_bound = l.most }

pub returns : goal.returns
returns c =
    let a = c.args in
    let e = c.each_fault.ensures in
    let it = told_all a.reading a.footprint a.kind a.width a.height a.blocks.now a.faults.now _ _ _ c.kind_of.ensures (sym c.in_ok-check.ensures) e.value e.faults_after in
    record { answer = it.answer; told = it.told; list = it.list }
