use mathlib.Core.Path.{sym, ap, ◌∙◌}
use mathlib.Core.List.{List}
use Prim.Native.Nat.{ℕ, ◌/◌}
use native.Mathlib.Omega.{arith}
use lib.ListN.{length}
use Rattle.std.proofs.lemmas.Result.{err_from_is_err_and}
use Rattle.interpolation.specs.declared.Kind.TheVariants.{Float16}
use Rattle.image_layout.specs.Numbers.{fault_at}
use Rattle.image_layout.specs.Faulty.{tally_of}
use Rattle.canonical_image.specs.Frames.{canonical_bytes}
use Rattle.canonical_image.proofs.Laws.{accepted, counted, frame_refused, frame_done}
use Rattle.canonical_image.proofs.canonical_frame.Goals as goal

pub returns-in_err-check_image : goal.returns-in_err-check_image
returns-in_err-check_image c =
    let p = err_from_is_err_and c.from_residual.result c.from_residual.ensures.1 in
    let a = c.args in
    let it = frame_refused a.fp a.width a.height a.blocks.now a.out.now _ c.in_err-check_image.ensures in
    rw (p.1, p.2) (record { value = it.answer; told = it.told; out_after = it.out })

pub copy-requires : goal.copy-requires
copy-requires c = (accepted _ _ _ _ _ (sym c.in_ok-check_image.ensures)).room

pub rewrite-requires : goal.rewrite-requires
rewrite-requires c =
    let k = accepted _ _ _ _ _ (sym c.in_ok-check_image.ensures) in
    let n = counted _ _ _ _ _ k in
    record { fp_bound = k.known; blocks_len = ap length c.copy.ensures ∙ n.sixteens; n_bound = n.most }

pub returns : goal.returns
returns c =
    let a = c.args in
    let z = sym c.in_ok-check_image.ensures in
    let n = counted _ _ _ _ _ (accepted _ _ _ _ _ z) in
    let e = c.copy.ensures in
    let it = frame_done a.fp a.width a.height a.blocks.now a.out.now z _ _
    (c.rewrite.ensures.value ∙ ap (λ (l : List ℕ). tally_of (fault_at a.fp Float16 l) (length a.blocks.now / 16)) e ∙ ap (tally_of (fault_at a.fp Float16 a.blocks.now)) n.count)
    (c.rewrite.ensures.blocks_after ∙ ap (canonical_bytes a.fp) e) in
    record { value = it.answer; told = it.told; out_after = it.out }
