use mathlib.Core.Path.{refl, sym, ap}
use mathlib.Core.List.{List}
use Prim.Native.Nat.{ℕ}
use lib.ListN.{length}
use Rattle.std.proofs.lemmas.Result.{err_from_is_err_and}
use Rattle.image_size.proofs.Laws.{sized}
use Rattle.clip_frame.proofs.Refusals.{accepted, side_small, length_small}
use Rattle.clip_writer.proofs.Writing.{frame_refused, frame_written}
use Rattle.clip_writer.proofs.write_frame.Goals as goal

pub returns-in_err-check_written : goal.returns-in_err-check_written
returns-in_err-check_written c =
    let p = err_from_is_err_and c.from_residual.result c.from_residual.ensures.1 in
    rw (p.1, p.2) (record { value = c.in_err-check_written.ensures; out_after = frame_refused _ _ _ _ c.in_err-check_written.ensures })

pub head_of-head-requires : goal.head_of-head-requires
head_of-head-requires c =
    let a = accepted _ _ _ (sym c.in_ok-check_written.ensures) in
    let s = sized _ _ _ a.sizes in
    (length_small _ _ _ a, side_small _ s.wide, side_small _ s.high)

pub fill-requires : goal.fill-requires
fill-requires c = (ap (λ (l : List ℕ). length l) c.head_of-head.ensures, (accepted _ _ _ (sym c.in_ok-check_written.ensures)).buffer)

pub returns : goal.returns
returns c =
    let z = sym c.in_ok-check_written.ensures in
    record { value = sym z; out_after = frame_written _ _ _ z refl c.head_of-head.ensures c.fill.ensures }
