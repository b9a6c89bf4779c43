-- The buffer of the frame writer.
-- Assumes nothing.
use Prim.Native.Nat.{ℕ, ◌+◌, ◌-◌, ◌≤◌, ◌<◌}
use mathlib.Core.Path.{◌≡◌, refl, sym, ap, ◌∙◌}
use mathlib.Core.List.{List, ◌++◌}
use native.Mathlib.Omega.{arith}
use lib.ListN.{length, get_or, length-append, get_or-append}
use lib.Seq.{get_or-append-add}
use borrow.Author.Tests.{eq-eqb, ne_eqb}
use Rattle.laws.specs.Table.{tab}
use Rattle.laws.specs.inner.Filled.{Filled}
use Rattle.laws.proofs.Filling.{filled_all}
use Rattle.reason.specs.declared.Refusal.{Refusal}
use Rattle.reason.specs.Numbers.{refusal_number}
use Rattle.reason.proofs.Told.{refusal_some}
use Rattle.clip_frame.specs.declared.Frame.{Frame}
use Rattle.clip_frame.specs.Frame.{head_bytes, frame_bytes, write_refusal, frame_out}

pub frame_refused : (f : Frame) (s old : List ℕ) (r : Refusal) → refusal_number r ≡ write_refusal f (length s) (length old) → old ≡ frame_out f s old
unfolding frame_out
frame_refused f s old r e = rw (ne_eqb (write_refusal f (length s) (length old)) 0 (λ z. omega (arith, refusal_some r, e, z)))

pub frame_written : (f : Frame) (s old : List ℕ) {head out : List ℕ} {n : ℕ} → write_refusal f (length s) (length old) ≡ 0 → n ≡ 6 + length s → head ≡ head_bytes n f → out ≡ head ++ s → out ≡ frame_out f s old
unfolding frame_out frame_bytes
frame_written f s old {head} {out} {n} z en eh eo =
    eo ∙ ap (λ (l : List ℕ). l ++ s) eh ∙ ap (λ (k : ℕ). head_bytes k f ++ s) en ∙ rw (eq-eqb (write_refusal f (length s) (length old)) 0 z)

-- ---- a head of ten bytes and what follows

pub at_head : (h s : List ℕ) (k : ℕ) → length h ≡ 10 → k < 10 → get_or h k 0 ≡ get_or (h ++ s) k 0
at_head h s k e l = sym (get_or-append h s 0 k (omega (arith, e)))

pub at_rest : (h s : List ℕ) (k : ℕ) → length h ≡ 10 → 10 ≤ k → get_or s (k - 10) 0 ≡ get_or (h ++ s) k 0
at_rest h s k e l = sym (get_or-append-add h s (k - 10) 0) ∙ ap (λ (n : ℕ). get_or (h ++ s) n 0) (omega (arith, e))

pub joined : (h s out : List ℕ) (n : ℕ) → length h ≡ 10 → n ≡ 10 + length s → out ≡ tab (λ k. get_or (h ++ s) k 0) n → out ≡ h ++ s
unfolding Filled
joined h s out n e en eo =
    eo ∙ sym (filled_all (λ k. get_or (h ++ s) k 0) 0 (h ++ s) n (length-append h s ∙ omega (arith, e, en)) (λ k l. refl))
