-- The tenth byte of a frame.
-- Assumes nothing.
use Rattle.std.proofs.Common.{◌≡◌, ℕ, List, sym, ap, ◌∙◌, eq-eqb, ne_eqb, arith}
use Rattle.reason.specs.declared.Refusal.{Refusal}
use Rattle.reason.specs.Numbers.{refusal_number}
use Rattle.reason.proofs.Told.{refusal_some}
use Rattle.clip_frame.specs.declared.Frame.{Frame}
use Rattle.clip_frame.specs.Frame.{length_in, frame_in, frame_refusal}
use Rattle.clip.specs.declared.Clip.{Clip}
use Rattle.clip.specs.declared.Step.{Step}
use Rattle.clip.specs.Step.{quiet, over, begun, checked}

module _ (c : Clip) (s : List ℕ) (f : Frame) (len : ℕ) where
  refused : f ≡ frame_in s → len ≡ length_in s → frame_refusal f len ≡ frame_refusal (frame_in s) (length_in s)
  refused ef el = ap (λ (g : Frame). frame_refusal g len) ef ∙ ap (frame_refusal (frame_in s)) el

  pub checked_passed : (a : Clip) (b : Step) → f ≡ frame_in s → len ≡ length_in s → 0 ≡ frame_refusal f len → a ≡ begun c f → b ≡ quiet a → b ≡ checked c s
  unfolding checked
  checked_passed a b ef el z ea eb =
      let q : frame_refusal (frame_in s) (length_in s) ≡ 0 = sym (z ∙ refused ef el) in
      eb ∙ ap quiet (ea ∙ ap (begun c) ef) ∙ rw (eq-eqb (frame_refusal (frame_in s) (length_in s)) 0 q)

  pub checked_stopped : (b : Step) → f ≡ frame_in s → len ≡ length_in s → (r : Refusal) → refusal_number r ≡ frame_refusal f len
      → b ≡ over c (refusal_number r) → b ≡ checked c s
  unfolding checked
  checked_stopped b ef el r e eb =
      let q = e ∙ refused ef el in
      eb ∙ ap (over c) q ∙ rw (ne_eqb (frame_refusal (frame_in s) (length_in s)) 0 (λ z. omega (arith, refusal_some r, q, z)))
