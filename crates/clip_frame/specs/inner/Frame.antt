-- The reasons that speak of the frame alone.
-- Assumes nothing.
use Rattle.std.specs.Prelude.{ℕ, []}
use Rattle.laws.specs.Reasons.{first_of}
use Rattle.clip_frame.specs.declared.Frame.{Frame}
use Rattle.clip_frame.specs.Frame.{frame_reasons}

unfoldable pub own_refusal : Frame → ℕ
own_refusal f = first_of (frame_reasons f [])
