-- The ten bytes before a frame's blocks are read as they were written.
-- Assumes nothing.
use Prim.Native.Nat.{ℕ, ◌+◌, ◌/◌}
use native.Mathlib.Nat.{div-add-mod'}
use native.Mathlib.Omega.{arith}
use mathlib.Core.Path.{◌≡◌, sym, ap, ◌∙◌}
use mathlib.Core.List.{List, ◌++◌}
use lib.ListN.{length}
use Rattle.clip_frame.specs.declared.Frame.{Frame}
use Rattle.clip_frame.specs.Frame.{length_in, frame_in, head_bytes, frame_bytes, HeadBack}

pub frame_back : (n : ℕ) (f : Frame) (s : List ℕ) → frame_in (head_bytes n f ++ s) ≡ f
frame_back n f s = λ t. record {
  footprint = f.footprint;
  kind = f.kind;
  width = div-add-mod' f.width 256 t;
  height = div-add-mod' f.height 256 t;
}

pub length_back : (n : ℕ) (f : Frame) (s : List ℕ) → length_in (head_bytes n f ++ s) ≡ n
length_back n f s = rw (div-add-mod' (n / 256 / 256) 256, div-add-mod' (n / 256) 256, div-add-mod' n 256)

of_the_rest : (f : Frame) (s : List ℕ) → length (frame_bytes f s) ≡ 4 + length_in (frame_bytes f s)
unfolding frame_bytes
of_the_rest f s = let e : length (head_bytes (6 + length s) f ++ s) ≡ 4 + (6 + length s) = omega arith in e ∙ ap (λ (k : ℕ). 4 + k) (sym (length_back (6 + length s) f s))

pub head_back : HeadBack
head_back = record { frame_back = frame_back; length_back = length_back; of_the_rest = of_the_rest }
