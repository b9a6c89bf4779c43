-- 02, j: a frame that the writer makes is read as its blocks, and the reader then waits for the next frame; so is a whole clip.
-- Assumes nothing.
use Prim.Native.Nat.{ℕ, zero, suc, ◌+◌, ◌-◌, ◌*◌, ◌/◌, ◌%◌, ◌^◌, ◌<◌}
use native.Mathlib.Omega.{arith}
use mathlib.Core.Path.{◌≡◌, refl, sym, ap, ◌∙◌}
use mathlib.Core.List.{List, [], ◌∷◌, ◌++◌}
use lib.ListN.{length, take, drop, length-drop}
use borrow.Author.Tests.{eq-eqb}
use Rattle.image_size.proofs.Laws.{blocks_pos}
use Rattle.clip_frame.specs.declared.Frame.{Frame}
use Rattle.clip_frame.specs.Frame.{blocks_in, length_in, frame_in, head_bytes, frame_bytes, frame_refusal}
use Rattle.clip_frame.proofs.Refusals.{Accepted, accepted}
use Rattle.clip_frame.proofs.Bytes.{frame_back, length_back}
use Rattle.clip.specs.declared.Event.{Event}
use Rattle.clip.specs.declared.Clip.{Clip}
use Rattle.clip.specs.declared.Step.{Step}
use Rattle.clip.specs.Step.{fresh_of, quiet, begun, checked, version_step, step_of, past}
use Rattle.clip.specs.Feed.{handed_out, run, told, finish_of}
use Rattle.clip.specs.Frames.{ready, waits, handed_block, blocks_handed, Shot, frames_bytes, frames_handed}
use Rattle.clip.specs.Theorems.{Ends, ReadBack}
use Rattle.clip.proofs.Cut.{run_cut, told_cut}
use Rattle.clip.proofs.Timely.{none, block_run, block_told_lem, past_more, past_last, ten_run, ten_told, end_in_header, end_in_block}

-- ---- the ten bytes

abbrev six : List ℕ
six = 0 ∷ 0 ∷ 0 ∷ 0 ∷ 0 ∷ 0 ∷ []

checked_back : (c : Clip) (n : ℕ) (f : Frame) → frame_refusal f n ≡ 0 → checked c (head_bytes n f ++ six) ≡ quiet (begun c f)
unfolding checked
checked_back c n f e =
    let s : List ℕ = head_bytes n f ++ six in
    let q : frame_refusal (frame_in s) (length_in s) ≡ 0 =
    ap (λ (g : Frame). frame_refusal g (length_in s)) (frame_back n f six) ∙ ap (frame_refusal f) (length_back n f six) ∙ e in
    rw (eq-eqb (frame_refusal (frame_in s) (length_in s)) 0 q) (ap (λ (g : Frame). quiet (begun c g)) (frame_back n f six))

-- ---- all blocks of a frame: m more after block j

rest_run : (m i j l : ℕ) (f : Frame) (s : List ℕ) → j + m ≡ l → length s ≡ 16 * (m + 1) → run (waits i j l f) s ≡ ready ((i + 1) % 2 ^ 32) f
unfolding run
rest_run zero i j l f s e n =
    block_run i j l f s (omega (arith, n)) ∙ ap (λ (c : Clip). run c (drop 16 s)) (past_last i j l f (omega (arith, e)))
    ∙ ap (run (ready ((i + 1) % 2 ^ 32) f)) (none (drop 16 s) (length-drop 16 s ∙ omega (arith, n)))
rest_run (suc m) i j l f s e n =
    block_run i j l f s (omega (arith, n)) ∙ ap (λ (c : Clip). run c (drop 16 s)) (past_more i j l f (omega (arith, e)))
    ∙ rest_run m i (j + 1) l f (drop 16 s) (omega (arith, e)) (length-drop 16 s ∙ omega (arith, n))

rest_told : (m i j l : ℕ) (f : Frame) (s : List ℕ) → j + m ≡ l → length s ≡ 16 * (m + 1) → told (waits i j l f) s ≡ blocks_handed i j (suc m) s
unfolding told blocks_handed
rest_told zero i j l f s e n =
    block_told_lem i j l f s (omega (arith, n))
    ∙ ap (λ (t : List Event). handed_block i j (take 16 s) ∷ t)
    (ap (told (past (waits i j l f))) (none (drop 16 s) (length-drop 16 s ∙ omega (arith, n))))
rest_told (suc m) i j l f s e n =
    block_told_lem i j l f s (omega (arith, n))
    ∙ ap (λ (t : List Event). handed_block i j (take 16 s) ∷ t)
    (ap (λ (c : Clip). told c (drop 16 s)) (past_more i j l f (omega (arith, e))) ∙ rest_told m i (j + 1) l f (drop 16 s) (omega (arith, e)) (length-drop 16 s ∙ omega (arith, n)))

-- ---- a frame

module _ (i : ℕ) (g : Frame) (shot : Shot) where
  abbrev f : Frame
  f = shot.frame

  abbrev s : List ℕ
  s = shot.blocks

  abbrev N : ℕ
  N = blocks_in f

  abbrev n : ℕ
  n = 6 + length s

  taken : Accepted f (length s) (10 + length s)
  taken = accepted f (length s) (10 + length s) shot.fine

  one : suc (N - 1) ≡ N
  one = let p : 0 < N = blocks_pos f.footprint f.width f.height taken.sizes in omega (arith, p)

  long : length s ≡ 16 * (N - 1 + 1)
  long = taken.blocks ∙ ap (λ (m : ℕ). 16 * m) (sym one ∙ omega arith)

  begins : checked (ready i g) (head_bytes n f ++ six) ≡ quiet (begun (ready i g) f)
  begins = checked_back (ready i g) n f taken.readable

  frame_run : run (ready i g) (frame_bytes f s) ≡ ready ((i + 1) % 2 ^ 32) f
  unfolding frame_bytes
  frame_run =
      ten_run i g (n / 256 / 256 / 256) (n / 256 / 256 % 256) (n / 256 % 256) (n % 256) f.footprint f.kind (f.width / 256) (f.width % 256) (f.height / 256) (f.height % 256) s
      ∙ ap (λ (t : Step). run t.clip s) begins ∙ rest_run (N - 1) i 0 (N - 1) f s (omega arith) long

  frame_out_lem : told (ready i g) (frame_bytes f s) ≡ blocks_handed i 0 N s
  unfolding frame_bytes
  frame_out_lem =
      ten_told i g (n / 256 / 256 / 256) (n / 256 / 256 % 256) (n / 256 % 256) (n % 256) f.footprint f.kind (f.width / 256) (f.width % 256) (f.height / 256) (f.height % 256) s
      ∙ ap (λ (t : Step). handed_out t.event ++ told t.clip s) begins
      ∙ rest_told (N - 1) i 0 (N - 1) f s (omega arith) long ∙ ap (λ (m : ℕ). blocks_handed i 0 m s) one

-- ---- all frames

frames_told : (i : ℕ) (g : Frame) (ks : List Shot) → told (ready i g) (frames_bytes ks) ≡ frames_handed i ks
unfolding told frames_bytes frames_handed
frames_told i g [] = refl
frames_told i g (k ∷ ks) =
    told_cut (ready i g) (frame_bytes k.frame k.blocks) (frames_bytes ks)
    ∙ ap (λ (c : Clip). told (ready i g) (frame_bytes k.frame k.blocks) ++ told c (frames_bytes ks)) (frame_run i g k)
    ∙ ap (λ (l : List Event). l ++ told (ready ((i + 1) % 2 ^ 32) k.frame) (frames_bytes ks)) (frame_out_lem i g k)
    ∙ ap (λ (l : List Event). blocks_handed i 0 (blocks_in k.frame) k.blocks ++ l) (frames_told ((i + 1) % 2 ^ 32) k.frame ks)

-- the reader then waits for one more
frames_end : (i : ℕ) (g : Frame) (ks : List Shot) → (finish_of (run (ready i g) (frames_bytes ks))).number ≡ 0
unfolding run frames_bytes finish_of
frames_end i g [] = refl
frames_end i g (k ∷ ks) =
    ap (λ (c : Clip). (finish_of c).number) (run_cut (ready i g) (frame_bytes k.frame k.blocks) (frames_bytes ks) ∙ ap (λ (c : Clip). run c (frames_bytes ks)) (frame_run i g k))
    ∙ frames_end ((i + 1) % 2 ^ 32) k.frame ks

whole_told : (ks : List Shot) → told fresh_of (1 ∷ frames_bytes ks) ≡ frames_handed 0 ks
unfolding told step_of version_step
whole_told ks = frames_told 0 fresh_of.frame ks

whole_end : (ks : List Shot) → (finish_of (run fresh_of (1 ∷ frames_bytes ks))).number ≡ 0
unfolding run step_of version_step
whole_end ks = frames_end 0 fresh_of.frame ks

pub read_back : ReadBack
read_back = record { frame_run = frame_run; frame_out_lem = frame_out_lem; whole = whole_told }

pub ends : Ends
unfolding finish_of
ends = record {
  before_the_version = refl;
  in_a_header = end_in_header;
  in_a_block = end_in_block;
  between_frames = λ i g. refl;
  after_whole_frames = whole_end;
}
