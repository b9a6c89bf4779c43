-- 02, j: what the bytes bring, and when: nothing is handed out early and nothing late.
-- Assumes nothing.
use Prim.Native.Nat.{ℕ, zero, suc, ◌+◌, ◌-◌, ◌%◌, ◌^◌, ◌≤◌, ◌<◌}
use native.Mathlib.Omega.{arith}
use mathlib.Core.Path.{◌≡◌, refl, sym, ap, ◌∙◌}
use mathlib.Core.Bool.{Bool, true, false}
use mathlib.Core.List.{List, [], ◌∷◌, ◌++◌}
use lib.Dec.{eqb, ltb}
use lib.ListN.{length, get_or, set, take, drop, take-append-drop, length-take, length-drop}
use lib.Seq.{get_or-take, ext_get_or}
use borrow.Author.Tests.{eq-eqb, ne_eqb, lt-ltb, le-ltb}
use Rattle.std.specs.Prelude.{Option, None, Some}
use Rattle.laws.specs.Choice.{pick}
use Rattle.laws.specs.Table.{tab_from, tab}
use Rattle.laws.proofs.Filling.{length_tab, get_or_tab}
use Rattle.clip_frame.specs.declared.Frame.{Frame}
use Rattle.clip_frame.specs.Frame.{blocks_in, length_in, frame_in, frame_refusal}
use Rattle.clip.specs.declared.Phase.{Phase}
use Rattle.clip.specs.declared.Phase.TheVariants.{Version, Header, Blocks, Over}
use Rattle.clip.specs.declared.Event.{Event}
use Rattle.clip.specs.declared.Event.TheVariants.{Block, Told}
use Rattle.clip.specs.declared.Clip.{Clip}
use Rattle.clip.specs.declared.Step.{Step}
use Rattle.clip.specs.Step.{zeros, fresh_of, entered, quiet, over, more, begun, checked, handed, version_step, header_step, block_step, step_in, step_of, past}
use Rattle.clip.specs.Feed.{handed_out, run, told, finish_of}
use Rattle.clip.specs.Frames.{ready, waits, handed_block}
use Rattle.clip.specs.Theorems.{Timely}

-- lists
pub none : {A : Type 0} (l : List A) → length l ≡ 0 → l ≡ []
none [] e = refl
none (x ∷ l) e = absurd (omega (arith, e))

all_taken : {A : Type 0} (n : ℕ) (l : List A) → length l ≡ n → take n l ≡ l
all_taken zero l e = sym (none l e)
all_taken (suc n) [] e = absurd (omega (arith, e))
all_taken (suc n) (x ∷ l) e = ap (λ k. x ∷ k) (all_taken n l (omega (arith, e)))

-- a list's first n, written out
unfoldable pub first : ℕ → List ℕ → List ℕ
unfolding tab tab_from
first n s = tab (λ k. get_or s k 0) n

pub first_of : (n : ℕ) (s : List ℕ) → n ≤ length s → take n s ≡ first n s
unfolding first
first_of n s h =
    let m : length (take n s) ≡ n = length-take n s ∙ omega arith in
    ext_get_or 0 (take n s) (tab (λ k. get_or s k 0) n) (m ∙ sym (length_tab (λ k. get_or s k 0) n))
    (λ k l. let i : k < n = omega (arith, m) in get_or-take n s k 0 i ∙ sym (get_or_tab (λ k. get_or s k 0) n k 0 i))

pub spelt : (n : ℕ) (s : List ℕ) → n ≤ length s → s ≡ first n s ++ drop n s
spelt n s h = sym (take-append-drop n s) ∙ ap (λ (l : List ℕ). l ++ drop n s) (first_of n s h)

-- ---- bytes that complete nothing

-- k bytes of a block are held
abbrev pub in_block : List ℕ → ℕ → ℕ → ℕ → ℕ → Frame → Clip
in_block h k i j l f = record { phase = Blocks; have = k; held = h; index = i; block = j; last = l; frame = f }

-- k bytes of a frame's ten are held
abbrev in_header : List ℕ → ℕ → ℕ → Frame → Clip
in_header h k i f = record { phase = Header; have = k; held = h; index = i; block = 0; last = 0; frame = f }

module _ (i j l : ℕ) (f : Frame) where
  block_quiet : (s h : List ℕ) (k : ℕ) → k + length s ≤ 15 → told (in_block h k i j l f) s ≡ []
  unfolding told step_of block_step
  block_quiet [] h k p = refl
  block_quiet (b ∷ s) h k p = rw (lt-ltb k 15 (omega arith)) (block_quiet s (set h k b) (k + 1) (omega arith))

  block_held : (h : List ℕ) (k b : ℕ) → k < 15 → step_of (in_block h k i j l f) b ≡ quiet (in_block (set h k b) (k + 1) i j l f)
  unfolding step_of block_step
  block_held h k b p = rw (lt-ltb k 15 p)

  block_stays : (s h : List ℕ) (k : ℕ) → k + length s ≤ 15 → (run (in_block h k i j l f) s).phase ≡ Blocks
  unfolding run
  block_stays [] h k p = refl
  block_stays (b ∷ s) h k p =
      ap (λ (t : Step). (run t.clip s).phase) (block_held h k b (omega arith)) ∙ block_stays s (set h k b) (k + 1) (omega arith)

module _ (i : ℕ) (f : Frame) where
  header_quiet : (s h : List ℕ) (k : ℕ) → k + length s ≤ 9 → told (in_header h k i f) s ≡ []
  unfolding told step_of header_step
  header_quiet [] h k p = refl
  header_quiet (b ∷ s) h k p = rw (lt-ltb k 9 (omega arith)) (header_quiet s (set h k b) (k + 1) (omega arith))

  header_held : (h : List ℕ) (k b : ℕ) → k < 9 → step_of (in_header h k i f) b ≡ quiet (in_header (set h k b) (k + 1) i f)
  unfolding step_of header_step
  header_held h k b p = rw (lt-ltb k 9 p)

  header_stays : (s h : List ℕ) (k : ℕ) → k + length s ≤ 9
      → ((run (in_header h k i f) s).phase ≡ Header) × ((run (in_header h k i f) s).have ≡ k + length s)
  unfolding run
  header_stays [] h k p = (refl, omega arith)
  header_stays (b ∷ s) h k p =
      let e = header_held h k b (omega arith) in
      let r = header_stays s (set h k b) (k + 1) (omega arith) in
      (ap (λ (t : Step). (run t.clip s).phase) e ∙ r.0, ap (λ (t : Step). (run t.clip s).have) e ∙ r.1 ∙ omega arith)

-- ---- sixteen bytes of a block

module _ (i j l : ℕ) (f : Frame) (x0 x1 x2 x3 x4 x5 x6 x7 x8 x9 xa xb xc xd xe xf : ℕ) (s : List ℕ) where
  sixteen_run : run (waits i j l f) (x0 ∷ x1 ∷ x2 ∷ x3 ∷ x4 ∷ x5 ∷ x6 ∷ x7 ∷ x8 ∷ x9 ∷ xa ∷ xb ∷ xc ∷ xd ∷ xe ∷ xf ∷ s) ≡ run (past (waits i j l f)) s
  unfolding run step_of block_step past
  sixteen_run = refl

  sixteen_told : told (waits i j l f) (x0 ∷ x1 ∷ x2 ∷ x3 ∷ x4 ∷ x5 ∷ x6 ∷ x7 ∷ x8 ∷ x9 ∷ xa ∷ xb ∷ xc ∷ xd ∷ xe ∷ xf ∷ s)
      ≡ handed_block i j (x0 ∷ x1 ∷ x2 ∷ x3 ∷ x4 ∷ x5 ∷ x6 ∷ x7 ∷ x8 ∷ x9 ∷ xa ∷ xb ∷ xc ∷ xd ∷ xe ∷ xf ∷ []) ∷ told (past (waits i j l f)) s
  unfolding told step_of block_step past
  sixteen_told = refl

module _ (i j l : ℕ) (f : Frame) (s : List ℕ) where
  abbrev x : ℕ → ℕ
  x k = get_or s k 0

  pub block_run : 16 ≤ length s → run (waits i j l f) s ≡ run (past (waits i j l f)) (drop 16 s)
  unfolding first tab tab_from
  block_run h =
      ap (run (waits i j l f)) (spelt 16 s h)
      ∙ sixteen_run i j l f (x 0) (x 1) (x 2) (x 3) (x 4) (x 5) (x 6) (x 7) (x 8) (x 9) (x 10) (x 11) (x 12) (x 13) (x 14) (x 15) (drop 16 s)

  pub block_told_lem : 16 ≤ length s → told (waits i j l f) s ≡ handed_block i j (take 16 s) ∷ told (past (waits i j l f)) (drop 16 s)
  unfolding first tab tab_from
  block_told_lem h =
      ap (told (waits i j l f)) (spelt 16 s h)
      ∙ sixteen_told i j l f (x 0) (x 1) (x 2) (x 3) (x 4) (x 5) (x 6) (x 7) (x 8) (x 9) (x 10) (x 11) (x 12) (x 13) (x 14) (x 15) (drop 16 s)
      ∙ ap (λ (b : List ℕ). handed_block i j b ∷ told (past (waits i j l f)) (drop 16 s)) (sym (first_of 16 s h))

pub past_more : (i j l : ℕ) (f : Frame) → j < l → past (waits i j l f) ≡ waits i (j + 1) l f
unfolding past
past_more i j l f h = rw (lt-ltb j l h)

pub past_last : (i j l : ℕ) (f : Frame) → l ≤ j → past (waits i j l f) ≡ ready ((i + 1) % 2 ^ 32) f
unfolding past
past_last i j l f h = rw (le-ltb j l h)

module _ (i j l : ℕ) (f : Frame) (s : List ℕ) (e : length s ≡ 16) where
  left : drop 16 s ≡ []
  left = none (drop 16 s) (length-drop 16 s ∙ omega (arith, e))

  exactly_run : run (waits i j l f) s ≡ past (waits i j l f)
  unfolding run
  exactly_run = block_run i j l f s (omega (arith, e)) ∙ ap (run (past (waits i j l f))) left

  exactly_told : told (waits i j l f) s ≡ handed_block i j s ∷ []
  unfolding told
  exactly_told =
      block_told_lem i j l f s (omega (arith, e)) ∙ ap (λ (k : List ℕ). handed_block i j (take 16 s) ∷ told (past (waits i j l f)) k) left
      ∙ ap (λ (k : List ℕ). handed_block i j k ∷ []) (all_taken 16 s e)

-- ---- ten bytes of a frame

abbrev pub head : ℕ → ℕ → ℕ → ℕ → ℕ → ℕ → ℕ → ℕ → ℕ → ℕ → List ℕ
head b0 b1 b2 b3 b4 b5 b6 b7 b8 b9 = b0 ∷ b1 ∷ b2 ∷ b3 ∷ b4 ∷ b5 ∷ b6 ∷ b7 ∷ b8 ∷ b9 ∷ 0 ∷ 0 ∷ 0 ∷ 0 ∷ 0 ∷ 0 ∷ []

module _ (i : ℕ) (g : Frame) (b0 b1 b2 b3 b4 b5 b6 b7 b8 b9 : ℕ) (s : List ℕ) where
  abbrev pub there : Step
  there = checked (ready i g) (head b0 b1 b2 b3 b4 b5 b6 b7 b8 b9)

  pub ten_run : run (ready i g) (b0 ∷ b1 ∷ b2 ∷ b3 ∷ b4 ∷ b5 ∷ b6 ∷ b7 ∷ b8 ∷ b9 ∷ s) ≡ run there.clip s
  unfolding run step_of header_step checked
  ten_run = refl

  pub ten_told : told (ready i g) (b0 ∷ b1 ∷ b2 ∷ b3 ∷ b4 ∷ b5 ∷ b6 ∷ b7 ∷ b8 ∷ b9 ∷ s) ≡ handed_out there.event ++ told there.clip s
  unfolding told step_of header_step checked
  ten_told = refl

-- what a step brings that goes on or tells n, and then nothing
brings : (t : Bool) (a c : Clip) (n : ℕ)
    → handed_out (pick t (quiet a) (over c n)).event ++ told (pick t (quiet a) (over c n)).clip []
    ≡ pick t [] (Told n ∷ [])
unfolding told
brings true a c n = refl
brings false a c n = refl

ten_brings : (i : ℕ) (g : Frame) (s : List ℕ) → length s ≡ 10
    → told (ready i g) s ≡ pick (eqb (frame_refusal (frame_in s) (length_in s)) 0) [] (Told (frame_refusal (frame_in s) (length_in s)) ∷ [])
unfolding first tab tab_from checked
ten_brings i g s e =
    let x : ℕ → ℕ = λ k. get_or s k 0 in
    let n : ℕ = frame_refusal (frame_in s) (length_in s) in
    ap (told (ready i g)) (spelt 10 s (omega (arith, e)) ∙ ap (λ (k : List ℕ). first 10 s ++ k) (none (drop 10 s) (length-drop 10 s ∙ omega (arith, e))))
    ∙ ten_told i g (get_or s 0 0) (get_or s 1 0) (get_or s 2 0) (get_or s 3 0) (get_or s 4 0) (get_or s 5 0) (get_or s 6 0) (get_or s 7 0) (get_or s 8 0) (get_or s 9 0) []
    ∙ brings (eqb n 0) (begun (ready i g) (frame_in s)) (ready i g) n

ten_begins : (i : ℕ) (g : Frame) (s : List ℕ) → length s ≡ 10 → frame_refusal (frame_in s) (length_in s) ≡ 0
    → run (ready i g) s ≡ waits i 0 (blocks_in (frame_in s) - 1) (frame_in s)
unfolding first tab tab_from checked run
ten_begins i g s e z =
    let n : ℕ = frame_refusal (frame_in s) (length_in s) in
    ap (run (ready i g)) (spelt 10 s (omega (arith, e)) ∙ ap (λ (k : List ℕ). first 10 s ++ k) (none (drop 10 s) (length-drop 10 s ∙ omega (arith, e))))
    ∙ ten_run i g (get_or s 0 0) (get_or s 1 0) (get_or s 2 0) (get_or s 3 0) (get_or s 4 0) (get_or s 5 0) (get_or s 6 0) (get_or s 7 0) (get_or s 8 0) (get_or s 9 0) []
    ∙ ap (λ (t : Bool). (pick t (quiet (begun (ready i g) (frame_in s))) (over (ready i g) n)).clip) (eq-eqb n 0 z)

first_brings : (b : ℕ) → told fresh_of (b ∷ []) ≡ pick (eqb b 1) [] (Told 51 ∷ [])
unfolding told step_of version_step
first_brings b = brings (eqb b 1) (ready 0 fresh_of.frame) fresh_of 51

first_taken : run fresh_of (1 ∷ []) ≡ ready 0 fresh_of.frame
unfolding run step_of version_step
first_taken = refl

pub timely : Timely
timely = record {
  block_not_earlier = λ i j l f s h. block_quiet i j l f s zeros 0 (omega arith);
  block_handed = λ i j l f s e. exactly_told i j l f s e;
  next_block_lem = λ i j l f s e h. exactly_run i j l f s e ∙ past_more i j l f h;
  next_frame_lem = λ i j l f s e h. exactly_run i j l f s e ∙ past_last i j l f h;
  frame_not_earlier = λ i g s h. header_quiet i g s zeros 0 (omega arith);
  frame_told = ten_brings;
  frame_begun = ten_begins;
  version_told = first_brings;
  version_taken = first_taken;
}

-- ---- the end inside a frame

pub end_in_header : (i : ℕ) (g : Frame) (s : List ℕ) → 0 < length s → length s < 10 → (finish_of (run (ready i g) s)).number ≡ 53
unfolding finish_of
end_in_header i g s p h =
    let r = header_stays i g s zeros 0 (omega arith) in
    rw (r.0, ne_eqb (run (ready i g) s).have 0 (λ e. omega (arith, e, r.1)))

pub end_in_block : (i j l : ℕ) (f : Frame) (s : List ℕ) → length s < 16 → (finish_of (run (waits i j l f) s)).number ≡ 53
unfolding finish_of
end_in_block i j l f s h = let r = block_stays i j l f s zeros 0 (omega arith) in rw r

-- ---- where a told number leads

-- the phase that a number told leads to
abbrev pub told_in : Option Event → Phase → Phase
told_in None q = q
told_in (Some (Block i j s)) q = q
told_in (Some (Told n)) q = Over n

abbrev pub Led : Clip → Option Event → Type 0
Led c e = c.phase ≡ told_in e c.phase

led_by : (t : Bool) (a b : Step) → Led a.clip a.event → Led b.clip b.event → Led (pick t a b).clip (pick t a b).event
led_by true a b h l = h
led_by false a b h l = l

pub step_led : (q : Phase) (c : Clip) (b : ℕ) → Led (step_in q c b).clip (step_in q c b).event
unfolding version_step header_step block_step checked
step_led Version c b = led_by (eqb b 1) (quiet (entered c Header)) (over c 51) refl refl
step_led Header c b =
    let s : List ℕ = set c.held 9 b in
    let n : ℕ = frame_refusal (frame_in s) (length_in s) in
    led_by (ltb c.have 9) (more c b) (checked c s) refl (led_by (eqb n 0) (quiet (begun c (frame_in s))) (over c n) refl refl)
step_led Blocks c b = led_by (ltb c.have 15) (more c b) (handed c (set c.held 15 b)) refl refl
step_led (Over n) c b = refl
