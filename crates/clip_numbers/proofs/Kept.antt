-- The list that a call leaves stands for the state that the definition gives.
-- Assumes nothing.
use Rattle.std.proofs.Common.{◌≡◌, ℕ, zero, suc, ◌+◌, ◌*◌, ◌%◌, ◌<◌, Bool, true, false, not, eqb, ltb, List, [], ◌∷◌, length, get_or, set, sym, refl, ap, ◌∙◌, mod-lt, mod-eq_of_lt, arith, length-set, ltb-true}
use Rattle.laws.specs.Choice.{pick, either}
use Rattle.laws.specs.Table.{tab_from, tab, Bytes}
use Rattle.laws.proofs.Filling.{length_tab}
use Rattle.clip_frame.specs.declared.Frame.{Frame}
use Rattle.image_size.specs.Sides.{bad_side}
use Rattle.clip_frame.specs.Frame.{blocks_in, length_in, frame_in, frame_refusal}
use Rattle.clip.specs.declared.Phase.{Phase}
use Rattle.clip.specs.declared.Phase.TheVariants.{Version, Header, Blocks, Over}
use Rattle.clip.specs.declared.Clip.{Clip}
use Rattle.clip.specs.Step.{zeros, fresh_of, is_handed, entered, quiet, over, version_step, more, begun, checked, header_step, next_block, next_frame, past, handed, block_step, step_in, step_of}
use Rattle.clip.specs.Feed.{fed_by, one_more, go_on, feed_in, feed_of, finish_number, finish_of}
use Rattle.clip.proofs.Timely.{first}
use Rattle.clip.proofs.Whole.{spelt_16}
use Rattle.clip_numbers.specs.Numbers.{phase_number, phase_told, state_numbers, phase_of, frame_from, held_of, clip_of}
use Rattle.clip_numbers.specs.Kept.{StateKept}

-- ---- lists of bytes

bytes_none : Bytes []
bytes_none zero = omega arith
bytes_none (suc k) = omega arith

bytes_more : (b : ℕ) (l : List ℕ) → b < 256 → Bytes l → Bytes (b ∷ l)
bytes_more b l p h zero = p
bytes_more b l p h (suc k) = h k

bytes_set : (l : List ℕ) (k b : ℕ) → Bytes l → b < 256 → Bytes (set l k b)
bytes_set [] zero b h p = h
bytes_set [] (suc k) b h p = h
bytes_set (x ∷ l) zero b h p = bytes_more b l p (λ i. h (suc i))
bytes_set (x ∷ l) (suc k) b h p = bytes_more x (set l k b) (h 0) (bytes_set l k b (λ i. h (suc i)) p)

bytes_from : (f : ℕ → ℕ) (i n : ℕ) → ((k : ℕ) → f k < 256) → Bytes (tab_from f i n)
unfolding tab_from
bytes_from f i zero h = bytes_none
bytes_from f i (suc n) h = bytes_more (f i) (tab_from f (suc i) n) (h i) (bytes_from f (suc i) n h)

bytes_zeros : Bytes zeros
unfolding tab_from
bytes_zeros = bytes_from (λ k. 0) 0 16 (λ k. omega arith)

-- ---- states whose bytes are bytes

record Fine (c : Clip) : Type 0 where
  have : c.have < 256
  size : length c.held ≡ 16
  held : Bytes c.held
  footprint : c.frame.footprint < 256
  kind : c.frame.kind < 256
  told : phase_told c.phase < 256

-- a state that holds nothing
fine_empty : (p : Phase) (i j l : ℕ) (f : Frame) → f.footprint < 256 → f.kind < 256 → phase_told p < 256
    → Fine (record { phase = p; have = 0; held = zeros; index = i; block = j; last = l; frame = f })
fine_empty p i j l f a b t = record { have = omega arith; size = refl; held = bytes_zeros; footprint = a; kind = b; told = t }

-- a refusal's number is a byte
refusal_small : (f : Frame) (n : ℕ) → frame_refusal f n < 256
unfolding frame_refusal
refusal_small f n = go (ltb 13 f.footprint) (ltb 2 f.kind) (either (bad_side f.width) (bad_side f.height)) (not (eqb n (6 + 16 * blocks_in f))) where
  go : (x y z u : Bool) → pick x 1 (pick y 2 (pick z 3 (pick u 52 0))) < 256
  go true y z u = omega arith
  go false true z u = omega arith
  go false false true u = omega arith
  go false false false true = omega arith
  go false false false false = omega arith

module _ (c : Clip) (w : Fine c) where
  fine_entered : (p : Phase) → phase_told p < 256 → Fine (entered c p)
  fine_entered p t = fine_empty p c.index c.block c.last c.frame w.footprint w.kind t

  fine_more : (b : ℕ) → b < 256 → c.have < 255 → Fine (more c b).clip
  fine_more b p h = record {
    have = omega arith;
    size = length-set c.held c.have b ∙ w.size;
    held = bytes_set c.held c.have b w.held p;
    footprint = w.footprint;
    kind = w.kind;
    told = w.told;
  }

  fine_past : Fine (past c)
  unfolding past
  fine_past = go (ltb c.block c.last) where
    go : (t : Bool) → Fine (pick t (next_block c) (next_frame c))
    go true = fine_empty Blocks c.index (c.block + 1) c.last c.frame w.footprint w.kind (omega arith)
    go false = fine_empty Header (next_frame c).index 0 0 c.frame w.footprint w.kind (omega arith)

  fine_checked : (s : List ℕ) → Bytes s → Fine (checked c s).clip
  unfolding checked
  fine_checked s h = go (eqb (frame_refusal (frame_in s) (length_in s)) 0) where
    go : (t : Bool) → Fine (pick t (quiet (begun c (frame_in s))) (over c (frame_refusal (frame_in s) (length_in s)))).clip
    go true = fine_empty Blocks c.index 0 (begun c (frame_in s)).last (frame_in s) (h 4) (h 5) (omega arith)
    go false = fine_entered (Over (frame_refusal (frame_in s) (length_in s))) (refusal_small (frame_in s) (length_in s))

  module _ (b : ℕ) (p : b < 256) where
    fine_version : Fine (version_step c b).clip
    unfolding version_step
    fine_version = go (eqb b 1) where
      go : (t : Bool) → Fine (pick t (quiet (entered c Header)) (over c 51)).clip
      go true = fine_entered Header (omega arith)
      go false = fine_entered (Over 51) (omega arith)

    fine_header : Fine (header_step c b).clip
    unfolding header_step
    fine_header = go (ltb c.have 9) refl where
      go : (t : Bool) → ltb c.have 9 ≡ t → Fine (pick t (more c b) (checked c (set c.held 9 b))).clip
      go true e = fine_more b p (let l = ltb-true c.have 9 e in omega arith)
      go false e = fine_checked (set c.held 9 b) (bytes_set c.held 9 b w.held p)

    fine_block : Fine (block_step c b).clip
    unfolding block_step
    fine_block = go (ltb c.have 15) refl where
      go : (t : Bool) → ltb c.have 15 ≡ t → Fine (pick t (more c b) (handed c (set c.held 15 b))).clip
      go true e = fine_more b p (let l = ltb-true c.have 15 e in omega arith)
      go false e = fine_past

    fine_in : (q : Phase) → Fine (step_in q c b).clip
    fine_in Version = fine_version
    fine_in Header = fine_header
    fine_in Blocks = fine_block
    fine_in (Over n) = w

    fine_step : Fine (step_of c b).clip
    unfolding step_of
    fine_step = fine_in c.phase

fine_fed : (c : Clip) (s : List ℕ) → Fine c → Bytes s → Fine (go_on c s).clip
unfolding go_on
fine_fed c [] w h = w
fine_fed c (b ∷ s) w h = go (is_handed (step_of c b).event) (fine_step c w b (h 0)) (fine_fed (step_of c b).clip s (fine_step c w b (h 0)) (λ i. h (suc i))) where
  go : (t : Bool) → Fine (step_of c b).clip → Fine (go_on (step_of c b).clip s).clip → Fine (pick t (fed_by (step_of c b) 1) (one_more (go_on (step_of c b).clip s))).clip
  go true x y = x
  go false x y = y

fine_feed : (c : Clip) (s : List ℕ) → Fine c → Bytes s → Fine (feed_of c s).clip
unfolding feed_of
fine_feed c s w h = go c.phase where
  go : (q : Phase) → Fine (feed_in q c s).clip
  go Version = fine_fed c s w h
  go Header = fine_fed c s w h
  go Blocks = fine_fed c s w h
  go (Over n) = w

fine_finish : (c : Clip) → Fine c → Fine (finish_of c).clip
unfolding finish_of
fine_finish c w = fine_entered c w (Over (finish_number c.phase c.have)) (go c.phase w.told) where
  zero_or_53 : (t : Bool) → pick t 0 53 < 256
  zero_or_53 true = omega arith
  zero_or_53 false = omega arith

  go : (q : Phase) → phase_told q < 256 → finish_number q c.have < 256
  go Version t = omega arith
  go Header t = zero_or_53 (eqb c.have 0)
  go Blocks t = omega arith
  go (Over n) t = t

-- ---- a list's state

small : (n : ℕ) → n % 256 < 256
small n = mod-lt n (omega arith)

fine_of : (s : List ℕ) → Fine (clip_of s)
unfolding clip_of frame_from held_of phase_of tab
fine_of s = record {
  have = small (get_or s 2 0);
  size = length_tab (λ k. get_or s (10 + k) 0 % 256) 16;
  held = bytes_from (λ k. get_or s (10 + k) 0 % 256) 0 16 (λ k. small (get_or s (10 + k) 0));
  footprint = small (get_or s 6 0);
  kind = small (get_or s 7 0);
  told = go (eqb (get_or s 0 0) 0) (eqb (get_or s 0 0) 1) (eqb (get_or s 0 0) 2);
} where
  go : (x y z : Bool) → phase_told (pick x Version (pick y Header (pick z Blocks (Over (get_or s 1 0 % 256))))) < 256
  go true y z = omega arith
  go false true z = omega arith
  go false false true = omega arith
  go false false false = small (get_or s 1 0)

-- ---- and back

phase_back : (p : Phase) → phase_told p < 256 → phase_of (phase_number p) (phase_told p) ≡ p
unfolding phase_of
phase_back Version h = refl
phase_back Header h = refl
phase_back Blocks h = refl
phase_back (Over n) h = ap Over (mod-eq_of_lt h)

held_back : (c : Clip) → length c.held ≡ 16 → Bytes c.held → held_of (state_numbers c) ≡ c.held
unfolding held_of state_numbers tab tab_from first
held_back c e h =
    let m : (k : ℕ) → get_or c.held k 0 % 256 ≡ get_or c.held k 0 = λ k. mod-eq_of_lt (h k) in
    (λ t. m 0 t ∷ m 1 t ∷ m 2 t ∷ m 3 t ∷ m 4 t ∷ m 5 t ∷ m 6 t ∷ m 7 t ∷ m 8 t ∷ m 9 t ∷ m 10 t ∷ m 11 t ∷ m 12 t ∷ m 13 t ∷ m 14 t ∷ m 15 t ∷ [])
    ∙ sym (spelt_16 c.held e)

back : (c : Clip) → Fine c → clip_of (state_numbers c) ≡ c
unfolding clip_of frame_from state_numbers
back c w = λ t. record {
  phase = phase_back c.phase w.told t;
  have = mod-eq_of_lt w.have t;
  held = held_back c w.size w.held t;
  index = c.index;
  block = c.block;
  last = c.last;
  frame = record {
    footprint = mod-eq_of_lt w.footprint t;
    kind = mod-eq_of_lt w.kind t;
    width = c.frame.width;
    height = c.frame.height;
  };
}

pub kept : StateKept
kept = record {
  started = back fresh_of (fine_empty Version 0 0 0 fresh_of.frame (omega arith) (omega arith) (omega arith));
  fed = λ s p h. back (feed_of (clip_of s) p).clip (fine_feed (clip_of s) p (fine_of s) h);
  finished = λ s. back (finish_of (clip_of s)).clip (fine_finish (clip_of s) (fine_of s));
}
