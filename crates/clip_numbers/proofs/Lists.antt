-- Lists of numbers that are written out, and what calls leave.
-- Assumes nothing.
use Rattle.std.proofs.Common.{◌≡◌, ℕ, ◌+◌, ◌%◌, ◌≤◌, Bool, true, false, not, eqb, ltb, List, [], ◌∷◌, length, get_or, take, sym, refl, ap, ◌∙◌, eq-eqb, ne_eqb, eqb-true}
use borrow.Author.Tests.{not-false}
use Rattle.laws.specs.Choice.{pick}
use Rattle.laws.specs.Reasons.{when}
use Rattle.laws.proofs.Reasons.{first_none}
use Rattle.laws.proofs.Filling.{length_tab}
use Rattle.clip_frame.specs.declared.Frame.{Frame}
use Rattle.clip.specs.declared.Phase.{Phase}
use Rattle.clip.specs.declared.Phase.TheVariants.{Blocks}
use Rattle.clip.specs.declared.Clip.{Clip}
use Rattle.clip.specs.declared.Fed.{Fed}
use Rattle.clip.specs.Step.{past, next_block, next_frame}
use Rattle.clip.specs.Feed.{feed_in, feed_of}
use Rattle.clip.specs.Frames.{waits}
use Rattle.clip.proofs.Timely.{first}
use Rattle.clip.proofs.Whole.{spelt_16, whole_fed, whole_fed_lem}
use Rattle.clip_numbers.specs.Numbers.{phase_number, phase_told, state_numbers, phase_of, frame_from, held_of, clip_of, handed_block_numbers, feed_numbers, event_number, event_bytes, feed_refusal, feed_number, feed_state, feed_block, feed_told}

pub numbers_spelt : (c : Clip) → length c.held ≡ 16
    → state_numbers c
    ≡ phase_number c.phase ∷ phase_told c.phase ∷ c.have ∷ c.index ∷ c.block ∷ c.last
    ∷ c.frame.footprint ∷ c.frame.kind ∷ c.frame.width ∷ c.frame.height ∷ first 16 c.held
unfolding state_numbers
numbers_spelt c e = ap (λ (h : List ℕ). phase_number c.phase ∷ phase_told c.phase ∷ c.have ∷ c.index ∷ c.block ∷ c.last ∷ c.frame.footprint ∷ c.frame.kind ∷ c.frame.width ∷ c.frame.height ∷ h) (spelt_16 c.held e)

-- ---- a whole block

length_held : (s : List ℕ) → length (held_of s) ≡ 16
unfolding held_of
length_held s = length_tab (λ k. get_or s (10 + k) 0 % 256) 16

at_blocks : (s : List ℕ) → get_or s 0 0 ≡ 2 → (clip_of s).phase ≡ Blocks
unfolding clip_of phase_of
at_blocks s e = rw e

past_frame : (c : Clip) → (past c).frame ≡ c.frame
unfolding past
past_frame c = go (ltb c.block c.last) where
  go : (t : Bool) → (pick t (next_block c) (next_frame c)).frame ≡ c.frame
  go true = refl
  go false = refl

module _ (s p : List ℕ) (e0 : get_or s 0 0 ≡ 2) (e2 : get_or s 2 0 % 256 ≡ 0) (l : 16 ≤ length p) where
  -- the feed is that of a whole block
  fed : feed_of (clip_of s) p ≡ whole_fed (clip_of s) (take 16 p)
  unfolding feed_of clip_of
  fed =
      ap (λ (q : Phase). feed_in q (clip_of s) p) (at_blocks s e0) ∙ whole_fed_lem (clip_of s) p (at_blocks s e0) e2 (length_held s) l

  pub whole_state : {next : List ℕ} → next ≡ state_numbers (past (waits (get_or s 3 0) (get_or s 4 0) (get_or s 5 0) (frame_from s))) → next ≡ state_numbers (feed_of (clip_of s) p).clip
  unfolding past clip_of
  whole_state e = e ∙ ap (λ (f : Fed). state_numbers f.clip) (sym fed)

  pub whole_bytes : {b : List ℕ} → b ≡ take 16 p → b ≡ event_bytes (feed_of (clip_of s) p).event
  whole_bytes e = e ∙ ap (λ (f : Fed). event_bytes f.event) (sym fed)

  pub whole_told : {t : List ℕ} → t ≡ 16 ∷ handed_block_numbers (get_or s 3 0) (get_or s 4 0) (frame_from s) → t ≡ feed_numbers (feed_of (clip_of s) p)
  unfolding feed_numbers clip_of
  whole_told e =
      e ∙ ap (λ (f : Frame). 16 ∷ handed_block_numbers (get_or s 3 0) (get_or s 4 0) f) (sym (past_frame (clip_of s))) ∙ ap feed_numbers (sym fed)

  pub whole_number : 0 ≡ event_number (feed_of (clip_of s) p).event
  whole_number = ap (λ (f : Fed). event_number f.event) (sym fed)

-- ---- the calls

pub lengths : (a b c : ℕ) → feed_refusal a b c ≡ 0 → (a ≡ 26) × (b ≡ 16) × (c ≡ 8)
unfolding feed_refusal
lengths a b c e =
    let p = first_none (when (not (eqb a 26)) 5 ∷ when (not (eqb b 16)) 5 ∷ when (not (eqb c 8)) 5 ∷ []) tt e in
    (eqb-true a 26 (not-false (eqb a 26) p.0), eqb-true b 16 (not-false (eqb b 16) p.1.0), eqb-true c 8 (not-false (eqb c 8) p.1.1.0))

module _ (s p block told : List ℕ) {r : ℕ} (er : r ≡ feed_refusal (length s) (length block) (length told)) where
  module _ (h : r ≡ 0 → ⊥) where
    no : eqb (feed_refusal (length s) (length block) (length told)) 0 ≡ false
    no = ne_eqb (feed_refusal (length s) (length block) (length told)) 0 (λ e. h (er ∙ e))

    pub refused_number : r ≡ feed_number s p block told
    unfolding feed_number
    refused_number = rw no er

    pub refused_state : s ≡ feed_state s p block told
    unfolding feed_state
    refused_state = rw no

    pub refused_block : block ≡ feed_block s p block told
    unfolding feed_block
    refused_block = rw no

    pub refused_told : told ≡ feed_told s p block told
    unfolding feed_told
    refused_told = rw no

  module _ (z : r ≡ 0) where
    yes_fed : eqb (feed_refusal (length s) (length block) (length told)) 0 ≡ true
    yes_fed = eq-eqb (feed_refusal (length s) (length block) (length told)) 0 (sym er ∙ z)

    pub fed_number : {n : ℕ} → n ≡ event_number (feed_of (clip_of s) p).event → n ≡ feed_number s p block told
    unfolding feed_number
    fed_number e = rw yes_fed e

    pub fed_state : {l : List ℕ} → l ≡ state_numbers (feed_of (clip_of s) p).clip → l ≡ feed_state s p block told
    unfolding feed_state
    fed_state e = rw yes_fed e

    pub fed_block : {l : List ℕ} → l ≡ event_bytes (feed_of (clip_of s) p).event → l ≡ feed_block s p block told
    unfolding feed_block
    fed_block e = rw yes_fed e

    pub fed_told : {l : List ℕ} → l ≡ feed_numbers (feed_of (clip_of s) p) → l ≡ feed_told s p block told
    unfolding feed_told
    fed_told e = rw yes_fed e
