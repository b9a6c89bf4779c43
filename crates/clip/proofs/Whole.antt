-- A whole block at the start of a piece: the sixteen steps of a feed at once.
-- Assumes nothing.
use Prim.Native.Nat.{ℕ, ◌≤◌}
use native.Mathlib.Omega.{arith}
use mathlib.Core.Path.{◌≡◌, refl, sym, ap, ◌∙◌}
use mathlib.Core.List.{List, [], ◌∷◌, ◌++◌}
use lib.ListN.{length, get_or, take, drop, length-drop}
use Rattle.std.specs.Prelude.{Some}
use Rattle.laws.specs.Table.{tab_from, tab}
use Rattle.clip_frame.specs.declared.Frame.{Frame}
use Rattle.clip.specs.declared.Phase.TheVariants.{Blocks}
use Rattle.clip.specs.declared.Event.TheVariants.{Block}
use Rattle.clip.specs.declared.Clip.{Clip}
use Rattle.clip.specs.declared.Fed.{Fed}
use Rattle.clip.specs.Step.{block_step, step_of, past}
use Rattle.clip.specs.Feed.{go_on}
use Rattle.clip.proofs.Timely.{none, in_block, first, first_of, spelt}

-- block j of frame i is handed out of a state c at the sixteenth byte of a piece
abbrev pub whole_fed : Clip → List ℕ → Fed
whole_fed c block = record { clip = past c; taken = 16; event = Some (Block c.index c.block block) }

module _ (i j l : ℕ) (f : Frame) (h0 h1 h2 h3 h4 h5 h6 h7 h8 h9 ha hb hc hd he hf : ℕ) (x0 x1 x2 x3 x4 x5 x6 x7 x8 x9 xa xb xc xd xe xf : ℕ) (s : List ℕ) where
  abbrev from : Clip
  from = in_block (h0 ∷ h1 ∷ h2 ∷ h3 ∷ h4 ∷ h5 ∷ h6 ∷ h7 ∷ h8 ∷ h9 ∷ ha ∷ hb ∷ hc ∷ hd ∷ he ∷ hf ∷ []) 0 i j l f

  sixteen_fed : go_on from (x0 ∷ x1 ∷ x2 ∷ x3 ∷ x4 ∷ x5 ∷ x6 ∷ x7 ∷ x8 ∷ x9 ∷ xa ∷ xb ∷ xc ∷ xd ∷ xe ∷ xf ∷ s)
      ≡ whole_fed from (x0 ∷ x1 ∷ x2 ∷ x3 ∷ x4 ∷ x5 ∷ x6 ∷ x7 ∷ x8 ∷ x9 ∷ xa ∷ xb ∷ xc ∷ xd ∷ xe ∷ xf ∷ [])
  unfolding go_on step_of block_step past
  sixteen_fed = refl

pub spelt_16 : (h : List ℕ) → length h ≡ 16 → h ≡ first 16 h
unfolding first tab tab_from
spelt_16 h e = spelt 16 h (omega (arith, e)) ∙ ap (λ (k : List ℕ). first 16 h ++ k) (none (drop 16 h) (length-drop 16 h ∙ omega (arith, e)))

module _ (h : List ℕ) (i j l : ℕ) (f : Frame) (s : List ℕ) (eh : length h ≡ 16) (es : 16 ≤ length s) where
  abbrev y : ℕ → ℕ
  y k = get_or h k 0

  abbrev x : ℕ → ℕ
  x k = get_or s k 0

  block_fed : go_on (in_block h 0 i j l f) s ≡ whole_fed (in_block h 0 i j l f) (take 16 s)
  unfolding first tab tab_from past
  block_fed =
      ap (λ (k : List ℕ). go_on (in_block k 0 i j l f) s) (spelt_16 h eh) ∙ ap (go_on (in_block (first 16 h) 0 i j l f)) (spelt 16 s es)
      ∙ sixteen_fed i j l f (y 0) (y 1) (y 2) (y 3) (y 4) (y 5) (y 6) (y 7) (y 8) (y 9) (y 10) (y 11) (y 12) (y 13) (y 14) (y 15) (x 0) (x 1) (x 2) (x 3) (x 4) (x 5) (x 6) (x 7) (x 8) (x 9) (x 10) (x 11) (x 12) (x 13) (x 14) (x 15) (drop 16 s)
      ∙ ap (whole_fed (in_block (first 16 h) 0 i j l f)) (sym (first_of 16 s es)) ∙ ap (λ (k : List ℕ). whole_fed (in_block k 0 i j l f) (take 16 s)) (sym (spelt_16 h eh))

-- of any state that waits for a block and holds none of its bytes
pub whole_fed_lem : (c : Clip) (s : List ℕ) → c.phase ≡ Blocks → c.have ≡ 0 → length c.held ≡ 16 → 16 ≤ length s → go_on c s ≡ whole_fed c (take 16 s)
whole_fed_lem c s ep ek eh es =
    let e : c ≡ in_block c.held 0 c.index c.block c.last c.frame = λ t. record {
      phase = ep t;
      have = ek t;
      held = c.held;
      index = c.index;
      block = c.block;
      last = c.last;
      frame = c.frame;
    } in
    ap (λ (k : Clip). go_on k s) e ∙ block_fed c.held c.index c.block c.last c.frame s eh es ∙ ap (λ (k : Clip). whole_fed k (take 16 s)) (sym e)
