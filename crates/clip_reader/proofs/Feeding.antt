-- The loop of a feed: what is left to do at each byte.
-- Assumes nothing.
use Rattle.std.proofs.Common.{◌≡◌, ℕ, suc, ◌+◌, ◌<◌, ◌≤◌, Bool, true, false, Some, List, [], ◌∷◌, length, get_or, take, drop, sym, ap, ◌∙◌, add-zero, zero-add, arith, drop_of_length-le, drop-cons}
use Rattle.laws.specs.Choice.{pick}
use Rattle.clip.specs.declared.Phase.{Phase}
use Rattle.clip.specs.declared.Phase.TheVariants.{Blocks}
use Rattle.clip.specs.declared.Event.TheVariants.{Block}
use Rattle.clip.specs.declared.Clip.{Clip}
use Rattle.clip.specs.declared.Step.{Step}
use Rattle.clip.specs.declared.Fed.{Fed}
use Rattle.clip.specs.Step.{is_handed, quiet, past, step_of}
use Rattle.clip.proofs.Whole.{whole_fed, whole_fed_lem}
use Rattle.clip.specs.Feed.{used_up, fed_by, one_more, go_on, feed_in, feed_of}

-- a feed that was preceded by n bytes
abbrev pub plus : ℕ → Fed → Fed
plus n f = record { clip = f.clip; taken = n + f.taken; event = f.event }

retold : (f : Fed) (n m : ℕ) → n ≡ m → ◌≡◌ {A = Fed} (record { clip = f.clip; taken = n; event = f.event }) (record { clip = f.clip; taken = m; event = f.event })
retold f n m e = rw e

pub begun_feed : (c : Clip) (s : List ℕ) → go_on c s ≡ plus 0 (go_on c (drop 0 s))
begun_feed c s = retold (go_on c s) (go_on c s).taken (0 + (go_on c s).taken) (sym (zero-add (go_on c s).taken))

opened : (c : Clip) (b : ℕ) (r : List ℕ) (t : Bool) → is_handed (step_of c b).event ≡ t → go_on c (b ∷ r) ≡ pick t (fed_by (step_of c b) 1) (one_more (go_on (step_of c b).clip r))
unfolding go_on
opened c b r t e = ap (λ (q : Bool). pick q (fed_by (step_of c b) 1) (one_more (go_on (step_of c b).clip r))) e

used : (c : Clip) (i : ℕ) → plus i (go_on c []) ≡ fed_by (quiet c) i
unfolding go_on
used c i = retold (used_up c 0) (i + 0) i (add-zero i)

module _ (c₀ c : Clip) (s : List ℕ) (i : ℕ) (t : Step) (inv : go_on c₀ s ≡ plus i (go_on c (drop i s))) where
  pub stop_here : (r : Fed) → i < length s → t ≡ step_of c (get_or s i 0) → is_handed t.event ≡ true → r ≡ fed_by t (i + 1) → r ≡ go_on c₀ s
  stop_here r l et h er =
      let b : ℕ = get_or s i 0 in
      let q : is_handed (step_of c b).event ≡ true = ap (λ (k : Step). is_handed k.event) (sym et) ∙ h in
      er ∙ ap (λ (k : Step). fed_by k (i + 1)) et
      ∙ sym (inv ∙ ap (λ (l' : List ℕ). plus i (go_on c l')) (drop-cons s i 0 l) ∙ ap (plus i) (opened c b (drop (suc i) s) true q))

  pub next_here : i < length s → t ≡ step_of c (get_or s i 0) → is_handed t.event ≡ false → go_on c₀ s ≡ plus (i + 1) (go_on t.clip (drop (i + 1) s))
  next_here l et h =
      let b : ℕ = get_or s i 0 in
      let q : is_handed (step_of c b).event ≡ false = ap (λ (k : Step). is_handed k.event) (sym et) ∙ h in
      let g : Fed = go_on (step_of c b).clip (drop (suc i) s) in
      let one : suc i ≡ i + 1 = omega arith in
      inv ∙ ap (λ (l' : List ℕ). plus i (go_on c l')) (drop-cons s i 0 l) ∙ ap (plus i) (opened c b (drop (suc i) s) false q)
      ∙ retold g (i + suc g.taken) (i + 1 + g.taken) (omega arith)
      ∙ ap (λ (n : ℕ). plus (i + 1) (go_on (step_of c b).clip (drop n s))) one
      ∙ ap (λ (k : Step). plus (i + 1) (go_on k.clip (drop (i + 1) s))) (sym et)

  pub end_here : (r : Fed) → length s ≤ i → t ≡ quiet c → r ≡ fed_by t i → r ≡ go_on c₀ s
  end_here r l et er = er ∙ ap (λ (k : Step). fed_by k i) et ∙ sym (inv ∙ ap (λ (l' : List ℕ). plus i (go_on c l')) (drop_of_length-le s {i = i} l) ∙ used c i)

-- a feed by its phase
pub by_phase : (c : Clip) (s : List ℕ) (q : Phase) (r : Fed) → c.phase ≡ q → r ≡ feed_in q c s → r ≡ feed_of c s
unfolding feed_of
by_phase c s q r e h = h ∙ ap (λ (k : Phase). feed_in k c s) (sym e)

-- a whole block at once
pub whole_returned : (c : Clip) (s : List ℕ) {next : Clip} {block : List ℕ} → c.phase ≡ Blocks → c.have ≡ 0 → length c.held ≡ 16 → 16 ≤ length s
    → next ≡ past c → block ≡ take 16 s → ◌≡◌ {A = Fed} (record { clip = next; taken = 16; event = Some (Block c.index c.block block) }) (go_on c s)
whole_returned c s {next} {block} ep ek eh es en eb =
    ap (λ (k : Clip). record { clip = k; taken = 16; event = Some (Block c.index c.block block) }) en ∙ ap (whole_fed c) eb ∙ sym (whole_fed_lem c s ep ek eh es)
