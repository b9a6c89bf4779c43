-- 02, j: "Cut anywhere after a fresh start, empty pieces included, the blocks, refusal and end state are the same", and "what is handed
-- out after each piece is fixed by the bytes taken since that start".
-- Assumes nothing.
use Prim.Native.Nat.{ℕ, zero, suc, ◌≤◌, ◌<◌}
use native.Mathlib.Omega.{arith}
use mathlib.Core.Path.{◌≡◌, refl, sym, ap, ◌∙◌}
use mathlib.Core.Bool.{Bool, true, false, not, true≢false}
use mathlib.Core.List.{List, [], ◌∷◌, ◌++◌}
use lib.ListN.{length, take, drop, take-append-drop, length-drop}
use Rattle.std.specs.Prelude.{Option, None, Some}
use Rattle.laws.specs.Choice.{pick, either}
use Rattle.clip.specs.declared.Phase.{Phase}
use Rattle.clip.specs.declared.Phase.TheVariants.{Version, Header, Blocks, Over}
use Rattle.clip.specs.declared.Event.{Event}
use Rattle.clip.specs.declared.Clip.{Clip}
use Rattle.clip.specs.declared.Fed.{Fed}
use Rattle.clip.specs.Step.{is_handed, step_in, step_of}
use Rattle.clip.specs.Feed.{handed_out, run, told, used_up, fed_by, one_more, go_on, feed_in, feed_of}
use Rattle.clip.specs.Pieces.{is_over_in, is_over, end_by, taken_by, out_by, Reading, after, piece_read, pieces_read, joined}
use Rattle.clip.specs.Theorems.{OneFeed, Cut, Fixed}

-- lists
nothing_after : {A : Type 0} (l : List A) → l ++ [] ≡ l
nothing_after [] = refl
nothing_after (x ∷ l) = ap (λ k. x ∷ k) (nothing_after l)

regroup : {A : Type 0} (a b c : List A) → (a ++ b) ++ c ≡ a ++ (b ++ c)
regroup [] b c = refl
regroup (x ∷ a) b c = ap (λ k. x ∷ k) (regroup a b c)

whole : {A : Type 0} (l : List A) (n : ℕ) → n ≡ length l → take n l ≡ l
whole [] zero e = refl
whole [] (suc n) e = absurd (omega (arith, e))
whole (x ∷ l) zero e = absurd (omega (arith, e))
whole (x ∷ l) (suc n) e = ap (λ k. x ∷ k) (whole l n (omega (arith, e)))

-- bytes a and then bytes b do what both do at once
pub run_cut : (c : Clip) (a b : List ℕ) → run c (a ++ b) ≡ run (run c a) b
unfolding run
run_cut c [] b = refl
run_cut c (x ∷ a) b = run_cut (step_of c x).clip a b

pub told_cut : (c : Clip) (a b : List ℕ) → told c (a ++ b) ≡ told c a ++ told (run c a) b
unfolding run told
told_cut c [] b = refl
told_cut c (x ∷ a) b =
    ap (λ l. handed_out (step_of c x).event ++ l) (told_cut (step_of c x).clip a b)
    ∙ sym (regroup (handed_out (step_of c x).event) (told (step_of c x).clip a) (told (run (step_of c x).clip a) b))

-- ---- a feed and the bytes that it took

-- of a reader that still takes bytes
record Fair (c : Clip) (s : List ℕ) (f : Fed) : Type 0 where
  state : f.clip ≡ run c (take f.taken s)
  out : handed_out f.event ≡ told c (take f.taken s)
  within : f.taken ≤ length s
  stops : is_handed f.event ≡ false → f.taken ≡ length s
  moves : is_handed f.event ≡ true → 0 < f.taken
  not_before : (n : ℕ) → n < f.taken → told c (take n s) ≡ []

nothing_handed : (e : Option Event) → is_handed e ≡ false → handed_out e ≡ []
nothing_handed None h = refl
nothing_handed (Some e) h = absurd (true≢false h)

-- fewer bytes than one, and fewer than one more
none_before : (c : Clip) (b : ℕ) (s : List ℕ) (n : ℕ) → n < 1 → told c (take n (b ∷ s)) ≡ []
unfolding told
none_before c b s zero h = refl
none_before c b s (suc n) h = absurd (omega (arith, h))

more_before : (c : Clip) (b : ℕ) (s : List ℕ) (m : ℕ) → is_handed (step_of c b).event ≡ false
    → ((n : ℕ) → n < m → told (step_of c b).clip (take n s) ≡ []) → (n : ℕ) → n < suc m → told c (take n (b ∷ s)) ≡ []
unfolding told
more_before c b s m e w zero h = refl
more_before c b s m e w (suc n) h =
    ap (λ l. l ++ told (step_of c b).clip (take n s)) (nothing_handed (step_of c b).event e) ∙ w n (omega (arith, h))

fair_step : (c : Clip) (b : ℕ) (s : List ℕ) (g : Fed) (t : Bool) → is_handed (step_of c b).event ≡ t → Fair (step_of c b).clip s g
    → Fair c (b ∷ s) (pick t (fed_by (step_of c b) 1) (one_more g))
unfolding run told
fair_step c b s g true e w = record {
  state = refl;
  out = sym (nothing_after (handed_out (step_of c b).event));
  within = omega arith;
  stops = λ h. absurd (true≢false (sym e ∙ h));
  moves = λ h. omega arith;
  not_before = none_before c b s;
}
fair_step c b s g false e w = record {
  state = w.state;
  out = w.out ∙ ap (λ l. l ++ told (step_of c b).clip (take g.taken s)) (sym (nothing_handed (step_of c b).event e));
  within = let h = w.within in omega arith;
  stops = λ h. ap suc (w.stops h);
  moves = λ h. omega arith;
  not_before = more_before c b s g.taken e w.not_before;
}

fair_none : (c : Clip) → Fair c [] (used_up c 0)
unfolding run told
fair_none c = record {
  state = refl;
  out = refl;
  within = omega arith;
  stops = λ h. refl;
  moves = λ h. absurd (true≢false (sym h));
  not_before = λ n h. absurd (omega (arith, h));
}

fair : (c : Clip) (s : List ℕ) → Fair c s (go_on c s)
unfolding go_on
fair c [] = fair_none c
fair c (b ∷ s) = fair_step c b s (go_on (step_of c b).clip s) (is_handed (step_of c b).event) refl (fair (step_of c b).clip s)

-- of any reader, by its phase
taking : (q : Phase) (c : Clip) (p : List ℕ) → c.phase ≡ q → is_over_in q ≡ false → OneFeed c p (go_on c p)
taking q c p e n = let w = fair c p in record {
  state = w.state;
  out = ap (λ (k : Phase). pick (is_over_in k) [] (handed_out (go_on c p).event)) e ∙ ap (λ (b : Bool). pick b [] (handed_out (go_on c p).event)) n ∙ w.out;
  within = w.within;
  stops = w.stops;
  moves = λ o h. w.moves h;
  not_before = w.not_before;
}

fed_in : (q : Phase) (c : Clip) (p : List ℕ) → c.phase ≡ q → OneFeed c p (feed_in q c p)
unfolding run told
fed_in Version c p e = taking Version c p e refl
fed_in Header c p e = taking Header c p e refl
fed_in Blocks c p e = taking Blocks c p e refl
fed_in (Over n) c p e = record {
  state = refl;
  out = ap (λ (k : Phase). pick (is_over_in k) [] (handed_out (feed_in (Over n) c p).event)) e;
  within = omega arith;
  stops = λ h. absurd (true≢false h);
  moves = λ o h. absurd (true≢false (sym (ap is_over_in e) ∙ o));
  not_before = λ k h. absurd (omega (arith, h));
}

pub one_feed : (c : Clip) (p : List ℕ) → OneFeed c p (feed_of c p)
unfolding feed_of
one_feed c p = fed_in c.phase c p refl

-- ---- any feeds, one after the other

end_fixed : (c : Clip) (ps : List (List ℕ)) → end_by c ps ≡ run c (taken_by c ps)
unfolding run end_by taken_by
end_fixed c [] = refl
end_fixed c (p ∷ ps) =
    end_fixed (feed_of c p).clip ps ∙ ap (λ (k : Clip). run k (taken_by (feed_of c p).clip ps)) (one_feed c p).state
    ∙ sym (run_cut c (take (feed_of c p).taken p) (taken_by (feed_of c p).clip ps))

out_fixed : (c : Clip) (ps : List (List ℕ)) → out_by c ps ≡ told c (taken_by c ps)
unfolding told out_by taken_by
out_fixed c [] = refl
out_fixed c (p ∷ ps) =
    ap (λ (l : List Event). pick (is_over c) [] (handed_out (feed_of c p).event) ++ l) (out_fixed (feed_of c p).clip ps)
    ∙ ap (λ (l : List Event). l ++ told (feed_of c p).clip (taken_by (feed_of c p).clip ps)) (one_feed c p).out
    ∙ ap (λ (k : Clip). told c (take (feed_of c p).taken p) ++ told k (taken_by (feed_of c p).clip ps)) (one_feed c p).state
    ∙ sym (told_cut c (take (feed_of c p).taken p) (taken_by (feed_of c p).clip ps))

pub fixed : Fixed
fixed = record { state = end_fixed; out = out_fixed }

-- ---- after a refusal or the end

quiet_in : (q : Phase) (c : Clip) (b : ℕ) → is_over_in q ≡ true → ((step_in q c b).clip ≡ c) × ((step_in q c b).event ≡ None)
quiet_in Version c b e = absurd (true≢false (sym e))
quiet_in Header c b e = absurd (true≢false (sym e))
quiet_in Blocks c b e = absurd (true≢false (sym e))
quiet_in (Over n) c b e = (refl, refl)

pub run_over : (c : Clip) (s : List ℕ) → is_over c ≡ true → run c s ≡ c
unfolding run step_of
run_over c [] e = refl
run_over c (b ∷ s) e = let q = (quiet_in c.phase c b e).0 in ap (λ (k : Clip). run k s) q ∙ run_over c s e

pub told_over : (c : Clip) (s : List ℕ) → is_over c ≡ true → told c s ≡ []
unfolding told step_of
told_over c [] e = refl
told_over c (b ∷ s) e =
    let q = quiet_in c.phase c b e in
    ap (λ (v : Option Event). handed_out v ++ told (step_of c b).clip s) q.1
    ∙ ap (λ (k : Clip). told k s) q.0 ∙ told_over c s e

-- ---- the caller's loop

abbrev read_at_once : Clip → List ℕ → Reading
read_at_once c s = record { clip = run c s; out = told c s }

reading : (a b : Clip) (k l : List Event) → a ≡ b → k ≡ l → ◌≡◌ {A = Reading} (record { clip = a; out = k }) (record { clip = b; out = l })
reading a b k l e g = λ t. record { clip = e t; out = g t }

-- bytes a, and then bytes b by themselves
split : (c : Clip) (a b : List ℕ) → after (told c a) (read_at_once (run c a) b) ≡ read_at_once c (a ++ b)
split c a b = reading (run (run c a) b) (run c (a ++ b)) (told c a ++ told (run c a) b) (told c (a ++ b)) (sym (run_cut c a b)) (sym (told_cut c a b))

module _ (n : ℕ) (c : Clip) (p : List ℕ) where
  abbrev f : Fed
  f = feed_of c p

  abbrev rest : List ℕ
  rest = drop f.taken p

  abbrev bit : List Event
  bit = handed_out f.event

  over_case : is_over c ≡ true → ◌≡◌ {A = Reading} (record { clip = f.clip; out = [] }) (read_at_once c p)
  over_case o = reading f.clip (run c p) [] (told c p)
      ((one_feed c p).state ∙ run_over c (take f.taken p) o ∙ sym (run_over c p o)) (sym (told_over c p o))

  quiet_case : is_over c ≡ false → is_handed f.event ≡ false → ◌≡◌ {A = Reading} (record { clip = f.clip; out = [] }) (read_at_once c p)
  quiet_case o h =
      let w = one_feed c p in
      let e : take f.taken p ≡ p = whole p f.taken (w.stops h) in
      let b : bit ≡ [] = nothing_handed f.event h in
      reading f.clip (run c p) [] (told c p) (w.state ∙ ap (run c) e)
      (sym b ∙ ap (λ (q : Bool). pick q [] bit) (sym o) ∙ w.out ∙ ap (told c) e)

  handed_case : is_over c ≡ false → piece_read n f.clip rest ≡ read_at_once f.clip rest → after bit (piece_read n f.clip rest) ≡ read_at_once c p
  handed_case o e =
      let w = one_feed c p in
      let b : bit ≡ told c (take f.taken p) = ap (λ (q : Bool). pick q [] bit) (sym o) ∙ w.out in
      ap (after bit) e ∙ ap (λ (k : Clip). after bit (read_at_once k rest)) w.state
      ∙ ap (λ (l : List Event). after l (read_at_once (run c (take f.taken p)) rest)) b ∙ split c (take f.taken p) rest
      ∙ ap (read_at_once c) (take-append-drop f.taken p)

  step_case : (o h : Bool) → is_over c ≡ o → is_handed f.event ≡ h
      → (is_over c ≡ false → is_handed f.event ≡ true → piece_read n f.clip rest ≡ read_at_once f.clip rest)
      → pick (either o (not h)) (record { clip = f.clip; out = [] }) (after bit (piece_read n f.clip rest)) ≡ read_at_once c p
  step_case true h eo eh more = over_case eo
  step_case false false eo eh more = quiet_case eo eh
  step_case false true eo eh more = handed_case eo (more eo eh)

piece_read_lem : (n : ℕ) (c : Clip) (p : List ℕ) → length p < n → piece_read n c p ≡ read_at_once c p
unfolding piece_read
piece_read_lem zero c p h = absurd (omega (arith, h))
piece_read_lem (suc n) c p h =
    step_case n c p (is_over c) (is_handed (feed_of c p).event) refl refl
    (λ o e. let w = one_feed c p in
    piece_read_lem n (feed_of c p).clip (drop (feed_of c p).taken p) (let m = w.moves o e in let k = length-drop (feed_of c p).taken p in let i = w.within in omega arith))

anywhere : (c : Clip) (ps : List (List ℕ)) → pieces_read c ps ≡ read_at_once c (joined ps)
unfolding pieces_read joined run told
anywhere c [] = refl
anywhere c (p ∷ ps) =
    ap (λ (r : Reading). after r.out (pieces_read r.clip ps)) (piece_read_lem (suc (length p)) c p (omega arith))
    ∙ ap (after (told c p)) (anywhere (run c p) ps) ∙ split c p (joined ps)

pub cut : Cut
cut = record { run_cut = run_cut; told_cut = told_cut; one_feed = one_feed; anywhere = anywhere }
