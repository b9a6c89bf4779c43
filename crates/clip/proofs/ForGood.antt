-- 02, j: "After a refusal the reader takes nothing more until a fresh start and repeats that number", and so after the end.
-- Assumes nothing.
use Prim.Native.Nat.{ℕ}
use mathlib.Core.Path.{◌≡◌, refl, ap, ◌∙◌}
use mathlib.Core.Bool.{Bool, true, false}
use mathlib.Core.List.{List, [], ◌∷◌}
use Rattle.std.specs.Prelude.{Option, Some}
use Rattle.laws.specs.Choice.{pick}
use Rattle.clip.specs.declared.Phase.{Phase}
use Rattle.clip.specs.declared.Phase.TheVariants.{Version, Header, Blocks, Over}
use Rattle.clip.specs.declared.Event.{Event}
use Rattle.clip.specs.declared.Event.TheVariants.{Told}
use Rattle.clip.specs.declared.Clip.{Clip}
use Rattle.clip.specs.declared.Fed.{Fed}
use Rattle.clip.specs.Step.{is_handed, step_of}
use Rattle.clip.specs.Feed.{fed_by, one_more, go_on, feed_in, feed_of, finish_number, finish_of}
use Rattle.clip.specs.Theorems.{ForGood}
use Rattle.clip.proofs.Cut.{run_over, told_over}
use Rattle.clip.proofs.Timely.{told_in, Led, step_led}

fed_led : (t : Bool) (c : Clip) (b : ℕ) (g : Fed) → Led g.clip g.event
    → Led (pick t (fed_by (step_of c b) 1) (one_more g)).clip (pick t (fed_by (step_of c b) 1) (one_more g)).event
unfolding step_of
fed_led true c b g h = step_led c.phase c b
fed_led false c b g h = h

on_led : (c : Clip) (s : List ℕ) → Led (go_on c s).clip (go_on c s).event
unfolding go_on
on_led c [] = refl
on_led c (b ∷ s) = fed_led (is_handed (step_of c b).event) c b (go_on (step_of c b).clip s) (on_led (step_of c b).clip s)

in_led : (q : Phase) (c : Clip) (s : List ℕ) → c.phase ≡ q → Led (feed_in q c s).clip (feed_in q c s).event
in_led Version c s e = on_led c s
in_led Header c s e = on_led c s
in_led Blocks c s e = on_led c s
in_led (Over n) c s e = e

refused : (c : Clip) (s : List ℕ) (n : ℕ) → (feed_of c s).event ≡ Some (Told n) → (feed_of c s).clip.phase ≡ Over n
unfolding feed_of
refused c s n e = in_led c.phase c s refl ∙ ap (λ (v : Option Event). told_in v (feed_of c s).clip.phase) e

fed_again : (c : Clip) (n : ℕ) (s : List ℕ) → c.phase ≡ Over n → feed_of c s ≡ record { clip = c; taken = 0; event = Some (Told n) }
unfolding feed_of
fed_again c n s e = ap (λ (q : Phase). feed_in q c s) e

finished_again : (c : Clip) (n : ℕ) → c.phase ≡ Over n → (finish_of c).number ≡ n
unfolding finish_of
finished_again c n e = ap (λ (q : Phase). finish_number q c.have) e

finished : (c : Clip) → (finish_of c).clip.phase ≡ Over (finish_of c).number
unfolding finish_of
finished c = refl

pub for_good : ForGood
for_good = record { run_over = run_over; told_over = told_over; refused = refused; fed_again = fed_again; finished_again = finished_again; finished = finished }
