use Rattle.std.proofs.Common.{◌≡◌, [], ◌∷◌, length, sym, ◌∙◌}
use Rattle.laws.specs.Table.{tab_from, tab}
use Rattle.clip.proofs.Timely.{first}
use Rattle.clip_numbers.proofs.Lists.{numbers_spelt}
use Rattle.clip_numbers.proofs.numbers_of.Goals as goal
use Rattle.clip_numbers.proofs.numbers_of.Goals.{Start}

long_enough : (c : Start) → length c.args.c.held ≡ 16
long_enough c = c.well_formed.0.1.1.1.1.0.1.0.1

pub returns : goal.returns
unfolding first tab tab_from
returns c = let o = c.before.before.before.before.before.before.before.before.before.before.before.before.before.before.before.before.before.before.before.before.before.before.before in
    (λ t. (c.phase_number.ensures t) ∷ (c.phase_told.ensures t) ∷ (c.wide.ensures t) ∷ o.args.c.index ∷ o.args.c.block ∷ o.args.c.last ∷ (c.wide-2.ensures t) ∷ (c.wide-3.ensures t) ∷ o.args.c.frame.width ∷ o.args.c.frame.height ∷ (c.wide-4.ensures t) ∷ (c.wide-5.ensures t) ∷ (c.wide-6.ensures t) ∷ (c.wide-7.ensures t) ∷ (c.wide-8.ensures t) ∷ (c.wide-9.ensures t) ∷ (c.wide-10.ensures t) ∷ (c.wide-11.ensures t) ∷ (c.wide-12.ensures t) ∷ (c.wide-13.ensures t) ∷ (c.wide-14.ensures t) ∷ (c.wide-15.ensures t) ∷ (c.wide-16.ensures t) ∷ (c.wide-17.ensures t) ∷ (c.wide-18.ensures t) ∷ (c.wide-19.ensures t) ∷ []) ∙ sym (numbers_spelt o.args.c (long_enough o))
