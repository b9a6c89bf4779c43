-- `partition::seeds_from` meets its contract. Assumes nothing.
use Rattle.std.proofs.Common.{◌≡◌, ℕ, Bool}
use Rattle.partition.specs.declared.Lane.{Lane}
use Rattle.partition.specs.Select.{seed_of}
use Rattle.partition.specs.inner.Seeds.{lane_unless}
use Rattle.partition.specs.inner.Seeds.{seeds_from}
use Rattle.partition.proofs.seeds_from.Goals as goal

made : (absent small : Bool) (rnum k₁ k₂ s₁ s₂ t : ℕ) {l : Lane} {p q : ℕ} →
    l ≡ lane_unless absent small p q t → p ≡ seed_of rnum k₁ s₁ → q ≡ seed_of rnum k₂ s₂ → l ≡ lane_unless absent small (seed_of rnum k₁ s₁) (seed_of rnum k₂ s₂) t
made absent small rnum k₁ k₂ s₁ s₂ t e p q = rw (e, p, q)

pub returns : goal.returns
unfolding seeds_from
returns c =
    let b = c.before.before.before in
    let e = b.before.before.before in
    let f = e.before.before.before in
    rw (
      made _ _ _ _ _ _ _ _ f.lane_unless-a.ensures f.seed_of.ensures.0 f.seed_of-2.ensures.0,
      made _ _ _ _ _ _ _ _ e.lane_unless-b.ensures e.seed_of-3.ensures.0 e.seed_of-4.ensures.0,
      made _ _ _ _ _ _ _ _ b.lane_unless-c.ensures b.seed_of-5.ensures.0 b.seed_of-6.ensures.0,
      made _ _ _ _ _ _ _ _ c.lane_unless-d.ensures c.seed_of-7.ensures.0 c.seed_of-8.ensures.0,
    )
