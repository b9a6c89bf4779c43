-- Blocks decoded one after the other: what holds after the first b of them, over any picture, any rule f for a texel's numbers and any rule for a
-- block's fault, so that one law serves every format and kind, flat pictures and volumes.
-- Assumes nothing.
use mathlib.Core.Path.{◌≡◌, refl, sym, ap₂, ◌∙◌}
use mathlib.Core.List.{List}
use Prim.Native.Nat.{ℕ, ◌+◌, ◌*◌, ◌/◌, ◌%◌, ◌≤◌, ◌<◌}
use native.Mathlib.Omega.{arith}
use lib.ListN.{length}
use Rattle.laws.specs.Table.{tab}
use Rattle.picture_regions.specs.inner.Regions.{Picture, Tile}
use Rattle.picture_regions.proofs.Blocks.{Covered, ShownTo, shown_none, shown_more, shown_all}
use Rattle.image_layout.specs.declared.Tally.{Tally}
use Rattle.image_layout.specs.Faulty.{tally_of}
use Rattle.image_layout.specs.inner.Noted.{noted}
use Rattle.image_layout.proofs.Tallies.{tally_start, tally_more}

-- the first b blocks are decoded: they show f, their faults are counted, and there is room for a block
pub record Walking (f : ℕ → ℕ → ℕ → ℕ) (fault : ℕ → ℕ) (size : ℕ) (p : Picture) (old new buf : List ℕ) (t : Tally) (b : ℕ) : Type 0 where
  pub within : b ≤ p.down * p.across
  pub same : length new ≡ length old
  pub shown : ShownTo p b f new
  pub tallied : t ≡ tally_of fault b
  pub room : length buf ≡ size

module _ (f : ℕ → ℕ → ℕ → ℕ) (fault : ℕ → ℕ) (size : ℕ) (p : Picture) (covered : Covered p) where
  -- before the first block
  pub walking_start : (old buf : List ℕ) → length buf ≡ size → Walking f fault size p old old buf (record { count = 0; first = 0; fault = 0 }) 0
  walking_start old buf e = record { within = omega arith; same = refl; shown = shown_none p covered f old; tallied = sym (tally_start fault); room = e }

  -- one block more
  pub walking_more : (old l buf : List ℕ) (t : Tally) (b : ℕ) (new buf' : List ℕ) (t' : Tally) (e : ℕ) → Walking f fault size p old l buf t b
      → b < p.down * p.across → length new ≡ length l → length buf' ≡ size → Tile p b f l new
      → e ≡ fault b → t' ≡ noted t b e → Walking f fault size p old new buf' t' (b + 1)
  walking_more old l buf t b new buf' t' e d h n r tile told note = record {
    within = omega arith;
    same = n ∙ d.same;
    shown = shown_more p covered f b l new d.shown tile;
    tallied = note ∙ ap₂ (λ (t : Tally) (e : ℕ). noted t b e) d.tallied told ∙ tally_more fault b;
    room = r;
  }

  -- after the last
  pub walking_done : (old l buf : List ℕ) (t : Tally) (b : ℕ) → length old ≡ 4 * (p.rows * p.width) → p.down * p.across ≤ b → Walking f fault size p old l buf t b
      → (t ≡ tally_of fault (p.down * p.across)) × (l ≡ tab (λ n. f (n / 4 % p.width) (n / 4 / p.width) (n % 4)) (4 * (p.rows * p.width)))
  walking_done old l buf t b long h d =
      let q : b ≡ p.down * p.across = let z = d.within in omega arith in
      (rw q at d.tallied, shown_all p covered f l (d.same ∙ long) (rw q at d.shown))
