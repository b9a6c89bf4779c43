-- A store byte by byte.
-- Assumes nothing.
use mathlib.Core.Path.{◌≡◌, refl, sym, ap, ◌∙◌}
use mathlib.Core.List.{List}
use Prim.Native.Nat.{ℕ, ◌+◌, ◌<◌}
use native.Mathlib.Decide.{dec_lt}
use native.Mathlib.Omega.{arith}
use lib.ListN.{length, get_or, set, length-set}
use lib.Seq.{get_or-set_same, get_or-set_other}
use Rattle.block_store.specs.inner.Places.{Put}

pub put_start : (at : ℕ) (bytes old : List ℕ) → Put at 0 bytes old old
put_start at bytes old = record { size = refl; below = λ k l. refl; here = λ k l. absurd (omega arith); above = λ k l. refl }

pub put_more : (at n : ℕ) (bytes old new : List ℕ) → at + n < length old → Put at n bytes old new → Put at (n + 1) bytes old (set new (at + n) (get_or bytes n 0))
put_more at n bytes old new l p = record {
  size = length-set new (at + n) _ ∙ p.size;
  below = λ k m. get_or-set_other new (at + n) k _ 0 (λ q. omega arith) ∙ p.below k m;
  here = λ k m. elim (dec_lt k n) [
    | yes q ↦ get_or-set_other new (at + n) (at + k) _ 0 (λ z. omega arith) ∙ p.here k q
    | no q ↦
        let e : k ≡ n = omega arith in
        ap (λ (j : ℕ). get_or (set new (at + n) (get_or bytes n 0)) (at + j) 0) e
        ∙ get_or-set_same new (at + n) _ 0 (omega (arith, p.size)) ∙ sym (ap (λ (j : ℕ). get_or bytes j 0) e)
  ];
  above = λ k m. get_or-set_other new (at + n) k _ 0 (λ q. omega arith) ∙ p.above k (omega arith);
}
