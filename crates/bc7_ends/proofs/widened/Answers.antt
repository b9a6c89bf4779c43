use mathlib.Core.Path.{◌≡◌, sym, ap, ◌∙◌}
use mathlib.Core.Bool.{Bool, true, false}
use Prim.Native.Nat.{ℕ, ◌+◌, ◌*◌}
use native.Mathlib.Omega.{arith}
use Rattle.laws.specs.Choice.{pick}
use Rattle.bc7_block.specs.Picture.{as_byte, stored_end, p_bit_of, has_pbit, widened_end}
use Rattle.bc7_ends.proofs.Places.{p_bit_told, with_range, without_range}
use Rattle.bc7_ends.proofs.widened.Goals as goal

with_p : (m : ℕ) (v : ℕ → ℕ) (w j e c s p r : ℕ) → has_pbit m v ≡ true → s ≡ stored_end m v j e c → p ≡ p_bit_of m v j e → r ≡ as_byte (w + 1) (s * 2 + p)
    → r ≡ widened_end m v w j e c
unfolding widened_end
with_p m v w j e c s p r h es ep er = er ∙ (λ t. as_byte (w + 1) (es t * 2 + ep t)) ∙ ap (λ (b : Bool). pick b (as_byte (w + 1) (stored_end m v j e c * 2 + p_bit_of m v j e)) (as_byte w (stored_end m v j e c))) (sym h)

without_p : (m : ℕ) (v : ℕ → ℕ) (w j e c s r : ℕ) → has_pbit m v ≡ false → s ≡ stored_end m v j e c → r ≡ as_byte w s → r ≡ widened_end m v w j e c
unfolding widened_end
without_p m v w j e c s r h es er = er ∙ ap (as_byte w) es ∙ ap (λ (b : Bool). pick b (as_byte (w + 1) (stored_end m v j e c * 2 + p_bit_of m v j e)) (as_byte w (stored_end m v j e c))) (sym h)

pub overflow_add-w : goal.overflow_add-w
overflow_add-w c = let p = c.requires in omega (arith, (with_range _ _ _ p.0.known p.2 p.3 p.4 _ p.0.row (λ k. 0) _ c.has_p_bit.ensures c.if-has_p_bit.true).1)

pub p_bit-requires : goal.p_bit-requires
p_bit-requires c =
    let p = c.requires in
    (p.0, p.1, sym (p_bit_told _ _ _ p.0.known p.2 p.3 p.4 _ p.0.row _ _ c.has_p_bit.ensures) ∙ c.if-has_p_bit.true)

pub as_byte-requires : goal.as_byte-requires
as_byte-requires c =
    let p = c.requires in
    let r = with_range _ _ _ p.0.known p.2 p.3 p.4 _ p.0.row (λ k. 0) _ c.has_p_bit.ensures c.if-has_p_bit.true in
    (r.0, r.1, omega (arith, c.stored-v.ensures.1, c.p_bit.ensures.1))

pub returns-then-has_p_bit : goal.returns-then-has_p_bit
returns-then-has_p_bit c =
    let p = c.requires in
    with_p _ _ _ _ _ _ _ _ _ (sym (p_bit_told _ _ _ p.0.known p.2 p.3 p.4 _ p.0.row _ _ c.has_p_bit.ensures) ∙ c.if-has_p_bit.true)
    c.stored-v.ensures.0 c.p_bit.ensures.0 c.as_byte.ensures

pub as_byte-requires-2 : goal.as_byte-requires-2
as_byte-requires-2 c =
    let p = c.requires in
    let r = without_range _ _ _ p.0.known p.2 p.3 p.4 _ p.0.row (λ k. 0) _ c.has_p_bit.ensures c.if-has_p_bit.false in
    (r.0, r.1, omega (arith, c.stored-v.ensures.1))

pub returns : goal.returns
returns c =
    let p = c.requires in
    without_p _ _ _ _ _ _ _ _ (sym (p_bit_told _ _ _ p.0.known p.2 p.3 p.4 _ p.0.row _ _ c.has_p_bit.ensures) ∙ c.if-has_p_bit.false)
    c.stored-v.ensures.0 c.as_byte-2.ensures
