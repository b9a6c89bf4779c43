use mathlib.Core.Path.{◌≡◌, refl, sym, ap, ◌∙◌}
use Prim.Native.Nat.{ℕ, suc, ◌+◌, ◌*◌, ◌%◌, ◌^◌, ◌≤◌, ◌<◌}
use native.Mathlib.Nat.{zero-mul, add_comm, mod-lt}
use native.Mathlib.Numerals.{add-one}
use native.Mathlib.Omega.{arith}
use lib.ListN.{get_or}
use lib.Pow.{pow_pos}
use Rattle.bits.specs.Field.{stream}
use Rattle.encoding.specs.declared.Encoding.TheVariants.{Bits}
use Rattle.encoding.specs.Encoding.{sequence_bits}
use Rattle.integer_sequence.specs.Writing.{values}
use Rattle.integer_sequence.proofs.Search.{value_at}
use Rattle.sequence_words.proofs.Numbers.{bits_next, bits_le, bits_more}
use Rattle.sequence_words.proofs.bits_word.Goals as goal
use Rattle.sequence_words.proofs.bits_word.Goals.{After-low}

pub loop-k-init : goal.loop-k-init
unfolding sequence_bits stream
loop-k-init c = (omega (arith, zero-mul c.args.b), refl)

-- the numbers' low bits
abbrev values_at : (c : After-low) → ℕ → ℕ
values_at c j = get_or (values c.args.xs) (c.args.i + j) 0 % 2 ^ c.args.b

values_lt : (c : After-low) (j : ℕ) → values_at c j < 2 ^ c.args.b
values_lt c j = mod-lt _ (pow_pos c.args.b)

place_fits : (c : After-low) → c.loop-k.p ≤ 56
place_fits c =
    let a = c.args in
    let l = c.loop-k in
    omega (arith, l.invariant.0, bits_le a.b (values_at c) c.requires.2 (values_lt c) l.k)

more : (c : After-low) → let l = c.loop-k in let S = stream (sequence_bits Bits c.args.b) (values_at c) (suc l.k) in
    (c.low.result * 2 ^ l.p % 2 ^ 64 + l.word ≡ S) × (S < 2 ^ 64)
more c =
    let a = c.args in
    let l = c.loop-k in
    bits_more a.b (values_at c) c.requires.2 (values_lt c) l.k (omega arith)
    (c.low.ensures.0 ∙ ap (λ (x : ℕ). x % 2 ^ a.b) (c.value.ensures.0 ∙ sym (value_at a.xs (a.i + l.k)))) l.invariant.0 l.invariant.1

pub overflow_cast-word : goal.overflow_cast-word
overflow_cast-word c = omega (arith, place_fits c)

pub overflow_shl-word : goal.overflow_shl-word
overflow_shl-word c = omega (arith, place_fits c)

pub overflow_add-word : goal.overflow_add-word
overflow_add-word c = record { fits = omega (arith, more c) }

pub overflow_add-p : goal.overflow_add-p
overflow_add-p c = omega (arith, place_fits c)

pub loop-k-preserved : goal.loop-k-preserved
loop-k-preserved c =
    let a = c.args in
    let l = c.loop-k in
    (rw (add-one l.k, bits_next a.b (values_at c) c.requires.2 (values_lt c) l.k, l.invariant.0) (add_comm _ a.b), rw (add-one l.k) (more c).0)

pub returns : goal.returns
returns c = let z : c.loop-k.k ≡ c.args.m = omega arith in c.loop-k.invariant.1 ∙ ap (stream (sequence_bits Bits c.args.b) _) z
