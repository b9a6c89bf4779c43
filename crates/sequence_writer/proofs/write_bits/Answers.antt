use mathlib.Core.Path.{◌≡◌, sym, ap}
use Prim.Native.Nat.{ℕ, ◌+◌, ◌*◌, ◌%◌, ◌^◌, ◌≤◌}
use native.Mathlib.Nat.{zero-mul, add-mul, mul-le-mul}
use native.Mathlib.Omega.{arith}
use borrow.Author.Rules.{rules}
use lib.ListN.{get_or, take}
use lib.Seq.{get_or-take}
use Rattle.bits.specs.Block.{block_number}
use Rattle.encoding.specs.declared.Encoding.TheVariants.{Bits}
use Rattle.encoding.specs.Encoding.{sequence_bits}
use Rattle.integer_sequence.specs.Writing.{values}
use Rattle.sequence_writer.proofs.Growing.{so_far, place_le, write_start, write_more, write_done, bits_follow}
use Rattle.sequence_words.proofs.Numbers.{written_length}
use Rattle.sequence_writer.proofs.write_bits.Goals as goal
use Rattle.sequence_writer.proofs.write_bits.Goals.{After-append-out-in-loop-i}

pub loop-i-init : goal.loop-i-init
unfolding sequence_bits
loop-i-init c =
    let a = c.args in
    (omega arith, omega (arith, zero-mul a.b), write_start Bits a.b (take a.n (values a.xs)) a.from (block_number a.block) c.append-out.ensures)

pub bits_word-requires : goal.bits_word-requires
bits_word-requires c = (omega (arith, c.smaller-m.ensures), omega (arith, c.smaller-m.ensures), omega arith)

-- the place of the next numbers
reach : (c : After-append-out-in-loop-i) → (c.loop-i.at ≤ 1279) × (c.smaller-m.result * c.args.b ≤ 64)
reach c =
    let a = c.args in
    let l = c.loop-i in
    (omega (arith, l.invariant.1, place_le Bits a.b l.i c.requires.2 (omega arith)), mul-le-mul {n₂ = 8} {m₂ = 8} (omega (arith, c.smaller-m.ensures)) c.requires.2)

pub overflow_cast-at : goal.overflow_cast-at
overflow_cast-at c = omega (arith, c.smaller-m.ensures)

pub overflow_mul-at : goal.overflow_mul-at
overflow_mul-at c = omega (arith, reach c)

pub overflow_add-at : goal.overflow_add-at
overflow_add-at c = omega (arith, reach c)

-- the numbers so far, and m more
more : (c : After-append-out-in-loop-i) → let l = c.loop-i in let m = c.smaller-m.result in
    (l.at + m * c.args.b ≡ c.args.from + sequence_bits Bits c.args.b (l.i + m))
    × (block_number c.append-out-in-loop-i.result ≡ so_far Bits c.args.b (take c.args.n (values c.args.xs)) c.args.from (block_number c.append-out.result) (l.i + m) % 2 ^ 128)
unfolding sequence_bits
more c =
    let a = c.args in
    let l = c.loop-i in
    let m = c.smaller-m.result in
    let e = c.smaller-m.ensures in (
      omega (arith, l.invariant.1, add-mul l.i m a.b),
      write_more Bits a.b (take a.n (values a.xs)) a.from (block_number a.block) c.append-out.ensures (λ k. get_or (values a.xs) (l.i + k) 0 % 2 ^ a.b) l.i m
          (bits_follow a.b (take a.n (values a.xs)) l.i m _ (λ k h. ap (λ (x : ℕ). x % 2 ^ a.b) (sym (get_or-take a.n (values a.xs) (l.i + k) 0 (omega (arith, e))))))
          c.append-out-in-loop-i.ensures l.invariant.2 l.invariant.1 c.bits_word.ensures,
    )

pub loop-i-preserved : goal.loop-i-preserved
loop-i-preserved c =
    let q : c.loop-i.i + c.smaller-m.result ≡ c.loop-i.i + 8 = omega (arith, c.smaller-m.ensures) in
    let n = rw q at (more c.before) in
    (omega arith, n.0, n.1)

pub returns-2 : goal.returns-2
returns-2 c =
    let a = c.args in
    let len = written_length a.xs a.n (search rules) c.requires.0 in
    write_done Bits a.b (take a.n (values a.xs)) a.from (block_number a.block) c.append-out.ensures (more c.before).1 (omega (arith, len, c.smaller-m.ensures))

pub returns : goal.returns
returns c =
    let a = c.args in
    let len = written_length a.xs a.n (search rules) c.requires.0 in
    write_done Bits a.b (take a.n (values a.xs)) a.from (block_number a.block) c.append-out.ensures c.loop-i.invariant.2 (omega (arith, len))
