-- `half_pair::hdr_pair` meets its contract.
use borrow.Author.Tests.{ne_eqb}
use Rattle.half_pair.specs.Pair.{hdr_pair_of}
use Rattle.half_pair.proofs.Laws.{room_12, room_8}
use Rattle.half_pair.proofs.hdr_pair.Goals as goal

pub returns-in-2 : goal.returns-in-2
unfolding hdr_pair_of
returns-in-2 c =
    let e = c.large.ensures in
    rw c.in-2.is (e.0, room_12 e.1.first, room_12 e.1.second)

pub returns-in-3 : goal.returns-in-3
unfolding hdr_pair_of
returns-in-3 c =
    let e = c.small.ensures in
    rw c.in-3.is (e.0, room_12 e.1.first, room_12 e.1.second)

pub returns-in-7 : goal.returns-in-7
unfolding hdr_pair_of
returns-in-7 c =
    let e = c.scale.ensures in
    rw c.in-7.is (e.0, room_12 e.1.first, room_12 e.1.second)

pub returns-in-11 : goal.returns-in-11
unfolding hdr_pair_of
returns-in-11 c =
    let e = c.mode_11.ensures in
    rw c.in-11.is (e.0, room_12 e.1.first, room_12 e.1.second)

pub returns-in-14 : goal.returns-in-14
unfolding hdr_pair_of
returns-in-14 c =
    let e = c.mode_14.ensures in
    rw c.in-14.is (e.0, room_8 e.1.first e.2, room_8 e.1.second e.3)

pub returns-in_default : goal.returns-in_default
unfolding hdr_pair_of
returns-in_default c =
    let e = c.mode_15.ensures in
    let r = c.in_default.in_default-own.rest in
    rw (ne_eqb _ 2 r.0.0.0.0.1, ne_eqb _ 3 r.0.0.0.1, ne_eqb _ 7 r.0.0.1, ne_eqb _ 11 r.0.1, ne_eqb _ 14 r.1)
    (e.0, room_12 e.1.first, room_12 e.1.second)
