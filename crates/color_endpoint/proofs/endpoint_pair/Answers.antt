-- `color_endpoint::endpoint_pair` meets its contract.
use Rattle.color_endpoint.specs.Modes.{pair_of}
use borrow.Author.Tests.{ne_eqb}
use Rattle.color_endpoint.proofs.endpoint_pair.Goals as goal

pub returns-in-0 : goal.returns-in-0
unfolding pair_of
returns-in-0 c = rw c.in-0.is c.mode_0.ensures

pub returns-in-1 : goal.returns-in-1
unfolding pair_of
returns-in-1 c = rw c.in-1.is c.mode_1.ensures

pub returns-in-4 : goal.returns-in-4
unfolding pair_of
returns-in-4 c = rw c.in-4.is c.mode_4.ensures

pub returns-in-5 : goal.returns-in-5
unfolding pair_of
returns-in-5 c = rw c.in-5.is c.mode_5.ensures

pub returns-in-6 : goal.returns-in-6
unfolding pair_of
returns-in-6 c = rw c.in-6.is c.mode_6.ensures

pub returns-in-8 : goal.returns-in-8
unfolding pair_of
returns-in-8 c = rw c.in-8.is c.mode_8.ensures

pub returns-in-9 : goal.returns-in-9
unfolding pair_of
returns-in-9 c = rw c.in-9.is c.mode_9.ensures

pub returns-in-10 : goal.returns-in-10
unfolding pair_of
returns-in-10 c = rw c.in-10.is c.mode_10.ensures

pub returns-in-12 : goal.returns-in-12
unfolding pair_of
returns-in-12 c = rw c.in-12.is c.mode_12.ensures

pub returns-in-13 : goal.returns-in-13
unfolding pair_of
returns-in-13 c = rw c.in-13.is c.mode_13.ensures

pub returns-in_default : goal.returns-in_default
unfolding pair_of
returns-in_default c =
    let r = c.in_default.in_default-own.rest in
    let s = r.0.0.0.0.0 in
    rw (
      ne_eqb _ 0 s.0.0.0.0.1,
      ne_eqb _ 1 s.0.0.0.1,
      ne_eqb _ 4 s.0.0.1,
      ne_eqb _ 5 s.0.1,
      ne_eqb _ 6 s.1,
      ne_eqb _ 8 r.0.0.0.0.1,
      ne_eqb _ 9 r.0.0.0.1,
      ne_eqb _ 10 r.0.0.1,
      ne_eqb _ 12 r.0.1,
      ne_eqb _ 13 r.1,
    )
    c.zero_pair.ensures
