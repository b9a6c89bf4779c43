use Rattle.bc7_layout.proofs.Rows.{past_eight}
use mathlib.Core.Path.{◌≡◌, refl, sym, ap, ◌∙◌}
use native.Mathlib.Omega.{arith}
use Prim.Native.Nat.{ℕ, ◌≤◌}
use lib.ListN.{get_or-eq_default}
use Rattle.bc7_layout.specs.Modes.{modes, mode_with, mode_row}
use borrow.Author.Rules.{rules}
use Rattle.bc7_layout.proofs.mode_row.Goals as goal

pub returns-in-0 : goal.returns-in-0
unfolding mode_row
returns-in-0 c = rw c.in-0.is c.made.ensures

pub returns-in-1 : goal.returns-in-1
unfolding mode_row
returns-in-1 c = rw c.in-1.is c.made-in-1.ensures

pub returns-in-2 : goal.returns-in-2
unfolding mode_row
returns-in-2 c = rw c.in-2.is c.made-in-2.ensures

pub returns-in-3 : goal.returns-in-3
unfolding mode_row
returns-in-3 c = rw c.in-3.is c.made-in-3.ensures

pub returns-in-4 : goal.returns-in-4
unfolding mode_row
returns-in-4 c = rw c.in-4.is c.made-in-4.ensures

pub returns-in-5 : goal.returns-in-5
unfolding mode_row
returns-in-5 c = rw c.in-5.is c.made-in-5.ensures

pub returns-in-6 : goal.returns-in-6
unfolding mode_row
returns-in-6 c = rw c.in-6.is c.made-in-6.ensures

pub returns-in-7 : goal.returns-in-7
unfolding mode_row
returns-in-7 c = rw c.in-7.is c.made-in-7.ensures

pub returns-in_default : goal.returns-in_default
unfolding mode_row
returns-in_default c = let r = c.in_default.in_default-own.rest in c.made-in_default.ensures ∙ sym (get_or-eq_default modes (mode_with 0 0 0 0 0 0 0 0 0 0) {n = c.args.m} (past_eight _ r.0.0.0.0.0.0.0.1 r.0.0.0.0.0.0.1 r.0.0.0.0.0.1 r.0.0.0.0.1 r.0.0.0.1 r.0.0.1 r.0.1 r.1))
