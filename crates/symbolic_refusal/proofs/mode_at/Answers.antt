use mathlib.Core.Path.{◌≡◌, sym}
use native.Mathlib.Omega.{arith}
use Prim.Native.Nat.{◌≤◌}
use lib.ListN.{length, get_or-eq_default}
use borrow.Author.Rules.{rules}
use Rattle.symbolic_refusal.proofs.mode_at.Goals as goal
use Rattle.symbolic_refusal.proofs.mode_at.Goals.{Else-p-lt4}

past : (c : Else-p-lt4) → length c.args.modes ≤ c.args.p
past c = let l : length c.args.modes ≡ 4 = search rules in omega arith

pub returns-else-p-lt4 : goal.returns-else-p-lt4
returns-else-p-lt4 c = sym (get_or-eq_default c.args.modes 0 {n = c.args.p} (past c))
