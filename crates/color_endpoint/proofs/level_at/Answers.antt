-- `color_endpoint::level_at` meets its contract.
use lib.ListN.{length, get_or-eq_default}
use native.Mathlib.Omega.{arith}
use mathlib.Core.Path.{◌≡◌, sym}
use borrow.Author.Rules.{rules}
use Rattle.color_endpoint.proofs.level_at.Goals as goal

pub returns-else-k-lt18 : goal.returns-else-k-lt18
returns-else-k-lt18 c = let e : length c.args.levels ≡ 18 = search rules in sym (get_or-eq_default c.args.levels _ (omega arith))
