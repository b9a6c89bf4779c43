use Rattle.void_extent.specs.Layout.{hdr_void_extent}
use borrow.Author.Rules.{rules}
use Rattle.void_extent.proofs.hdr_void_extent.Goals as goal

pub returns : goal.returns
unfolding hdr_void_extent
returns c = rw c.field_at.ensures
