-- Two symbolic blocks with the same fields are the same.
-- Assumes nothing.
use mathlib.Core.Path.{◌≡◌}
use Rattle.symbolic_block.specs.declared.SymbolicBlock.{SymbolicBlock}

pub by_fields : {s t : SymbolicBlock} → s.mark ≡ t.mark → s.hdr ≡ t.hdr → s.colours ≡ t.colours → s.extents ≡ t.extents
    → s.width ≡ t.width → s.height ≡ t.height → s.depth ≡ t.depth → s.range ≡ t.range
    → s.planes ≡ t.planes → s.component ≡ t.component → s.partitions ≡ t.partitions → s.index ≡ t.index
    → s.selector ≡ t.selector → s.modes ≡ t.modes → s.endpoints ≡ t.endpoints → s.weights ≡ t.weights
    → s ≡ t
by_fields mark hdr colours extents width height depth range planes component partitions index selector modes endpoints weights = λ i. record {
  mark = mark i;
  hdr = hdr i;
  colours = colours i;
  extents = extents i;
  width = width i;
  height = height i;
  depth = depth i;
  range = range i;
  planes = planes i;
  component = component i;
  partitions = partitions i;
  index = index i;
  selector = selector i;
  modes = modes i;
  endpoints = endpoints i;
  weights = weights i;
}
