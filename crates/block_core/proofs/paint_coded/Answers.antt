use mathlib.Core.Bool.{Bool, false}
use mathlib.Core.Path.{◌≡◌, sym, ap, ◌∙◌}
use Prim.Native.Nat.{◌*◌, ◌≤◌}
use borrow.Author.Tests.{ne_eqb}
use Rattle.laws.specs.Choice.{pick}
use Rattle.bits.specs.Block.{block_number}
use Rattle.footprint.specs.Footprint.{is_volume}
use Rattle.block_fault.specs.Bits.{weight_at}
use Rattle.block_core.specs.inner.Prepared.{frame_of, Inside}
use Rattle.volume_infill.specs.inner.Way.{ByteLevels}
use Rattle.block_levels.proofs.Levels.{layer_le}
use Rattle.block_core.proofs.Frames.{inside, in_volume_lem}
use Rattle.block_core.proofs.Painting.{points_true, point_told, four_told, single_true, single_told, room_for}
use native.Mathlib.Nat.{mul_comm}
use native.Mathlib.Omega.{arith}
use Rattle.block_core.proofs.Shows.{byte_levels, one_plane_lem, flat_told, volume_told_lem}
use Rattle.block_core.proofs.paint_coded.Goals as goal
use Rattle.block_core.proofs.paint_coded.Goals.{After-frame_of-frame, After-second_component-component, Else-volume, Start, Then-on_points}

abbrev start : After-second_component-component → Start
start c = c.before.before.before.before.before.before

-- the points that are made have levels of bytes
levels : (c : After-second_component-component) → ByteLevels c.points_of-points.result
unfolding weight_at
levels c = let s = start c in
    rw c.points_of-points.ensures (byte_levels s.args.s.header (weight_at (block_number s.args.block) s.args.s.header))

-- what each flat painter asks
ready : (c : After-frame_of-frame) → Inside (start c.before.before.before).args.s.header.grid c.frame_of-frame.result × ByteLevels c.points_of-points.result
ready c = let q = c.before.before.before in
    let s = start q in
    (rw c.frame_of-frame.ensures (inside s.args.fp s.args.s.header.grid s.requires.limits.0 s.requires.grid_bound.0), levels q)

flat : (c : Else-volume) → is_volume (start c.before).args.fp ≡ false
flat c = sym (start c.before).requires.volume_value ∙ c.if-volume.false

pub paint_volume-requires : goal.paint_volume-requires
paint_volume-requires c = let f = c.before.before in
    let q = f.before.before in
    let s = start q in record { in_volume = rw f.volume_frame-frame.ensures (in_volume_lem s.args.fp s.args.s.header.grid s.requires.limits.0 s.requires.grid_bound.0); byte_levels = levels q }

pub overflow_mul-count : goal.overflow_mul-count
overflow_mul-count c = omega (arith, room_for _ _ (ready c.before.before.before.before).0.width_most (ready c.before.before.before.before).0.height_most)

-- what is known of a grid with a point for each texel
same : (c : Then-on_points) → ((start c.before.before.before.before.before).args.s.header.partitions ≡ 1) × (((start c.before.before.before.before.before).args.s.header.grid.width ≡ c.frame_of-frame.result.width) × ((start c.before.before.before.before.before).args.s.header.grid.height ≡ c.frame_of-frame.result.height))
same c = points_true _ _ _ _ _ c.on_points.ensures c.if-on_points.true

points_fit : (q : Then-on_points) → q.frame_of-frame.result.height * q.frame_of-frame.result.width ≤ 64
points_fit q =
    let e = (same q).1 in
    let i = (ready q.before.before).0 in
    rw (← e.0, ← e.1) (omega (arith, layer_le _ i.limits i.count, mul_comm (start q.before.before.before.before.before).args.s.header.grid.width (start q.before.before.before.before.before).args.s.header.grid.height))

pub paint_single-requires : goal.paint_single-requires
unfolding weight_at
paint_single-requires c = let n = c.before.before in
    let f = n.before.before.before.before in
    let q = f.before.before.before in
    let s = start q in
    let h = s.args.s.header in
    let z = single_true h.partitions h.grid.planes h.component n.is_single.ensures n.if-is_single.true in record { inside = (ready f).0; one_plane = rw q.points_of-points.ensures (one_plane_lem h (weight_at (block_number s.args.block) h) z.2) }

pub paint-requires : goal.paint-requires
paint-requires c = let it = ready c.before.before.before.before.before.before in record { inside = it.0; byte_levels = it.1 }

pub returns-then-volume : goal.returns-then-volume
unfolding weight_at
returns-then-volume c = let f = c.before.before.before in
    let q = f.before.before in
    let s = start q in
    λ e. volume_told_lem s.args.fp s.args.kind (block_number s.args.block) s.args.s.header _ s.requires.limits.0 s.requires.grid_bound.0
    q.points_of-points.ensures q.lines_of-lines.ensures q.is_small-small.ensures q.second_component-component.ensures
    (sym s.requires.volume_value ∙ f.if-volume.true) f.volume_frame-frame.ensures (c.paint_volume.ensures e)

pub returns-then-g-eq2 : goal.returns-then-g-eq2
unfolding weight_at frame_of
returns-then-g-eq2 c = let t = c.before.before.before.before.before.before.before in
    let f = t.before.before in
    let d = f.before in
    let q = d.before.before in
    let s = start q in
    let z = same t in
    λ e. flat_told s.args.fp s.args.kind (block_number s.args.block) s.args.s.header _ s.requires.limits.0 s.requires.grid_bound.0
    q.points_of-points.ensures q.lines_of-lines.ensures q.is_small-small.ensures q.second_component-component.ensures
    (flat d.before) (s.requires.limits.1 (flat d.before)) d.partition_seeds-seeds.ensures.value f.frame_of-frame.ensures
    (c.paint_points.ensures _ _ (rw f.frame_of-frame.ensures (point_told _ _ _ _ _ _ s.args.fp _ (flat d.before) z.0 (rw f.frame_of-frame.ensures at z.1.0) (rw f.frame_of-frame.ensures at z.1.1))) e)

-- with one plane no component takes a second weight
pub returns-else-g-eq2 : goal.returns-else-g-eq2
unfolding weight_at frame_of
returns-else-g-eq2 c = let k = c.before.before.before in
    let t = k.before.before.before.before in
    let f = t.before.before in
    let d = f.before in
    let q = d.before.before in
    let s = start q in
    let z = same t in
    let four : q.second_component-component.result ≡ 4 = q.second_component-component.ensures ∙ ap (λ (b : Bool). pick b s.args.s.header.component 4) (ne_eqb s.args.s.header.grid.planes 2 k.if-g-eq2.false) in
    λ e. flat_told s.args.fp s.args.kind (block_number s.args.block) s.args.s.header _ s.requires.limits.0 s.requires.grid_bound.0
    q.points_of-points.ensures q.lines_of-lines.ensures q.is_small-small.ensures q.second_component-component.ensures
    (flat d.before) (s.requires.limits.1 (flat d.before)) d.partition_seeds-seeds.ensures.value f.frame_of-frame.ensures
    (four_told _ _ _ _ _ _ _ _ _ _ four (c.paint_points-else-g-eq2.ensures _ _ (rw f.frame_of-frame.ensures (point_told _ _ _ _ _ _ s.args.fp _ (flat d.before) z.0 (rw f.frame_of-frame.ensures at z.1.0) (rw f.frame_of-frame.ensures at z.1.1))) e))

pub returns-then-is_single : goal.returns-then-is_single
unfolding weight_at
returns-then-is_single c = let n = c.before.before.before in
    let f = n.before.before.before.before in
    let d = f.before in
    let q = d.before.before in
    let s = start q in
    let h = s.args.s.header in
    let z = single_true h.partitions h.grid.planes h.component n.is_single.ensures n.if-is_single.true in
    λ e. flat_told s.args.fp s.args.kind (block_number s.args.block) s.args.s.header _ s.requires.limits.0 s.requires.grid_bound.0
    q.points_of-points.ensures q.lines_of-lines.ensures q.is_small-small.ensures q.second_component-component.ensures
    (flat d.before) (s.requires.limits.1 (flat d.before)) d.partition_seeds-seeds.ensures.value f.frame_of-frame.ensures
    (single_told _ _ _ _ _ _ _ _ _ _ z.0 (q.second_component-component.ensures ∙ z.1) (c.paint_single.ensures e))

pub returns-else-is_single : goal.returns-else-is_single
unfolding weight_at
returns-else-is_single c = let f = c.before.before.before.before.before.before.before in
    let d = f.before in
    let q = d.before.before in
    let s = start q in
    λ e. flat_told s.args.fp s.args.kind (block_number s.args.block) s.args.s.header _ s.requires.limits.0 s.requires.grid_bound.0
    q.points_of-points.ensures q.lines_of-lines.ensures q.is_small-small.ensures q.second_component-component.ensures
    (flat d.before) (s.requires.limits.1 (flat d.before)) d.partition_seeds-seeds.ensures.value f.frame_of-frame.ensures (c.paint.ensures e)

pub paint_points-requires : goal.paint_points-requires
paint_points-requires c = points_fit c.before.before.before.before.before.before

pub paint_points-requires-else-g-eq2 : goal.paint_points-requires-else-g-eq2
paint_points-requires-else-g-eq2 c = points_fit c.before.before.before.before.before.before
