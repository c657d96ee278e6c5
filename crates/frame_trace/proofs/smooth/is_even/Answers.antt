use Rattle.std.proofs.Common.{◌+◌, ◌-◌, refl, arith}
use Rattle.fix_math.specs.Matrices.{row_at}
use Rattle.frame_trace.specs.Ready.{view_in}
use Rattle.frame_trace.proofs.Neighbours.{even_around, uneven_beside, beside_left, beside_upper, beside_right, beside_lower}
use Rattle.frame_trace.proofs.smooth.is_even.Goals as goal
use Rattle.frame_trace.proofs.smooth.is_even.Goals.{else-column-gt0-via-then-column-gt0+else-differ, else-column-gt0-via-else-column-gt0, else-row-gt0-via-then-row-gt0+else-differ-2, else-row-gt0-via-else-row-gt0}
use Rattle.frame_trace.proofs.smooth.is_even.Goals.{else-column-width-via-then-column-width+else-differ-3, else-column-width-via-else-column-width, else-row-height-via-then-row-height+else-differ-4, else-row-height-via-else-row-height}

pub returns-then-differ-clause-uneven : goal.returns-then-differ-clause-uneven
returns-then-differ-clause-uneven g c = λ _.
    let more = c.requires.amid.further_left c.if-column-gt0.true in
    uneven_beside (view_in g.W.World.surfaces c.args.t.now) c.args.threshold c.args.column c.args.row (c.args.column - 1) c.args.row (c.args.column - c.args.span.now.from - 1)
    (row_at c.args.rows.now.here.items (c.args.column - c.args.span.now.from)) c.args.span.now c.args.rows.now.here.items
    (beside_left c.args.t.now.format c.args.column c.args.row (c.args.column - 1) (omega arith)) c.requires.rows.here (omega arith) (omega arith) (c.if-differ.ensures.more refl)

pub returns-then-differ-2-clause-uneven : goal.returns-then-differ-2-clause-uneven
returns-then-differ-2-clause-uneven g c = λ _.
    uneven_beside (view_in g.W.World.surfaces c.args.t.now) c.args.threshold c.args.column c.args.row c.args.column (c.args.row - 1) (c.args.column - c.args.span.now.from)
    (row_at c.args.rows.now.here.items (c.args.column - c.args.span.now.from)) c.args.span.now c.args.rows.now.above.items
    (beside_upper c.args.t.now.format c.args.column c.args.row (c.args.row - 1) (omega arith)) (c.requires.rows.above (c.args.row - 1) (omega arith)) (omega arith) (omega arith) (c.if-differ-2.ensures.more refl)

pub returns-then-differ-3-clause-uneven : goal.returns-then-differ-3-clause-uneven
returns-then-differ-3-clause-uneven g c = λ _.
    let more = c.requires.amid.further_right c.if-column-width.true in
    uneven_beside (view_in g.W.World.surfaces c.args.t.now) c.args.threshold c.args.column c.args.row (c.args.column + 1) c.args.row (c.args.column - c.args.span.now.from + 1)
    (row_at c.args.rows.now.here.items (c.args.column - c.args.span.now.from)) c.args.span.now c.args.rows.now.here.items
    (beside_right c.args.t.now.format c.args.column c.args.row c.if-column-width.true) c.requires.rows.here (omega arith) (omega arith) (c.if-differ-3.ensures.more refl)

pub returns-then-differ-4-clause-uneven : goal.returns-then-differ-4-clause-uneven
returns-then-differ-4-clause-uneven g c = λ _.
    uneven_beside (view_in g.W.World.surfaces c.args.t.now) c.args.threshold c.args.column c.args.row c.args.column (c.args.row + 1) (c.args.column - c.args.span.now.from)
    (row_at c.args.rows.now.here.items (c.args.column - c.args.span.now.from)) c.args.span.now c.args.rows.now.below.items
    (beside_lower c.args.t.now.format c.args.column c.args.row c.if-row-height.true) (c.requires.rows.below c.if-row-height.true) (omega arith) (omega arith) (c.if-differ-4.ensures.more refl)

pub returns-clause-even : goal.returns-clause-even
returns-clause-even g c = λ _.
    even_around (view_in g.W.World.surfaces c.args.t.now) c.args.threshold c.args.span.now c.args.column c.args.row c.args.rows.now
    (row_at c.args.rows.now.here.items (c.args.column - c.args.span.now.from)) c.requires.amid c.requires.rows
    (λ h. elim c.else-column-gt0.branch [ else-column-gt0-via-then-column-gt0+else-differ w ↦ w.if-differ.ensures.no_more refl | else-column-gt0-via-else-column-gt0 w ↦ absurd (omega arith) ])
    (λ h. elim c.else-row-gt0.branch [ else-row-gt0-via-then-row-gt0+else-differ-2 w ↦ w.if-differ-2.ensures.no_more refl | else-row-gt0-via-else-row-gt0 w ↦ absurd (omega arith) ])
    (λ h. elim c.else-column-width.branch [ else-column-width-via-then-column-width+else-differ-3 w ↦ w.if-differ-3.ensures.no_more refl | else-column-width-via-else-column-width w ↦ absurd (omega arith) ])
    (λ h. elim c.else-row-height.branch [ else-row-height-via-then-row-height+else-differ-4 w ↦ w.if-differ-4.ensures.no_more refl | else-row-height-via-else-row-height w ↦ absurd (omega arith) ])
