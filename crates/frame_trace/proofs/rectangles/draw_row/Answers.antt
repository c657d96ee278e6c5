use Rattle.std.proofs.Common.{subst, sym}
use Rattle.frame_trace.specs.Ready.{view_in, HasRoom, StandsAround}
use Rattle.frame_trace.specs.declared.work.Work.{Work}
use Rattle.frame_trace.proofs.Kept.{turned_room, turned_rows}
use Rattle.frame_trace.proofs.rectangles.draw_row.Goals as goal
use Rattle.frame_trace.proofs.rectangles.draw_row.Goals.{then-compares, else-compares}

pub returns-clause-stands : goal.returns-clause-stands
returns-clause-stands g c = λ h.
    let v = view_in g.W.World.surfaces c.args.t.now in
    let Q : Work → Type 0 = λ work. StandsAround v c.args.span.now c.args.row work.rows in
    let around : StandsAround v c.args.span.now c.args.row c.if-compares.work.rows =
    elim c.if-compares.branch [ then-compares w ↦ subst Q (sym w.work-is) w.trace_below.ensures.stands | else-compares w ↦ absurd (c.compares.ensures.never w.if-compares.false h) ] in
    turned_rows v c.args.span.now c.args.row c.if-compares.work.rows c.advance.new.rows c.advance.ensures.above c.advance.ensures.here around

pub returns-clause-keeps : goal.returns-clause-keeps
returns-clause-keeps g c = λ count room.
    let Q : Work → Type 0 = λ work. HasRoom work.rows count in
    let kept : Q c.if-compares.work =
    elim c.if-compares.branch [ then-compares w ↦ subst Q (sym w.work-is) (w.trace_below.ensures.keeps count room) | else-compares w ↦ subst Q (sym w.work-is) room ] in
    turned_room c.if-compares.work.rows c.advance.new.rows c.advance.ensures.above c.advance.ensures.here c.advance.ensures.below count kept
