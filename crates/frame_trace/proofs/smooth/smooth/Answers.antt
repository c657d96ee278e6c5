use Rattle.std.proofs.Common.{ℤ, List, ◌-◌, refl, sym, subst, arith}
use Rattle.fix_math.specs.Matrices.{row_at}
use Rattle.frame_trace.specs.Pictures.{IsSmooth}
use Rattle.frame_trace.specs.Ready.{view_in}
use Rattle.frame_trace.proofs.Kept.{kept_colour}
use Rattle.frame_trace.proofs.Neighbours.{kept_at}
use Rattle.frame_trace.proofs.smooth.smooth.Goals as goal

pub returns-then-is_even-clause-smooth : goal.returns-then-is_even-clause-smooth
returns-then-is_even-clause-smooth g c =
    let v = view_in g.W.World.surfaces c.args.t.now in
    let colour = row_at c.args.rows.now.here.items (c.args.column - c.args.span.now.from) in
    let kept = kept_at v c.args.span.now c.args.row c.args.column (c.args.column - c.args.span.now.from) c.args.rows.now.here.items c.requires.rows.here (omega arith) (omega arith) in
    let Q : List ℤ → Type 0 = λ x. IsSmooth v c.args.a.now c.args.column c.args.row x in
    subst Q (sym c.stored.ensures) (IsSmooth.plain colour c.requires.some kept.plain (c.if-is_even.ensures.even refl))

pub returns-then-is_even-clause-amounts : goal.returns-then-is_even-clause-amounts
returns-then-is_even-clause-amounts g c =
    let v = view_in g.W.World.surfaces c.args.t.now in
    let colour = row_at c.args.rows.now.here.items (c.args.column - c.args.span.now.from) in
    let kept = kept_at v c.args.span.now c.args.row c.args.column (c.args.column - c.args.span.now.from) c.args.rows.now.here.items c.requires.rows.here (omega arith) (omega arith) in
    (kept_colour v c.args.column c.args.row colour c.stored.result c.stored.ensures kept).amounts

pub returns-else-is_even-clause-smooth : goal.returns-else-is_even-clause-smooth
returns-else-is_even-clause-smooth g c =
    let v = view_in g.W.World.surfaces c.args.t.now in
    let colour = row_at c.args.rows.now.here.items (c.args.column - c.args.span.now.from) in
    let kept = kept_at v c.args.span.now c.args.row c.args.column (c.args.column - c.args.span.now.from) c.args.rows.now.here.items c.requires.rows.here (omega arith) (omega arith) in
    IsSmooth.uneven colour c.fine.result kept.plain (c.if-is_even.ensures.uneven refl) c.fine.ensures.fine
