use Rattle.fix_math.specs.declared.fix.V3.{V3}
use Rattle.shapes.specs.Lines.{wide_at, sight_at}
use Rattle.shapes.specs.Bodies.{own_of}
use Rattle.shapes.proofs.Leaving.{no_numbers, left_empty}
use Rattle.shapes.proofs.Told.{pipe_shell, pipe_test}
use Rattle.shapes.proofs.tube.Tube.shell.Goals as goal

pub slab-along_y-requires-clause-low : goal.slab-along_y-requires-clause-low
slab-along_y-requires-clause-low c = λ t w. c.requires t ((c.slab-along_x.ensures t).0 w).0

pub parts-requires-clause-low : goal.parts-requires-clause-low
parts-requires-clause-low c = λ t w. let d = (c.slab-along_y.ensures t).0 w in c.requires t ((c.slab-along_x.ensures t).0 d.0).0

pub parts-requires-clause-near : goal.parts-requires-clause-near
parts-requires-clause-near c = λ t w. let d = (c.slab-along_y.ensures t).0 w in let b = (c.slab-along_x.ensures t).0 d.0 in (c.requires t b.0, b.1, d.1)

pub returns : goal.returns
returns c = λ t.
    let axes = c.args.self.now.axes in
    let u : V3 = sight_at c.args.sight.now t in
    pipe_shell c.parts.result t c.args.self.now.radius.value (wide_at c.along-x.result t) (wide_at c.along-y.result t) (own_of axes u) _ _ _
    (c.along-x.ensures.value t) (c.along-y.ensures.value t) (c.slab-along_x.ensures t) (c.slab-along_y.ensures t) (c.parts.ensures t)

pub returns-then-along_x : goal.returns-then-along_x
returns-then-along_x c = λ t.
    let l : V3 = own_of c.args.self.now.axes (sight_at c.args.sight.now t) in
    left_empty _ _ _ _ _ (c.alone.ensures t) (no_numbers c.slab-along_x.result t c.if-along_x.true)
    (λ b. rw (c.along-x.ensures.value t) ((pipe_test c.args.self.now.radius.value l).0 b).0) (c.slab-along_x.ensures t)
