use Rattle.std.proofs.Common.{◌≡◌, ◌∙◌, ap, ℤ, ◌+ℤ◌}
use Rattle.fix_math.specs.declared.fix.V3.{V3}
use Rattle.shapes.specs.Lines.{wide_at, sight_at}
use Rattle.shapes.specs.Bodies.{own_of, taper_radius}
use Rattle.shapes.proofs.Leaving.{no_numbers, left_empty, both_tests}
use Rattle.shapes.proofs.Told.{taper_shell, taper_test}
use Rattle.shapes.proofs.taper.Taper.shell.Goals as goal

pub slab-along_y-requires-clause-low : goal.slab-along_y-requires-clause-low
slab-along_y-requires-clause-low c = λ t w. c.requires t ((c.slab-along_x.ensures t).0 w).0

pub between_ends-some-requires-clause-low : goal.between_ends-some-requires-clause-low
between_ends-some-requires-clause-low c = λ t w. let d = (c.slab-along_y.ensures t).0 w in c.requires t ((c.slab-along_x.ensures t).0 d.0).0

pub parts-requires-clause-low : goal.parts-requires-clause-low
parts-requires-clause-low c = λ t w. let e = (c.between_ends-some.ensures t).0 w in let d = (c.slab-along_y.ensures t).0 e.0 in c.requires t ((c.slab-along_x.ensures t).0 d.0).0

pub parts-requires-clause-near : goal.parts-requires-clause-near
parts-requires-clause-near c = λ t w. let e = (c.between_ends-some.ensures t).0 w in let d = (c.slab-along_y.ensures t).0 e.0 in let b = (c.slab-along_x.ensures t).0 d.0 in (c.requires t b.0, b.1, d.1, e.1, rw (← c.longest.ensures) e.2)

pub returns : goal.returns
returns c = λ t.
    let taper = c.args.self.now in
    let axes = c.args.self.now.axes in
    let u : V3 = sight_at c.args.sight.now t in
    let r : wide_at c.more-radius.result t ≡ taper_radius taper u = c.more-radius.ensures.value t ∙ ap (λ (n : ℤ). n +ℤ taper.start.value) (c.along.ensures.value t) in
    taper_shell c.parts.result t taper.widest.value c.longest.result.value (wide_at c.along-x.result t) (wide_at c.along-y.result t) (wide_at c.more-radius.result t) (taper_radius taper u) (own_of axes u) _ _ _ _
    (c.along-x.ensures.value t) (c.along-y.ensures.value t) r c.longest.ensures (c.slab-along_x.ensures t) (c.slab-along_y.ensures t) (c.between_ends-some.ensures t) (c.parts.ensures t)

pub returns-then-along_x : goal.returns-then-along_x
returns-then-along_x c = λ t.
    let taper = c.args.self.now in
    let u : V3 = sight_at c.args.sight.now t in
    left_empty _ _ _ _ _ (c.alone.ensures t) (no_numbers c.slab-along_x.result t c.if-along_x.true)
    (λ b. rw (c.along-x.ensures.value t) ((taper_test taper.widest.value (taper_radius taper u) (own_of taper.axes u)).0 b).0) (c.slab-along_x.ensures t)

pub returns-then-along_y : goal.returns-then-along_y
returns-then-along_y c = λ t.
    let taper = c.args.self.now in
    let u : V3 = sight_at c.args.sight.now t in
    left_empty _ _ _ _ _ (c.alone-then-along_y.ensures t) (no_numbers c.slab-along_y.result t c.if-along_y.true)
    (λ b. let k = (taper_test taper.widest.value (taper_radius taper u) (own_of taper.axes u)).0 b in (rw (c.along-x.ensures.value t) k.0, rw (c.along-y.ensures.value t) k.1.0))
    (both_tests _ _ _ _ _ (c.slab-along_x.ensures t) (c.slab-along_y.ensures t))
