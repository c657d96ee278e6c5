-- What the frames so far leave, and what they have said.
use Rattle.povfix.proofs.Courses.{IsSoFar}
use Rattle.std.proofs.Common.{◌≡◌, ◌≤◌, ◌*◌, ◌^◌}
use Rattle.povfix.proofs.render.frames.Given as goal

abbrev pub invariant-loop-finished : goal.invariant-loop-finished
invariant-loop-finished g l = record {
  so_far : IsSoFar l.plan (g.T.Texts.held l.initial.texts) (g.T.Texts.faults l.initial.texts) (g.T.Texts.faults l.texts) (g.S.Shelf.faults l.initial.shelf) (g.S.Shelf.faults l.shelf) (g.K.Sink.faults l.initial.messages) (g.K.Sink.faults l.messages) (g.S.Shelf.holds l.initial.shelf) (g.S.Shelf.holds l.shelf) (g.S.Shelf.moment l.initial.shelf) (g.S.Shelf.moment l.shelf) (g.S.Shelf.images l.initial.shelf) (g.S.Shelf.images l.shelf) (g.K.Sink.written l.initial.messages) (g.K.Sink.written l.messages) l.finished l.total;
  held : g.T.Texts.held l.texts ≡ g.T.Texts.held l.initial.texts;
  small : l.total ≤ 2 ^ 35 * l.finished;
}
