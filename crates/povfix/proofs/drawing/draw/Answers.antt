use Rattle.povfix.proofs.Formats.{ready}
use Rattle.povfix.proofs.drawing.draw.Goals as goal

pub draw-requires-clause-ready : goal.draw-requires-clause-ready
draw-requires-clause-ready g c = ready c.args.plan.now c.args.scene _ _ c.format.result c.requires.plan c.requires.valid c.in_ok-world.ensures c.in_ok-new.ensures c.format.ensures
