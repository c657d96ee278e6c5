use Rattle.std.proofs.Common.{◌≡◌, drop}
use Rattle.xform.specs.Transforms.{start_of, composed_from, IsPlaced}
use Rattle.xform.proofs.steps.compose.Given as goal

abbrev pub invariant-loop-step : goal.invariant-loop-step
invariant-loop-step l = (composed_from start_of l.steps ≡ composed_from l.x (drop l.step-index l.steps)) × IsPlaced l.x
