use Rattle.std.proofs.Common.{◌≡◌, drop}
use Rattle.std.specs.Int.{int_min}
use Rattle.scene_expr.specs.Calls.{on_floats, folded}
use Rattle.scene_expr.proofs.calls.least.Given as goal

abbrev pub invariant-loop-other : goal.invariant-loop-other
invariant-loop-other l = on_floats int_min l.arguments ≡ folded int_min l.least (drop l.other-index l.others)
