use Rattle.std.proofs.Common.{◌≡◌, drop}
use Rattle.std.specs.Int.{int_max}
use Rattle.scene_expr.specs.Calls.{on_floats, folded}
use Rattle.scene_expr.proofs.calls.greatest.Given as goal

abbrev pub invariant-loop-other : goal.invariant-loop-other
invariant-loop-other l = on_floats int_max l.arguments ≡ folded int_max l.greatest (drop l.other-index l.others)
