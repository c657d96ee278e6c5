use Rattle.std.proofs.Common.{◌≡◌, drop, is_some}
use Rattle.scene_expr.specs.Calls.{joined}
use Rattle.scene_expr.proofs.texts.are_texts.Given as goal

abbrev pub invariant-loop-argument : goal.invariant-loop-argument
invariant-loop-argument l = is_some (joined l.arguments) ≡ is_some (joined (drop l.argument-index l.arguments))
