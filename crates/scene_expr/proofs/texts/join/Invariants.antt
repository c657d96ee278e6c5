-- The bytes so far stand before those of the arguments that are left.
use Rattle.std.proofs.Common.{◌≡◌, ◌≤◌, drop, vec_len}
use Rattle.scene_expr.specs.Calls.{joined, with_front}
use Rattle.scene_expr.proofs.texts.join.Given as goal

abbrev pub invariant-loop-argument : goal.invariant-loop-argument
invariant-loop-argument l = record {
  joined : joined l.arguments ≡ with_front l.bytes.items (joined (drop l.argument-index l.arguments));
  short : vec_len l.bytes ≤ 65536;
}
