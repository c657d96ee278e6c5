-- So many names were passed over, and the rest is still to be looked at.
use Rattle.std.proofs.Common.{◌≡◌, ◌+◌, drop}
use Rattle.std.specs.List.{position_or_len}
use Rattle.std.specs.Str.{bytes_eq}
use Rattle.directive_machine.proofs.readings.number_of.Given as goal

abbrev pub invariant-loop-known : goal.invariant-loop-known
invariant-loop-known l = record {
  same : l.number ≡ l.known-index;
  rest : position_or_len (bytes_eq l.name) l.names ≡ l.number + position_or_len (bytes_eq l.name) (drop l.known-index l.names);
}
