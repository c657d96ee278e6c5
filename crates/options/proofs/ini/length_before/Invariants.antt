-- So many bytes were passed over, and the rest is still to be looked at.
use Rattle.std.proofs.Common.{◌≡◌, ◌+◌, ◌==◌, drop}
use Rattle.std.specs.List.{position_or_len}
use Rattle.options.proofs.ini.length_before.Given as goal

abbrev pub invariant-loop-byte : goal.invariant-loop-byte
invariant-loop-byte l = record {
  same : l.at ≡ l.byte-index;
  rest : position_or_len (λ b. b == l.stop) l.text ≡ l.at + position_or_len (λ b. b == l.stop) (drop l.byte-index l.text);
}
