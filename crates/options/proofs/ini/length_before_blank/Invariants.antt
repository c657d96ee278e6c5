-- So many bytes were passed over, and the rest is still to be looked at.
use Rattle.std.proofs.Common.{◌≡◌, ◌+◌, drop}
use Rattle.std.specs.List.{position_or_len}
use Rattle.options.specs.Ini.{is_blank}
use Rattle.options.proofs.ini.length_before_blank.Given as goal

abbrev pub invariant-loop-byte : goal.invariant-loop-byte
invariant-loop-byte l = record {
  same : l.at ≡ l.byte-index;
  rest : position_or_len is_blank l.text ≡ l.at + position_or_len is_blank (drop l.byte-index l.text);
}
