-- The value so far, and how far it can have grown.
use Rattle.std.proofs.Common.{◌≡◌, ◌+◌, ◌*◌, ◌^◌, ◌≤◌, take}
use Rattle.scene_lexer.specs.Tokens.{decimal_from}
use Rattle.scene_lexer.proofs.number.decimal_from.Given as goal

abbrev pub invariant-loop-byte : goal.invariant-loop-byte
invariant-loop-byte l = record {
  read : l.value ≡ decimal_from l.start (take l.byte-index l.digits);
  small : l.value + 1 ≤ (l.start + 1) * 10 ^ l.byte-index;
}
