-- The number so far, up to 100.
use Rattle.std.proofs.Common.{◌≡◌, min, take}
use Rattle.scene_lexer.specs.Tokens.{decimal_from}
use Rattle.scene_lexer.proofs.number.exponent_size.Given as goal

abbrev pub invariant-loop-byte : goal.invariant-loop-byte
invariant-loop-byte l = l.size ≡ min 100 (decimal_from 0 (take l.byte-index l.digits))
