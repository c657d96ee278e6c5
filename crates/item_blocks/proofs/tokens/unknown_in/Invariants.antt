-- None of the tokens before is an unknown word.
use Rattle.std.proofs.Common.{◌≡◌, drop}
use Rattle.item_blocks.specs.Tokens.{unknown_in}
use Rattle.item_blocks.proofs.tokens.unknown_in.Given as goal

abbrev pub invariant-loop-token : goal.invariant-loop-token
invariant-loop-token l = unknown_in l.tokens ≡ unknown_in (drop l.token-index l.tokens)
