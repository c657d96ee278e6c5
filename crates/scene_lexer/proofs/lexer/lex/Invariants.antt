-- The tokens so far and those of the rest are the text's.
use Rattle.std.proofs.Common.{◌≡◌, ◌+◌, ◌-◌, ◌≤◌, length, drop, Ok}
use Rattle.scene_lexer.specs.Tokens.{tokens_of, tokens_from, joined, Ascend}
use Rattle.scene_lexer.proofs.lexer.lex.Given as goal

abbrev pub invariant-bytes : goal.invariant-bytes
invariant-bytes l = record {
  read : joined (Ok l.tokens.items) (tokens_from l.file 0 l.at l.line (drop l.at l.text)) ≡ tokens_of l.file l.text;
  within : l.at ≤ length l.text;
  lines : l.line ≤ l.at + 1;
  spans : Ascend l.at l.tokens.items;
}

abbrev pub decreases-bytes : goal.decreases-bytes
decreases-bytes l = length l.text - l.at
