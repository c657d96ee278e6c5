-- The bytes of the text so far.
use Rattle.std.proofs.Common.{◌-◌, length}
use Rattle.scene_lexer.proofs.TextLemmas.{IsInText}
use Rattle.scene_lexer.proofs.text.read_text.Given as goal

abbrev pub invariant-text : goal.invariant-text
invariant-text l = IsInText l.text l.at l.bytes.items l.lines

abbrev pub decreases-text : goal.decreases-text
decreases-text l = length l.text - l.at
