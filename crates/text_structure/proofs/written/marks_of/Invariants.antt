use Rattle.std.proofs.Common.{◌≡◌, length, drop, []}
use Rattle.text_structure.specs.Marks.{marked}
use Rattle.text_structure.proofs.written.marks_of.Given as goal

abbrev pub invariant-loop-token : goal.invariant-loop-token
invariant-loop-token l = (marked (drop l.token-index l.tokens) l.marks.items l.words ≡ marked l.tokens [] l.fn.words) × (length l.marks.items ≡ l.token-index)
