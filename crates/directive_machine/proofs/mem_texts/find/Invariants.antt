-- No text so far has the name.
use Rattle.std.proofs.Common.{◌≡◌, drop}
use Rattle.directive_machine.specs.Texts.{text_of}
use Rattle.directive_machine.proofs.mem_texts.find.Given as goal

abbrev pub invariant-loop-text : goal.invariant-loop-text
invariant-loop-text l = text_of (drop l.text-index l.texts) l.name ≡ text_of l.texts l.name
