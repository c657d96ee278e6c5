use Rattle.directive_machine.specs.Passages.{IsPassage}
use Rattle.directive_machine.proofs.passage.pass_on.Goals as goal

pub returns-in-None-clause-passage : goal.returns-in-None-clause-passage
returns-in-None-clause-passage c = IsPassage.none
