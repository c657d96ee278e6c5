use Rattle.directive_machine.proofs.NameLaws.{substitutes_value, substitutes_block}
use Rattle.directive_machine.proofs.law.name_laws.Goals as goal

pub returns-clause-value : goal.returns-clause-value
returns-clause-value c = substitutes_value

pub returns-clause-block : goal.returns-clause-block
returns-clause-block c = substitutes_block
