use Rattle.directive_machine.proofs.One.{one_part}
use Rattle.directive_machine.proofs.OneText.{one_settled}
use Rattle.directive_machine.proofs.law.one_outcome.Goals as goal

pub returns : goal.returns
returns c = λ g part at w r r' p q. one_part g (λ part a. one_settled c.one_end.ensures g part a) part at w r r' p q
