use Rattle.directive_machine.proofs.OneScene.{one_expansion}
use Rattle.directive_machine.proofs.law.one_expansion.Goals as goal

pub returns : goal.returns
returns c = λ g name bytes r r' p q. one_expansion c.one_end.ensures g name bytes r r' p q
