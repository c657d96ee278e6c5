use Rattle.std.proofs.Common.{◌∙◌, refl, arith}
use Rattle.directive_machine.specs.Passages.{IsPassage}
use Rattle.directive_machine.proofs.passage.take_all.Goals as goal

pub tokens-init : goal.tokens-init
tokens-init c = record { passage = IsPassage.none; more = omega arith; within = c.requires; said = refl }

pub tokens-preserved : goal.tokens-preserved
tokens-preserved c = record {
  passage = IsPassage.further _ _ _ c.tokens.invariant.passage c.tokens-test.true (c.take.ensures.step c.if-take.true);
  more = omega (arith, c.tokens.invariant.more, c.take.ensures.more);
  within = c.take.ensures.within c.if-take.true;
  said = c.take.ensures.said ∙ c.tokens.invariant.said;
}
