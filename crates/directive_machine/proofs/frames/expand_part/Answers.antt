use Rattle.std.proofs.Common.{ap, ◌∙◌, refl, reverse, ◌∷◌, arith}
use Rattle.directive_machine.specs.Moves.{action_of, next_of}
use Rattle.directive_machine.specs.Course.{given, after}
use Rattle.directive_machine.specs.Read.{course_of}
use Rattle.directive_machine.proofs.Exit.{exit}
use Rattle.directive_machine.proofs.Stacks.{frame, left_refused, left_done, left_further, on_fault, on_step, on_break, on_open, popped, none_left, left_first}
use Rattle.directive_machine.proofs.Onward.{to_step, to_break, to_open, to_done, to_further, to_popped, to_first}
use Rattle.directive_machine.proofs.OneText.{one_settled}
use Rattle.directive_machine.proofs.Passages.{on_passage, to_passage}
use Rattle.directive_machine.proofs.SaidFirst.{front_left}
use Rattle.directive_machine.proofs.frames.expand_part.Goals as goal

pub steps-init : goal.steps-init
steps-init g c = record {
  held = refl;
  later = omega arith;
  within = c.requires.taken;
  one = c.one_end.ensures;
  rest = λ h held r left. left_first (given c.args.set.now c.args.libraries.now h) c.args.whole c.args.whole.at c.new-frames.result.items _ r c.new-frames.ensures.items left;
  onward = λ h held r run. to_first (given c.args.set.now c.args.libraries.now h) c.args.whole c.args.whole.at c.new-frames.result.items _ r c.new-frames.ensures.items run;
}

pub returns-in_err-settle-clause-fault : goal.returns-in_err-settle-clause-fault
returns-in_err-settle-clause-fault g c =
    exit _ _ _ c.from_residual.ensures.1 (λ some text h held. c.steps.invariant.rest h held _ (left_refused (given c.args.set.now c.args.libraries.now h) _ _ _ _ _ _ (c.is_over.ensures.over c.if-is_over.true) (c.in_err-settle.ensures.fault some text h (c.steps.invariant.held ∙ held))))

-- a stop changes nothing of what was said
pub returns-in_err-settle-clause-said : goal.returns-in_err-settle-clause-said
returns-in_err-settle-clause-said g c =
    exit _ _ _ c.from_residual.ensures.1 (λ h held r run. front_left (given c.args.set.now c.args.libraries.now h) (frame c.steps.part c.steps.at ∷ reverse c.steps.frames.items) (after (course_of c.steps.machine c.steps.readings) c.steps.broken) r _ c.in_err-settle.ensures.said (c.steps.invariant.onward h held r run))

pub steps-preserved-in-Further : goal.steps-preserved-in-Further
steps-preserved-in-Further g c = record {
  held = c.in_ok-settle.ensures.held ∙ c.steps.invariant.held;
  later = omega (arith, c.steps.invariant.later, c.in_ok-settle.ensures.cause.later);
  within = c.pass_on-at.ensures.within;
  one = c.steps.invariant.one;
  rest = λ h held r rest. c.steps.invariant.rest h held r (left_further (given c.args.set.now c.args.libraries.now h) _ _ _ _ _ _ _ _ r (c.is_over.ensures.over c.if-is_over.true) (ap (λ k. next_of k c.settle.new.further) c.in-Further.is) (c.in_ok-settle.ensures.ok h (c.steps.invariant.held ∙ held)) (on_passage (given c.args.set.now c.args.libraries.now h) _ _ _ _ _ r refl _ _ c.pass_on-at.ensures.passage rest));
  onward = λ h held r run. to_passage (given c.args.set.now c.args.libraries.now h) _ _ _ _ _ r refl _ _ c.pass_on-at.ensures.passage (to_further (given c.args.set.now c.args.libraries.now h) (λ p a. one_settled c.steps.invariant.one (given c.args.set.now c.args.libraries.now h) p a) _ _ _ _ _ _ _ _ r (c.is_over.ensures.over c.if-is_over.true) (ap (λ k. next_of k c.settle.new.further) c.in-Further.is) (c.in_ok-settle.ensures.ok h (c.steps.invariant.held ∙ held)) (c.steps.invariant.onward h held r run));
}

pub steps-preserved-in-Some : goal.steps-preserved-in-Some
steps-preserved-in-Some g c = record {
  held = c.in_ok-settle.ensures.held ∙ c.steps.invariant.held;
  later = omega (arith, c.steps.invariant.later, c.in_ok-settle.ensures.cause.later);
  within = c.in_ok-settle.ensures.within;
  one = c.steps.invariant.one;
  rest = λ h held r rest. c.steps.invariant.rest h held r (left_done (given c.args.set.now c.args.libraries.now h) _ _ _ _ _ _ _ _ r (c.is_over.ensures.over c.if-is_over.true) (ap (λ k. next_of k c.settle.new.further) c.in-Done.is) (c.in_ok-settle.ensures.ok h (c.steps.invariant.held ∙ held)) (popped (given c.args.set.now c.args.libraries.now h) _ _ _ _ _ c.in-Some.ensures.items rest));
  onward = λ h held r run. to_popped (given c.args.set.now c.args.libraries.now h) _ _ _ _ r c.in-Some.ensures.items (to_done (given c.args.set.now c.args.libraries.now h) (λ p a. one_settled c.steps.invariant.one (given c.args.set.now c.args.libraries.now h) p a) _ _ _ _ _ _ _ _ r (c.is_over.ensures.over c.if-is_over.true) (ap (λ k. next_of k c.settle.new.further) c.in-Done.is) (c.in_ok-settle.ensures.ok h (c.steps.invariant.held ∙ held)) (c.steps.invariant.onward h held r run));
}

pub returns-in-None-clause-ok : goal.returns-in-None-clause-ok
returns-in-None-clause-ok g c = λ h held.
    c.steps.invariant.rest h held _ (left_done (given c.args.set.now c.args.libraries.now h) _ _ _ _ _ _ _ _ _ (c.is_over.ensures.over c.if-is_over.true) (ap (λ k. next_of k c.settle.new.further) c.in-Done.is) (c.in_ok-settle.ensures.ok h (c.steps.invariant.held ∙ held)) (none_left (given c.args.set.now c.args.libraries.now h) _ _ _ _ c.in-None.ensures.items c.in-None.ensures.rest c.in-None.ensures.cases.0))

pub returns-in_err-next-clause-fault : goal.returns-in_err-next-clause-fault
returns-in_err-next-clause-fault g c =
    exit _ _ _ c.from_residual-in_err-next.ensures.1 (λ some text h held. c.steps.invariant.rest h held _ (on_fault (given c.args.set.now c.args.libraries.now h) _ _ _ _ _ _ (c.is_over.ensures.runs c.if-is_over.false) (c.is_over.ensures.within c.if-is_over.false) (c.in_err-next.ensures.fault some)))

pub returns-in_err-next-clause-said : goal.returns-in_err-next-clause-said
returns-in_err-next-clause-said g c =
    exit _ _ _ c.from_residual-in_err-next.ensures.1 (λ h held r run. front_left (given c.args.set.now c.args.libraries.now h) (frame c.steps.part c.steps.at ∷ reverse c.steps.frames.items) (after (course_of c.steps.machine c.steps.readings) c.steps.broken) r _ c.in_err-next.ensures.said (c.steps.invariant.onward h held r run))

pub steps-preserved-in-Step : goal.steps-preserved-in-Step
steps-preserved-in-Step g c = record {
  held = c.steps.invariant.held;
  later = c.steps.invariant.later;
  within = c.pass_on-at-in-Step.ensures.within;
  one = c.steps.invariant.one;
  rest = λ h held r rest. c.steps.invariant.rest h held r (on_step (given c.args.set.now c.args.libraries.now h) _ _ _ _ _ _ _ _ r (c.is_over.ensures.runs c.if-is_over.false) (c.is_over.ensures.within c.if-is_over.false) (ap (λ k. action_of k c.step.new.inner) c.in-Step.is) c.in_ok-next.ensures.ok (on_passage (given c.args.set.now c.args.libraries.now h) _ _ _ _ _ r (c.is_over.ensures.runs c.if-is_over.false) _ _ c.pass_on-at-in-Step.ensures.passage rest));
  onward = λ h held r run. to_passage (given c.args.set.now c.args.libraries.now h) _ _ _ _ _ r (c.is_over.ensures.runs c.if-is_over.false) _ _ c.pass_on-at-in-Step.ensures.passage (to_step (given c.args.set.now c.args.libraries.now h) _ _ _ _ _ _ _ _ r (c.is_over.ensures.runs c.if-is_over.false) (c.is_over.ensures.within c.if-is_over.false) (ap (λ k. action_of k c.step.new.inner) c.in-Step.is) c.in_ok-next.ensures.ok (c.steps.invariant.onward h held r run));
}

pub steps-preserved-in-Break : goal.steps-preserved-in-Break
steps-preserved-in-Break g c = record {
  held = c.steps.invariant.held;
  later = c.steps.invariant.later;
  within = c.in_ok-next.ensures.within;
  one = c.steps.invariant.one;
  rest = λ h held r rest. c.steps.invariant.rest h held r (on_break (given c.args.set.now c.args.libraries.now h) _ _ _ _ _ _ _ r (c.is_over.ensures.runs c.if-is_over.false) (c.is_over.ensures.within c.if-is_over.false) (ap (λ k. action_of k c.step.new.inner) c.in-Break.is) c.in_ok-next.ensures.ok rest);
  onward = λ h held r run. to_break (given c.args.set.now c.args.libraries.now h) _ _ _ _ _ _ _ r (c.is_over.ensures.runs c.if-is_over.false) (c.is_over.ensures.within c.if-is_over.false) (ap (λ k. action_of k c.step.new.inner) c.in-Break.is) c.in_ok-next.ensures.ok (c.steps.invariant.onward h held r run);
}

pub returns-in_err-wait-in-Open-clause-said : goal.returns-in_err-wait-in-Open-clause-said
returns-in_err-wait-in-Open-clause-said g c =
    exit _ _ _ c.from_residual-in_err-wait-in-Open.ensures.1 (λ h held r run. front_left (given c.args.set.now c.args.libraries.now h) (frame c.steps.part c.steps.at ∷ reverse c.steps.frames.items) (after (course_of c.steps.machine c.steps.readings) c.steps.broken) r _ c.in_ok-next.ensures.said (c.steps.invariant.onward h held r run))

pub steps-preserved : goal.steps-preserved
steps-preserved g c = record {
  held = c.steps.invariant.held;
  later = c.steps.invariant.later;
  within = c.pass_on-at-in-Open.ensures.within;
  one = c.steps.invariant.one;
  rest = λ h held r rest. c.steps.invariant.rest h held r (on_open (given c.args.set.now c.args.libraries.now h) _ _ _ _ _ _ _ _ _ _ r (c.is_over.ensures.runs c.if-is_over.false) (c.is_over.ensures.within c.if-is_over.false) (ap (λ k. action_of k c.step.new.inner) c.in-Open.is) c.in_ok-next.ensures.ok c.in_ok-wait-in-Open.ensures.ok (on_passage (given c.args.set.now c.args.libraries.now h) _ _ _ _ _ r (c.is_over.ensures.runs c.if-is_over.false) _ _ c.pass_on-at-in-Open.ensures.passage rest));
  onward = λ h held r run. to_passage (given c.args.set.now c.args.libraries.now h) _ _ _ _ _ r (c.is_over.ensures.runs c.if-is_over.false) _ _ c.pass_on-at-in-Open.ensures.passage (to_open (given c.args.set.now c.args.libraries.now h) _ _ _ _ _ _ _ _ _ _ r (c.is_over.ensures.runs c.if-is_over.false) (c.is_over.ensures.within c.if-is_over.false) (ap (λ k. action_of k c.step.new.inner) c.in-Open.is) c.in_ok-next.ensures.ok c.in_ok-wait-in-Open.ensures.ok (c.steps.invariant.onward h held r run));
}
