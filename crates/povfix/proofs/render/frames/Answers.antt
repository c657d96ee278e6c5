use Rattle.std.proofs.Common.{◌∙◌, refl, arith}
use Rattle.povfix.proofs.Courses.{are_apart, ends_at, start, step, stops}
use Rattle.povfix.proofs.render.frames.Goals as goal

pub returns-in-Err-clause-course : goal.returns-in-Err-clause-course
returns-in-Err-clause-course g c =
    stops _ _ _ _ _ _ _ _ _ _ _ _ _ _ _ _ _ _ _ _ _ _ _ _ _
    (are_apart c.args.plan.now c.requires.plan (λ frame other. c.names_differ.ensures.pictures c.args.plan.now frame other c.requires.plan))
    (omega (arith, c.loop-finished-test.true)) c.loop-finished.invariant.so_far
    c.frame.ensures.others c.frame.ensures.crash_others c.frame.ensures.tells
    c.in-Err.fault _ c.loop-finished.invariant.held c.frame.ensures.sink_later c.in-Err.ensures.end

pub loop-finished-init : goal.loop-finished-init
loop-finished-init g c = record { so_far = start _ _ _ _ _ _ _ _ _; held = refl; small = omega arith }

pub loop-finished-preserved : goal.loop-finished-preserved
loop-finished-preserved g c =
    record {
      so_far =
          step _ _ _ _ _ _ _ _ _ _ _ _ _ _ _ _ _ _ _ _ _ _ _ _ _
          (are_apart c.args.plan.now c.requires.plan (λ frame other. c.names_differ.ensures.pictures c.args.plan.now frame other c.requires.plan))
          (omega (arith, c.loop-finished-test.true)) c.loop-finished.invariant.so_far
          c.frame.ensures.others c.frame.ensures.crash_others c.frame.ensures.tells
          (λ h held. c.in-Ok.ensures.stored h (c.loop-finished.invariant.held ∙ held))
          (λ h held. c.in-Ok.ensures.durable h (c.loop-finished.invariant.held ∙ held))
          _ c.in-Ok.more c.loop-finished.invariant.held c.in-Ok.ensures.said
          c.frame.ensures.texts_later c.frame.ensures.shelf_later c.frame.ensures.sink_later;
      held = c.frame.ensures.texts ∙ c.loop-finished.invariant.held;
      small = omega (arith, c.loop-finished.invariant.small, c.in-Ok.ensures.small);
    }

pub returns-clause-course : goal.returns-clause-course
returns-clause-course g c =
    ends_at _ _ _ _ _ _ _ _ _ _ _ _ _ _ _ _ c.loop-finished.finished c.loop-finished.total c.loop-finished.invariant.so_far
    (omega (arith, c.loop-finished-test.false, c.loop-finished.auto.finished-end))
