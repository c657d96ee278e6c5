use Rattle.std.proofs.Common.{ap, ◌∙◌, drop}
use Rattle.directive_machine.specs.Carried.{state_of}
use Rattle.directive_machine.proofs.Evaluates.{evaluated, refused}
use Rattle.directive_machine.proofs.machine.Machine.evaluate.Goals as goal

pub returns-in-Ok-clause-value : goal.returns-in-Ok-clause-value
returns-in-Ok-clause-value c =
    evaluated _ _ _ _ _ _ _ (c.behind-list.ensures ∙ ap (drop c.args.from) c.as_slice.ensures.value) c.place_at-first.ensures (ap (λ items. record (state_of c.args.self.now) { out = items }) c.truncate.ensures.items) c.in-Ok.ensures.value

pub returns-in-Err-clause-fault : goal.returns-in-Err-clause-fault
returns-in-Err-clause-fault c =
    (λ some. refused _ _ _ _ _ _ (c.behind-list.ensures ∙ ap (drop c.args.from) c.as_slice.ensures.value) c.stop_of.ensures c.in-Err.ensures.fault some)
