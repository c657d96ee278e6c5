use Rattle.std.proofs.Common.{◌∙◌, ap}
use Rattle.directive_machine.specs.Read.{sources_of}
use Rattle.directive_machine.specs.Sources.{number_of_name}
use Rattle.directive_machine.proofs.Exit.{exit}
use Rattle.directive_machine.proofs.TakenIn.{opened_new}
use Rattle.directive_machine.proofs.readings.Readings.take_in.Goals as goal

pub returns-in_err-found-2-clause-fault : goal.returns-in_err-found-2-clause-fault
returns-in_err-found-2-clause-fault c = exit _ _ _ c.from_residual-in_err-found-2.ensures.1 (λ some. opened_new c.args.file _ _ _ _ _ (c.number-number.ensures ∙ ap (number_of_name (sources_of c.args.self.now)) c.bytes.ensures) c.known.ensures c.if-number-known.false (c.in_err-found-2.ensures.fault some))

pub returns-in_ok-found-2-clause-ok : goal.returns-in_ok-found-2-clause-ok
returns-in_ok-found-2-clause-ok c = opened_new c.args.file _ _ _ _ _ (c.number-number.ensures ∙ ap (number_of_name (sources_of c.args.self.now)) c.bytes.ensures) c.known.ensures c.if-number-known.false c.in_ok-found-2.ensures.ok
