use Rattle.std.proofs.Common.{sym}
use Rattle.item_blocks.specs.ReadingLaws.{exit, parameter_fault, parameter_refused, parameter_found}
use Rattle.scene_parser.specs.declared.global.Globals.{Globals}
use Rattle.scene_parser.specs.Globals.{globals_with}
use Rattle.scene_parser.proofs.global.setting.Goals as goal

pub returns-in_err-value-clause-fault : goal.returns-in_err-value-clause-fault
returns-in_err-value-clause-fault c =
    exit _ _ _ c.from_residual.ensures.1 (λ some. parameter_fault Globals (globals_with c.args.globals.now c.args.word) _ _ _ _ (c.in_err-value.ensures.fault some))

pub returns-in_err-globals_with-clause-fault : goal.returns-in_err-globals_with-clause-fault
returns-in_err-globals_with-clause-fault c =
    exit _ _ _ c.from_residual-in_err-globals_with.ensures.1 (λ some. parameter_refused Globals (globals_with c.args.globals.now c.args.word) _ _ _ _ _ _ c.in_ok-value.ensures.found (rw (sym c.place_at.ensures) c.in_err-globals_with.ensures.fault))

pub returns-clause-found : goal.returns-clause-found
returns-clause-found c =
    parameter_found Globals (globals_with c.args.globals.now c.args.word) _ _ _ _ _ _ c.in_ok-value.ensures.found (rw (sym c.place_at.ensures) c.in_ok-globals_with.ensures.found)
