use Rattle.std.proofs.Common.{◌+◌}
use Rattle.scene_expr.specs.Then.{IsThen}
use Rattle.item_blocks.specs.ReadingLaws.{exit, same_state, same_value}
use Rattle.scene_parser.specs.Globals.{globals_kind}
use Rattle.scene_parser.proofs.Kept.{globals_kept}
use Rattle.scene_parser.proofs.item.take_globals.Goals as goal

pub with_globals-requires-clause-globals : goal.with_globals-requires-clause-globals
with_globals-requires-clause-globals c = globals_kept c.args.tokens.now c.args.set.now 64 _ _ _ c.globals-globals.ensures.sound c.in_ok-next.ensures.found

pub returns-in_err-next-clause-fault : goal.returns-in_err-next-clause-fault
returns-in_err-next-clause-fault c =
    exit _ _ _ c.from_residual.ensures.1 (λ some. IsThen.fault _ (same_state (globals_kind c.args.tokens.now c.args.set.now) c.args.tokens.now 64 _ _ (c.args.at + 1) _ c.globals-globals.ensures.value (c.in_err-next.ensures.fault some)))

pub returns-clause-found : goal.returns-clause-found
returns-clause-found c =
    IsThen.found _ _ (same_state (globals_kind c.args.tokens.now c.args.set.now) c.args.tokens.now 64 _ _ (c.args.at + 1) _ c.globals-globals.ensures.value c.in_ok-next.ensures.found) (same_value _ _ _ c.with_globals.ensures.value)
