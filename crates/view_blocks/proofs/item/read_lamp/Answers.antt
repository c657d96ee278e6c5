use Rattle.std.proofs.Common.{sym}
use Rattle.scene_expr.specs.Then.{IsThen}
use Rattle.item_blocks.specs.ReadingLaws.{exit, same_state, behind_value, behind_fault}
use Rattle.view_blocks.specs.Lamps.{plain_lamp, lamp_kind}
use Rattle.view_blocks.specs.Lights.{light_of}
use Rattle.view_blocks.proofs.Kept.{plain_lamp_sound, lamp_kept}
use Rattle.view_blocks.proofs.item.read_lamp.Goals as goal

pub light_of-requires : goal.light_of-requires
light_of-requires c =
    record { sound = lamp_kept c.args.tokens.now c.args.set.now c.args.depths plain_lamp _ _ plain_lamp_sound (same_state (lamp_kind c.args.tokens.now c.args.set.now) _ _ _ _ _ _ c.plain_lamp-lamp.ensures c.in_ok-next.ensures.found) }

pub returns-in_err-next-clause-fault : goal.returns-in_err-next-clause-fault
returns-in_err-next-clause-fault c =
    exit _ _ _ c.from_residual.ensures.1 (λ some. IsThen.fault _ (same_state (lamp_kind c.args.tokens.now c.args.set.now) _ _ _ _ _ _ c.plain_lamp-lamp.ensures (c.in_err-next.ensures.fault some)))

pub returns-in_err-light-clause-fault : goal.returns-in_err-light-clause-fault
returns-in_err-light-clause-fault c =
    exit _ _ _ c.from_residual-in_err-light.ensures.1 (λ some. IsThen.found _ _ (same_state (lamp_kind c.args.tokens.now c.args.set.now) _ _ _ _ _ _ c.plain_lamp-lamp.ensures c.in_ok-next.ensures.found) (behind_fault (light_of c.braced.new.block) _ c.in_ok-next.next (sym c.in_err-light.ensures.value)))

pub returns-clause-found : goal.returns-clause-found
returns-clause-found c =
    IsThen.found _ _ (same_state (lamp_kind c.args.tokens.now c.args.set.now) _ _ _ _ _ _ c.plain_lamp-lamp.ensures c.in_ok-next.ensures.found) (behind_value (light_of c.braced.new.block) _ c.in_ok-next.next (sym c.in_ok-light.ensures.value))
