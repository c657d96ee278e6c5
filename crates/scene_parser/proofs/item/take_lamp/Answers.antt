use Rattle.std.proofs.Common.{◌≡◌, ◌<◌, true, length, ◌∙◌, arith}
use Rattle.std.specs.Prelude.{nat_lt}
use Rattle.item_blocks.specs.ReadingLaws.{exit}
use Rattle.scene_parser.proofs.Items.{room_for, lamp_fault, lamp_found}
use Rattle.scene_parser.proofs.item.take_lamp.Goals as goal

pub returns-in_err-light-clause-fault : goal.returns-in_err-light-clause-fault
returns-in_err-light-clause-fault c =
    let count : c.len.result ≡ length c.args.draft.scene.lights.items = c.len.ensures ∙ c.args.draft.scene.lights.ok.0 in
    let less : length c.args.draft.scene.lights.items < 256 = omega (arith, c.if-len-ge-LAMPS.false, count) in
    let room : nat_lt (length c.args.draft.scene.lights.items) 256 ≡ true = room_for (length c.args.draft.scene.lights.items) less in
    exit _ _ _ c.from_residual.ensures.1 (λ some. lamp_fault c.args.tokens.now c.args.set.now _ _ _ _ room (c.in_err-light.ensures.fault some))

pub returns-clause-found : goal.returns-clause-found
returns-clause-found c =
    let count : c.len.result ≡ length c.args.draft.scene.lights.items = c.len.ensures ∙ c.args.draft.scene.lights.ok.0 in
    let less : length c.args.draft.scene.lights.items < 256 = omega (arith, c.if-len-ge-LAMPS.false, count) in
    let room : nat_lt (length c.args.draft.scene.lights.items) 256 ≡ true = room_for (length c.args.draft.scene.lights.items) less in
    lamp_found c.args.tokens.now c.args.set.now _ _ _ _ _ _ room c.in_ok-light.ensures.found c.in_ok-draft.ensures.found
