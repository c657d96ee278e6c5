use Rattle.std.proofs.Common.{◌≡◌, length, ◌∙◌}
use Rattle.scene_expr.specs.Then.{IsThen}
use Rattle.item_blocks.specs.ReadingLaws.{exit, behind_value, behind_fault}
use Rattle.object_items.specs.Objects.{object_seen}
use Rattle.scene_parser.specs.Scenes.{draft_seen, draft_with}
use Rattle.scene_parser.proofs.Items.{same_counts}
use Rattle.scene_parser.proofs.item.take_object.Goals as goal

pub returns-in_err-object-clause-fault : goal.returns-in_err-object-clause-fault
returns-in_err-object-clause-fault c =
    let leaves : c.len-leaves.result ≡ length c.args.draft.scene.leaves.items = c.len-leaves.ensures ∙ c.args.draft.scene.leaves.ok.0 in
    let sheets : c.len-sheets.result ≡ length c.args.draft.scene.sheets.items = c.len-sheets.ensures ∙ c.args.draft.scene.sheets.ok.0 in
    exit _ _ _ c.from_residual.ensures.1 (λ some. IsThen.fault _ (same_counts c.args.tokens.now c.args.set.now c.args.word c.args.at _ (length c.args.draft.scene.leaves.items) _ (length c.args.draft.scene.sheets.items) _ leaves sheets (c.in_err-object.ensures.fault some)))

pub returns-in_err-draft-clause-fault : goal.returns-in_err-draft-clause-fault
returns-in_err-draft-clause-fault c =
    let leaves : c.len-leaves.result ≡ length c.args.draft.scene.leaves.items = c.len-leaves.ensures ∙ c.args.draft.scene.leaves.ok.0 in
    let sheets : c.len-sheets.result ≡ length c.args.draft.scene.sheets.items = c.len-sheets.ensures ∙ c.args.draft.scene.sheets.ok.0 in
    exit _ _ _ c.from_residual-in_err-draft.ensures.1 (λ some. IsThen.found _ _
    (same_counts c.args.tokens.now c.args.set.now c.args.word c.args.at _ (length c.args.draft.scene.leaves.items) _ (length c.args.draft.scene.sheets.items) _ leaves sheets c.in_ok-object.ensures.found)
    (behind_fault (draft_with c.args.tokens.now (object_seen c.in_ok-object.object) (draft_seen c.args.draft)) _ _ (c.in_err-draft.ensures.fault some)))

pub returns-clause-found : goal.returns-clause-found
returns-clause-found c =
    let leaves : c.len-leaves.result ≡ length c.args.draft.scene.leaves.items = c.len-leaves.ensures ∙ c.args.draft.scene.leaves.ok.0 in
    let sheets : c.len-sheets.result ≡ length c.args.draft.scene.sheets.items = c.len-sheets.ensures ∙ c.args.draft.scene.sheets.ok.0 in
    IsThen.found _ _
    (same_counts c.args.tokens.now c.args.set.now c.args.word c.args.at _ (length c.args.draft.scene.leaves.items) _ (length c.args.draft.scene.sheets.items) _ leaves sheets c.in_ok-object.ensures.found)
    (behind_value (draft_with c.args.tokens.now (object_seen c.in_ok-object.object) (draft_seen c.args.draft)) _ _ c.in_ok-draft.ensures.found)
