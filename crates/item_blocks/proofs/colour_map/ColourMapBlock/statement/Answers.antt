use Rattle.std.proofs.Common.{ℤ, List, sym, ap, ◌∙◌}
use Rattle.scene_expr.specs.Then.{IsThen}
use Rattle.item_blocks.specs.Tokens.{behind_comma}
use Rattle.item_blocks.specs.Parameters.{colour_of}
use Rattle.item_blocks.specs.Pigments.{entry_opened, ascending_of}
use Rattle.item_blocks.specs.ReadingLaws.{exit, parameter_fault, parameter_refused, parameter_found, same_value, at_same}
use Rattle.item_blocks.proofs.colour_map.ColourMapBlock.statement.Goals as goal

pub returns-in_err-start-clause-fault : goal.returns-in_err-start-clause-fault
returns-in_err-start-clause-fault c =
    exit _ _ _ c.from_residual.ensures.1 (λ some. IsThen.fault _ (c.in_err-start.ensures.value ∙ ap (λ n. entry_opened c.args.tokens.now n c.args.at) c.count.ensures))

pub returns-in_err-value-clause-fault : goal.returns-in_err-value-clause-fault
returns-in_err-value-clause-fault c =
    exit _ _ _ c.from_residual-in_err-value.ensures.1 (λ some. IsThen.found _ _ (c.in_ok-start.ensures.value ∙ ap (λ n. entry_opened c.args.tokens.now n c.args.at) c.count.ensures) (IsThen.fault _ (parameter_fault ℤ (ascending_of c.args.self.now) _ _ _ _ (c.in_err-value.ensures.fault some))))

pub returns-in_err-place-clause-fault : goal.returns-in_err-place-clause-fault
returns-in_err-place-clause-fault c =
    exit _ _ _ c.from_residual-in_err-place.ensures.1 (λ some. IsThen.found _ _ (c.in_ok-start.ensures.value ∙ ap (λ n. entry_opened c.args.tokens.now n c.args.at) c.count.ensures) (IsThen.fault _ (parameter_refused ℤ (ascending_of c.args.self.now) _ _ _ _ _ _ c.in_ok-value.ensures.found (ap (λ place. ascending_of c.args.self.now c.in_ok-value.value place) (sym c.place_at.ensures) ∙ sym c.in_err-place.ensures))))

pub returns-in_err-colour-clause-fault : goal.returns-in_err-colour-clause-fault
returns-in_err-colour-clause-fault c =
    exit _ _ _ c.from_residual-in_err-colour.ensures.1 (λ some. IsThen.found _ _ (c.in_ok-start.ensures.value ∙ ap (λ n. entry_opened c.args.tokens.now n c.args.at) c.count.ensures) (IsThen.found _ _ (parameter_found ℤ (ascending_of c.args.self.now) _ _ _ _ _ _ c.in_ok-value.ensures.found (ap (λ place. ascending_of c.args.self.now c.in_ok-value.value place) (sym c.place_at.ensures) ∙ sym c.in_ok-place.ensures)) (IsThen.fault _ (at_same (List ℤ) colour_of c.args.tokens.now c.args.set.now c.behind_comma.result (behind_comma c.args.tokens.now c.in_ok-value.comma) _ c.behind_comma.ensures.value (c.in_err-colour.ensures.fault some)))))

pub returns-in_err-next-clause-fault : goal.returns-in_err-next-clause-fault
returns-in_err-next-clause-fault c =
    exit _ _ _ c.from_residual-in_err-next.ensures.1 (λ some. IsThen.found _ _ (c.in_ok-start.ensures.value ∙ ap (λ n. entry_opened c.args.tokens.now n c.args.at) c.count.ensures) (IsThen.found _ _ (parameter_found ℤ (ascending_of c.args.self.now) _ _ _ _ _ _ c.in_ok-value.ensures.found (ap (λ place. ascending_of c.args.self.now c.in_ok-value.value place) (sym c.place_at.ensures) ∙ sym c.in_ok-place.ensures)) (IsThen.found _ _ (at_same (List ℤ) colour_of c.args.tokens.now c.args.set.now c.behind_comma.result (behind_comma c.args.tokens.now c.in_ok-value.comma) _ c.behind_comma.ensures.value c.in_ok-colour.ensures.found) (IsThen.fault _ c.in_err-next.ensures.value))))

pub returns-clause-found : goal.returns-clause-found
returns-clause-found c =
    IsThen.found _ _ (c.in_ok-start.ensures.value ∙ ap (λ n. entry_opened c.args.tokens.now n c.args.at) c.count.ensures) (IsThen.found _ _ (parameter_found ℤ (ascending_of c.args.self.now) _ _ _ _ _ _ c.in_ok-value.ensures.found (ap (λ place. ascending_of c.args.self.now c.in_ok-value.value place) (sym c.place_at.ensures) ∙ sym c.in_ok-place.ensures)) (IsThen.found _ _ (at_same (List ℤ) colour_of c.args.tokens.now c.args.set.now c.behind_comma.result (behind_comma c.args.tokens.now c.in_ok-value.comma) _ c.behind_comma.ensures.value c.in_ok-colour.ensures.found) (IsThen.found _ _ c.in_ok-next.ensures.value (same_value _ _ _ c.in_ok-push.ensures.found))))
