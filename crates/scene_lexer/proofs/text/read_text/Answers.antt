-- Each turn takes one byte or one escape.
use Rattle.std.proofs.Common.{◌≡◌, ◌+◌, arith, ap, ◌∙◌, sym, ◌++◌, ◌∷◌, [], cond, not, subst, Some}
use Rattle.scene_lexer.specs.Steps.{IsFound}
use Rattle.scene_lexer.specs.declared.token.Kind.TheVariants.{Text}
use Rattle.scene_lexer.proofs.TextLemmas.{text_start, text_more, text_found, text_open}
use Rattle.scene_lexer.proofs.text.read_text.Goals as goal

pub text-init : goal.text-init
text-init c = text_start c.args.text.now c.new-bytes.result.items c.requires.quote c.new-bytes.ensures.items

pub returns-then-text-at-eq34-clause-found : goal.returns-then-text-at-eq34-clause-found
returns-then-text-at-eq34-clause-found c =
    subst (λ b. IsFound c.args.place c.args.text.now (record { kind = Some (Text b); length = c.text.at + 1; lines = c.text.lines })) (sym c.new.ensures)
    (text_found c.args.place c.args.text.now c.text.bytes.items c.text.at c.text.lines c.requires.quote c.text.invariant (omega arith) c.if-text-at-eq34.true)

pub text-preserved : goal.text-preserved
text-preserved c =
    let pushed : c.push.new.self.items ≡ c.text.bytes.items ++ c.byte_at-byte.result.0 ∷ [] =
    c.push.ensures.items ∙ ap (λ v. cond v (c.text.bytes.items ++ c.byte_at-byte.result.0 ∷ []) c.text.bytes.items) (c.is_err.ensures.negation ∙ ap not c.if-is_err.false) in
    text_more c.args.text.now c.rest_of.result.now c.text.bytes.items c.push.new.self.items c.text.at c.text.lines c.byte_at-byte.result.0 c.byte_at-byte.result.1 c.line_end-lines.result
    c.text.invariant (omega arith) c.if-text-at-eq34.false c.rest_of.ensures c.byte_at-byte.ensures.byte c.byte_at-byte.ensures.length pushed c.line_end-lines.ensures

pub returns-clause-fault : goal.returns-clause-fault
returns-clause-fault c = λ other. text_open c.args.place c.args.text.now c.text.bytes.items c.text.at c.text.lines c.requires.quote c.text.invariant (omega arith)
