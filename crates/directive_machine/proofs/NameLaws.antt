-- What a name comes to where it stands.
use Rattle.std.proofs.Common.{ℕ, ◌+◌, ◌≡◌, ap, ◌∙◌, Some}
use Rattle.std.specs.Prelude.{slice_get}
use Rattle.scene_lexer.specs.declared.token.Token.{Token}
use Rattle.text_structure.specs.Texts.{Text}
use Rattle.scope_tables.specs.declared.binding.Binding.{Binding}
use Rattle.directive_machine.specs.declared.part.Part.{Part}
use Rattle.directive_machine.specs.State.{State, on_ok}
use Rattle.directive_machine.specs.Declares.{step}
use Rattle.directive_machine.specs.Words.{begun_bound}
use Rattle.directive_machine.specs.Tokens.{begun_mark, begun_in}
use Rattle.directive_machine.specs.Sources.{text_at}
use Rattle.directive_machine.specs.Expands.{Runs}
use Rattle.directive_machine.specs.Substitutes.{IsName, SubstitutesValue, SubstitutesBlock}

-- a name is taken, and it begins what it is bound to
name_begins : (t : Text) (part : Part) (at : ℕ) (s s' : State) (token : Token) (b : Binding) → IsName t at s s' token b → begun_in t part at s ≡ begun_bound (Some b) t part at (Some token) s'
name_begins t part at s s' token b is =
    ap (λ k. on_ok k (begun_mark (slice_get t.marks at) t part at)) is.taken
    ∙ ap (λ m. begun_mark m t part at s') is.mark
    ∙ ap (λ k. begun_bound k t part at (slice_get t.tokens at) s') is.bound
    ∙ ap (λ k. begun_bound (Some b) t part at k s') is.spelled

pub substitutes_value : SubstitutesValue
substitutes_value g part at w s s' token value r within is hands rest =
    Runs.step part at (at + 1) w s' r within (name_begins (text_at w.sources part.text) part at w.state s token (Binding.Value value) is ∙ ap (λ k. on_ok k (step (at + 1))) hands) rest

pub substitutes_block : SubstitutesBlock
substitutes_block g part at w s s' token block r within is hands rest =
    Runs.step part at (at + 1) w s' r within (name_begins (text_at w.sources part.text) part at w.state s token (Binding.Block block) is ∙ ap (λ k. on_ok k (step (at + 1))) hands) rest
