-- What a name comes to where it stands.
use Rattle.std.specs.Prelude.{ℕ, ◌+◌, ◌≡◌, ◌<◌, List, map, slice_get, Some, Ok}
use Rattle.scene_lexer.specs.declared.token.Token.{Token}
use Rattle.scene_expr.specs.declared.value.Value.{Value}
use Rattle.text_structure.specs.declared.mark.Mark.{Mark}
use Rattle.text_structure.specs.Texts.{Text}
use Rattle.scope_tables.specs.declared.binding.Binding.{Binding}
use Rattle.scope_tables.specs.Names.{found}
use Rattle.directive_machine.specs.declared.part.Part.{Part}
use Rattle.directive_machine.specs.State.{State, counted, handed}
use Rattle.directive_machine.specs.Words.{value_tokens, placed}
use Rattle.directive_machine.specs.Sources.{text_at}
use Rattle.directive_machine.specs.Course.{Given, Course, Outcome, course}
use Rattle.directive_machine.specs.Expands.{Runs}

-- the word at a place is taken, and what it is bound to
pub record IsName (t : Text) (at : ℕ) (s s' : State) (token : Token) (b : Binding) : Type 0 where
  pub name : ℕ
  pub mark : slice_get t.marks at ≡ Some (Mark.Name name)
  pub spelled : slice_get t.tokens at ≡ Some token
  pub taken : counted t at s ≡ Ok s'
  pub bound : found s'.scopes name ≡ Some b

-- a name of a value becomes the tokens of the value
abbrev pub SubstitutesValue : Type 0
SubstitutesValue = (g : Given) (part : Part) (at : ℕ) (w : Course) (s s' : State) (token : Token) (value : Value) (r : Outcome) → at < part.end → IsName (text_at w.sources part.text) at w.state s token (Binding.Value value) → handed part (value_tokens token value) token.place s ≡ Ok s' → Runs g part (at + 1) (course s' w.sources) r → Runs g part at w r

-- a name of a block becomes the tokens that the block had where it was declared
abbrev pub SubstitutesBlock : Type 0
SubstitutesBlock = (g : Given) (part : Part) (at : ℕ) (w : Course) (s s' : State) (token : Token) (block : List Token) (r : Outcome) → at < part.end → IsName (text_at w.sources part.text) at w.state s token (Binding.Block block) → handed part (map (placed token) block) token.place s ≡ Ok s' → Runs g part (at + 1) (course s' w.sources) r → Runs g part at w r
