-- The directives of a frame come to one thing, and so do its tokens.
use Rattle.std.proofs.Common.{◌≡◌, ℕ, List, Option, Result, Ok, Err, sym, ap, ◌∙◌}
use Rattle.scene_lexer.specs.declared.token.Token.{Token}
use Rattle.scene_expr.specs.declared.value.Settings.{Settings}
use Rattle.item_blocks.specs.declared.fault.ParseFault.{ParseFault}
use Rattle.scene_parser.specs.Scenes.{IsScene}
use Rattle.scene_parser.specs.Seen.{SceneView}
use Rattle.directive_machine.specs.declared.texts.Text.{Text}
use Rattle.directive_machine.specs.Course.{Given, Course, Halted}
use Rattle.directive_machine.specs.Expansions.{Handed, handed, ComesTo, IsExpansion}
use Rattle.povfix.specs.declared.outcome.Fault.{Fault}
use Rattle.povfix.specs.Frames.{Frame, given_for, generated_for, IsExpanded, IsStopped}
use Rattle.povfix.specs.Scenes.{drawable, IsRead}

abbrev pub OneExpansion : Type 0
OneExpansion = (g : Given) (name : List ℕ) (bytes : Option (List ℕ)) (r r' : Result Course Halted) → IsExpansion g name bytes r → IsExpansion g name bytes r' → r ≡ r'

module _ (law : OneExpansion) (frame : Frame) (texts : List Text) where
  pub one_expanded : (a b : Handed) → IsExpanded frame texts a → IsExpanded frame texts b → a ≡ b
  one_expanded a b (ComesTo.comes w is e) (ComesTo.comes w' is' e') =
      let same : w ≡ w' = cc (law (given_for frame texts) frame.input (generated_for frame.generate) (Ok w) (Ok w') e e') in
      sym is ∙ ap handed same ∙ is'

  pub one_stopped : (a b : Halted) → IsStopped frame texts a → IsStopped frame texts b → a ≡ b
  one_stopped a b e e' = cc (law (given_for frame texts) frame.input (generated_for frame.generate) (Err a) (Err b) e e')

  pub not_both : (a : Handed) (b : Halted) → IsExpanded frame texts a → IsStopped frame texts b → ⊥
  not_both a b (ComesTo.comes w is e) e' = cc (law (given_for frame texts) frame.input (generated_for frame.generate) (Ok w) (Err b) e e')

abbrev pub OneScene : Type 0
OneScene = (tokens : List Token) (set : Settings) (r r' : Result SceneView ParseFault) → IsScene tokens set r → IsScene tokens set r' → r ≡ r'

pub one_read : OneScene → (tokens : List Token) (set : Settings) (r r' : Result SceneView Fault) → IsRead tokens set r → IsRead tokens set r' → r ≡ r'
one_read law tokens set r r' p q = p.drawn ∙ ap drawable (law tokens set p.parsed q.parsed p.scene q.scene) ∙ sym q.drawn
