-- What the tokens of a frame come to: a scene that is drawn, or the fault that refuses it.
use Rattle.std.specs.Prelude.{◌≡◌, List, [], ◌∷◌, Result, Ok, Err}
use Rattle.scene_lexer.specs.declared.token.Token.{Token}
use Rattle.scene_expr.specs.declared.value.Settings.{Settings}
use Rattle.scene_model.specs.declared.scene.Sheet.{Sheet}
use Rattle.item_blocks.specs.declared.fault.ParseFault.{ParseFault}
use Rattle.scene_parser.specs.Scenes.{IsScene}
use Rattle.scene_parser.specs.Seen.{SceneView}
use Rattle.povfix.specs.declared.outcome.Fault.{Fault}
use Rattle.povfix.specs.declared.outcome.Fault.TheVariants.{SceneFault}
use Rattle.povfix.specs.Conversions.{parse_fault}

-- triangles aren't drawn yet: where there are some, that is the fault P2 at the start of the first text
abbrev pub sheets_fault : Fault
sheets_fault = SceneFault 80 2 (record { file = 0; at = 0; line = 1 })

abbrev pub without_sheets : List Sheet → SceneView → Result SceneView Fault
without_sheets [] scene = Ok scene
without_sheets (sheet ∷ sheets) scene = Err sheets_fault

-- a scene that was read is drawn, but for one with triangles
abbrev pub drawable : Result SceneView ParseFault → Result SceneView Fault
drawable (Ok scene) = without_sheets scene.sheets scene
drawable (Err fault) = Err (parse_fault fault)

-- what tokens come to, with what the frame tells their expressions
pub record IsRead (tokens : List Token) (set : Settings) (r : Result SceneView Fault) : Type 0 where
  pub parsed : Result SceneView ParseFault
  pub scene : IsScene tokens set parsed
  pub drawn : r ≡ drawable parsed
