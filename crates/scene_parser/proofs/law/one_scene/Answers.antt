use Rattle.scene_parser.specs.OneScene.{one_scene}
use Rattle.scene_parser.proofs.law.one_scene.Goals as goal

pub returns : goal.returns
returns c = record { scene = λ tokens set. one_scene tokens set (c.one_outcome.ensures tokens set) }
