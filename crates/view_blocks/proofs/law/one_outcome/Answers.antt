use Rattle.view_blocks.specs.OneItem.{one_lamp, one_camera}
use Rattle.view_blocks.proofs.law.one_outcome.Goals as goal

pub returns-clause-lamp : goal.returns-clause-lamp
returns-clause-lamp c = λ tokens set. one_lamp tokens set

pub returns-clause-camera : goal.returns-clause-camera
returns-clause-camera c = λ tokens set. one_camera tokens set
