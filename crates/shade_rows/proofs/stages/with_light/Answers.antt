use Rattle.scene_model.specs.Looks.{IsLight}
use Rattle.shade_rows.proofs.Added.{all_added}
use Rattle.shade_rows.proofs.stages.with_light.Goals as goal

pub returns : goal.returns
returns c = all_added (λ new. new.items) IsLight c.args.lights.items c.args.one c.added.result c.requires.lights c.requires.one c.added.ensures
