use Rattle.scene_model.specs.Looks.{IsTexture}
use Rattle.picture_rows.proofs.Added.{all_added}
use Rattle.picture_rows.proofs.stages.with_texture.Goals as goal

pub returns : goal.returns
returns c = all_added (λ new. new.items) IsTexture c.args.textures.items c.texture.result c.appended.result c.requires c.texture.ensures c.appended.ensures
