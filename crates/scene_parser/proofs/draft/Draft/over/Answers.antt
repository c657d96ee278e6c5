use Rattle.std.proofs.Common.{◌≡◌, ◌+◌, [], ◌∷◌, length, refl, sym, ap, ◌∙◌, subst, arith, length-append}
use Rattle.item_blocks.specs.Sound.{IsSoundTexture}
use Rattle.item_blocks.specs.SoundBlocks.{no_texture_sound}
use Rattle.scene_parser.proofs.Valids.{clad_valid}
use Rattle.scene_parser.proofs.draft.Draft.over.Goals as goal

pub returns-clause-good : goal.returns-clause-good
returns-clause-good c =
    let many : length c.in_ok-scene.field-0.items ≡ length c.args.scene.textures.items + 1 = ap length c.in_ok-scene.ensures.found ∙ length-append c.args.scene.textures.items (c.in_ok-texture.texture ∷ []) in
    record {
      scene = clad_valid c.args.scene _ c.in_ok-texture.texture c.requires.scene (c.in_ok-texture.ensures.valid (subst IsSoundTexture (sym c.no_texture.ensures) no_texture_sound) c.requires.default.texture) (record { camera = refl; lights = refl; objects = refl; leaves = refl; sheets = refl; background = refl; ambient_light = refl; levels = refl; adc = refl }) c.in_ok-scene.ensures.found;
      default = c.requires.default;
      standard = omega (arith, many, c.in_ok-standard.ensures.found);
    }
