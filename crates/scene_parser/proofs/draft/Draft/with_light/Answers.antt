use Rattle.std.proofs.Common.{◌≡◌, ◌+◌, [], ◌∷◌, length, sym, ap, ◌∙◌, subst, arith, length-append}
use Rattle.std.specs.List.{All}
use Rattle.std.proofs.lemmas.List.Elements.{All-append, All-cons, All-nil}
use Rattle.scene_model.specs.Looks.{IsLight}
use Rattle.scene_parser.proofs.draft.Draft.with_light.Goals as goal

pub returns-clause-good : goal.returns-clause-good
returns-clause-good c =
    let v = c.requires.good.scene in
    let light = c.args.light.now in
    let many : length c.in_ok-scene.field-0.items ≡ length c.args.self.scene.lights.items + 1 = ap length c.in_ok-scene.ensures.found ∙ length-append c.args.self.scene.lights.items (light ∷ []) in
    record {
      scene = record {
        camera = v.camera;
        lights = subst (λ l. All IsLight l) (sym c.in_ok-scene.ensures.found) (All-append IsLight c.args.self.scene.lights.items (light ∷ []) v.lights (All-cons IsLight light [] c.requires.light (All-nil IsLight)));
        few_lights = omega (arith, many, c.requires.few);
        objects = v.objects;
        leaves = v.leaves;
        few_leaves = v.few_leaves;
        places = v.places;
        sheets = v.sheets;
        few_sheets = v.few_sheets;
        textures = v.textures;
        leaf_textures = v.leaf_textures;
        sheet_textures = v.sheet_textures;
        background = v.background;
        ambient_light = v.ambient_light;
        levels_low = v.levels_low;
        levels_high = v.levels_high;
        adc = v.adc;
      };
      default = c.requires.good.default;
      standard = c.requires.good.standard;
    }
