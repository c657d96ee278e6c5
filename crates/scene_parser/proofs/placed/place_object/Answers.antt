use Rattle.std.proofs.Common.{◌<◌, ◌+◌, length, refl, sym, ap, ◌∙◌, subst}
use Rattle.std.proofs.lemmas.List.{length-map}
use Rattle.item_blocks.specs.Made.{texture_seen}
use Rattle.scene_parser.specs.declared.placed.Numbers.{Numbers}
use Rattle.scene_parser.specs.Placed.{leaf_placed, sheet_placed, each}
use Rattle.scene_parser.specs.Seen.{object_view}
use Rattle.scene_parser.proofs.Places.{both_leaves, both_sheets, count_of}
use Rattle.scene_parser.proofs.Valids.{grown_valid}
use Rattle.scene_parser.proofs.placed.place_object.Goals as goal

pub returns-clause-valid : goal.returns-clause-valid
returns-clause-valid c =
    let parts = c.in_ok-leaves.ensures.found in
    let numbers : Numbers = c.in_ok-numbers.numbers in
    let held = c.args.object.tables in
    let own = ap (λ (n : Numbers). n.object) c.in_ok-numbers.ensures.found ∙ length-map c.args.scene.objects.items object_view in
    let first = ap (λ (n : Numbers). n.first) c.in_ok-numbers.ensures.found ∙ length-map c.args.scene.textures.items texture_seen in
    let standard = ap (λ (n : Numbers). n.standard) c.in_ok-numbers.ensures.found in
    grown_valid c.args.scene _ c.args.object numbers parts.0.leaves parts.0.sheets c.requires.valid c.requires.object (record {
      camera = refl;
      lights = refl;
      background = refl;
      ambient_light = refl;
      levels = refl;
      adc = refl;
      all_objects = c.in_ok-objects.ensures.found;
      more_leaves = parts.2;
      more_sheets = parts.3;
      textures = count_of c.args.default.now c.xforms.result.now c.args.scene.textures.items c.in_ok-textures.textures.items c.textures-2.result.now c.in_ok-textures.ensures.found ∙ ap (λ l. length c.args.scene.textures.items + length l) c.textures-2.ensures;
      all_leaves = c.in_ok-leaves.ensures.leaves;
      all_sheets = c.in_ok-leaves.ensures.sheets;
      all_textures = c.in_ok-textures.ensures.valid;
      placed_leaves = both_leaves (each (leaf_placed numbers held.things) held.leaves) (each (sheet_placed numbers held.things c.args.object.no_shadow) held.sheets) parts.0 parts.1;
      placed_sheets = both_sheets (each (leaf_placed numbers held.things) held.leaves) (each (sheet_placed numbers held.things c.args.object.no_shadow) held.sheets) parts.0 parts.1;
      own = own;
      first = first;
      standard = subst (λ n. n < length c.args.scene.textures.items) (sym standard) c.requires.standard;
    })
