use Rattle.std.proofs.Common.{◌≡◌, ◌≤◌, length, map, arith}
use Rattle.std.proofs.lemmas.List.{length-map}
use Rattle.item_blocks.specs.Made.{texture_seen}
use Rattle.object_items.specs.Objects.{object_seen}
use Rattle.scene_parser.specs.Seen.{scene_seen}
use Rattle.scene_parser.proofs.Objects.{more_textures}
use Rattle.scene_parser.proofs.draft.Draft.with_object.Goals as goal

pub returns-clause-good : goal.returns-clause-good
returns-clause-good c =
    let more : length (map texture_seen c.args.self.scene.textures.items) ≤ length (map texture_seen c.in_ok-scene.scene.textures.items) =
    more_textures c.args.tokens.now c.args.self.default.looks.texture c.args.self.standard (object_seen c.args.object) (scene_seen c.args.self.scene) (scene_seen c.in_ok-scene.scene) c.in_ok-scene.ensures.found in
    let before : length (map texture_seen c.args.self.scene.textures.items) ≡ length c.args.self.scene.textures.items = length-map c.args.self.scene.textures.items texture_seen in
    let behind : length (map texture_seen c.in_ok-scene.scene.textures.items) ≡ length c.in_ok-scene.scene.textures.items = length-map c.in_ok-scene.scene.textures.items texture_seen in
    record { scene = c.in_ok-scene.ensures.valid; default = c.requires.good.default; standard = omega (arith, c.requires.good.standard, more, before, behind) }
