-- What is made from here on comes to the whole.
use Rattle.std.proofs.Common.{◌≡◌, ◌++◌, map, drop}
use Rattle.std.specs.List.{All}
use Rattle.scene_model.specs.Looks.{IsTexture}
use Rattle.item_blocks.specs.Made.{texture_seen}
use Rattle.scene_parser.specs.Placed.{textures_of}
use Rattle.scene_parser.proofs.placed.place_textures.Given as goal

abbrev pub invariant-loop-one : goal.invariant-loop-one
invariant-loop-one l = record {
  same : map texture_seen l.initial.textures.items ++ textures_of l.default l.things l.given ≡ map texture_seen l.textures.items ++ textures_of l.default l.things (drop l.one-index l.given);
  valid : All IsTexture l.textures.items;
}
