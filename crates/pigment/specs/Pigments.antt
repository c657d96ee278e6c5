-- The colour of a pigment at a point of the world. (Reference manual, pigment)
use Rattle.std.specs.Prelude.{ℤ, List, [], slice_index_or, if◌then◌else◌}
use Rattle.fix_math.specs.declared.fix.V3.{V3}
use Rattle.scene_model.specs.declared.texture.Pattern.{Pattern}
use Rattle.scene_model.specs.declared.texture.Pattern.TheVariants.{Plain, Checker, Brick, Hexagon, Gradient}
use Rattle.scene_model.specs.declared.texture.Pigment.{Pigment}
use Rattle.pigment.specs.Cells.{checker_place, past_edge, shows_mortar, hexagon_place}
use Rattle.pigment.specs.Maps.{gradient_at, map_colour}
use Rattle.pigment.specs.Spaces.{in_pattern}

-- red, green, blue, filter and transmit at a point of the pattern's space
abbrev pub pattern_colour : Pattern → V3 → List ℤ
pattern_colour (Plain colour) q = colour
pattern_colour (Checker colours) q = slice_index_or colours (checker_place q) []
pattern_colour (Brick mortar brick size width) q = if shows_mortar width size (past_edge q) then mortar else brick
pattern_colour (Hexagon colours) q = slice_index_or colours (hexagon_place q) []
pattern_colour (Gradient axis map) q = map_colour map.items (gradient_at axis q)

unfoldable pub colour_of : Pigment → List ℤ → List ℤ
colour_of pigment p = pattern_colour pigment.pattern (in_pattern pigment.xform p)
