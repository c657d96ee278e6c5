-- A black picture of eight blocks.
use Rattle.std.specs.Prelude.{ℕ, List, replicate}
use Rattle.state_file.specs.declared.geometry.Geometry.{Geometry}

abbrev pub blank_geometry : Geometry
blank_geometry = record { width = 256; height = 32; bits = 8 }

unfoldable pub blank_picture : List ℕ
blank_picture = replicate 24576 0
