-- What rays meet of a scene that is kept.
use Rattle.std.specs.Prelude.{[]}
use Rattle.csg_hits.specs.declared.built.Built.{Built}
pub use Rattle.csg_hits.specs.Kept.{leaves_of, objects_of}
use Rattle.csg_hits.specs.Pieces.{Pieces}
use Rattle.csg_hits.specs.Surfaces.{Surfaces}

-- its leaves and objects
abbrev pub surfaces_in : Built → Surfaces
surfaces_in built = record { leaves = leaves_of built.leaves.items; objects = objects_of built.objects.items; sheets = [] }

-- its leaves, and the pieces of its objects
abbrev pub pieces_in : Built → Pieces
pieces_in built = record { leaves = leaves_of built.leaves.items; pieces = built.pieces.items }
