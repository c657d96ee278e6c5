-- Solids with their parts in place.
use Rattle.std.proofs.Common.{◌≡◌, ℕ, ℤ, pos, Bool, List, refl}
use Rattle.fix_math.specs.declared.fix.V3.{V3}
use Rattle.fix_math.specs.Directions.{unit_of}
use Rattle.fix_math.specs.Vectors.{length_of}
use Rattle.xform.specs.Placing.{axis_frame_of}
use Rattle.scene_model.specs.declared.shape.Primitive.{Primitive}
use Rattle.item_blocks.specs.Tokens.{Behind}
use Rattle.solid_items.specs.Solids.{way_of, drawn, cylinder_of, cone_of}

pub cylinder_is : (a b v : V3) (r h : ℤ) (frame : List (List ℤ)) (at : ℕ) (o o' : Behind Bool) → frame ≡ axis_frame_of v → h ≡ pos (length_of v) → v ≡ way_of a b → o ≡ o' →
    drawn (record { prim = Primitive.Cylinder r h o.value; frame = frame; middle = a; at = at }) o.next ≡ drawn (cylinder_of a b r o'.value at) o'.next
cylinder_is a b v r h frame at o o' axes high way end = rw (axes, high, way, end) refl

pub cone_is : (a b v axis : V3) (ra rb h : ℤ) (frame : List (List ℤ)) (at : ℕ) (o o' : Behind Bool) → frame ≡ axis_frame_of v → h ≡ pos (length_of v) → axis ≡ unit_of v → v ≡ way_of a b → o ≡ o' →
    drawn (record { prim = Primitive.Cone ra rb h axis o.value; frame = frame; middle = a; at = at }) o.next ≡ drawn (cone_of a ra b rb o'.value at) o'.next
cone_is a b v axis ra rb h frame at o o' axes high is way end = rw (axes, high, is, way, end) refl
