-- Solids as they are said: from their parameters to lengths along axes. Numbers are raw: 1 unit is 65536. (Reference manual, finite and infinite solid primitives)
use Rattle.std.specs.Prelude.{ℕ, ◌+◌, ℤ, pos, ◌-ℤ◌, neg_ℤ, Bool, true, false, ◌&&◌, not, List, [], ◌∷◌, ◌≤◌, ◌^◌, int_le, unsigned_abs, if◌then◌else◌, Option, Some, Result, Ok, Err}
use Rattle.std.specs.Ordering.{int_eq}
use Rattle.fix_math.specs.declared.fix.V3.{V3}
use Rattle.fix_math.specs.Directions.{unit_of}
use Rattle.fix_math.specs.Matrices.{IsMatrixWithin}
use Rattle.fix_math.specs.Vectors.{length_of}
use Rattle.scene_lexer.specs.declared.token.Place.{Place}
use Rattle.scene_lexer.specs.declared.token.Token.{Token}
use Rattle.scene_expr.specs.declared.value.Settings.{Settings}
use Rattle.scene_expr.specs.declared.value.Value.{Value}
use Rattle.scene_expr.specs.Then.{IsThen, Is}
use Rattle.xform.specs.declared.transform.Spot.{Spot}
use Rattle.xform.specs.declared.transform.Xform.{Xform}
use Rattle.xform.specs.declared.transform.XformFault.{XformFault}
use Rattle.xform.specs.Placing.{spot_of, axis_frame_of}
use Rattle.xform.specs.Transforms.{identity}
use Rattle.scene_model.specs.declared.shape.Leaf.{Leaf}
use Rattle.scene_model.specs.declared.shape.Primitive.{Primitive}
use Rattle.scene_model.specs.Solids.{IsPrim, IsFrame, extent_of}
use Rattle.item_blocks.specs.declared.fault.ParseFault.{ParseFault}
use Rattle.item_blocks.specs.declared.words.ModifierWord.{ModifierWord}
use Rattle.item_blocks.specs.declared.words.SolidWord.{SolidWord}
use Rattle.item_blocks.specs.declared.words.Word.{Word}
use Rattle.item_blocks.specs.Tokens.{word_at, behind_comma, Behind, Reading}
use Rattle.item_blocks.specs.Parameters.{in_range, float_of, point_of, IsParameter}
use Rattle.solid_items.specs.declared.draft.LeafRole.{LeafRole}
use Rattle.solid_items.specs.declared.draft.Misplaced.{Misplaced}
use Rattle.solid_items.specs.declared.draft.SolidDraft.{SolidDraft}

-- ---- meaning

abbrev pub origin : V3
origin = record { x = pos 0; y = pos 0; z = pos 0 }

abbrev pub own_axes : List (List ℤ)
own_axes = identity (pos 65536)

-- from one point to another
abbrev pub way_of : V3 → V3 → V3
way_of from to = record { x = to.x -ℤ from.x; y = to.y -ℤ from.y; z = to.z -ℤ from.z }

abbrev pub lower_of : ℤ → ℤ → ℤ
lower_of a b = if int_le a b then a else b

-- the corner of a box with the least coordinates, and its sides, whichever two corners are given
abbrev pub lower_corner : V3 → V3 → V3
lower_corner a b = record { x = lower_of a.x b.x; y = lower_of a.y b.y; z = lower_of a.z b.z }

abbrev pub side_of : ℤ → ℤ → ℤ
side_of a b = pos (unsigned_abs (b -ℤ a))

abbrev pub sides_of : V3 → V3 → V3
sides_of a b = record { x = side_of a.x b.x; y = side_of a.y b.y; z = side_of a.z b.z }

abbrev pub height_of : V3 → V3 → ℤ
height_of a b = pos (length_of (way_of a b))

-- each solid by its parameters, and the number of the token at which they begin
abbrev pub sphere_of : V3 → ℤ → ℕ → SolidDraft
sphere_of centre r at = record { prim = Primitive.Sphere r; frame = own_axes; middle = centre; at = at }

abbrev pub box_of : V3 → V3 → ℕ → SolidDraft
box_of a b at = record { prim = Primitive.Box (sides_of a b); frame = own_axes; middle = lower_corner a b; at = at }

abbrev pub plane_of : V3 → ℤ → ℕ → SolidDraft
plane_of normal d at = record { prim = Primitive.Plane (unit_of normal) d; frame = own_axes; middle = origin; at = at }

abbrev pub cylinder_of : V3 → V3 → ℤ → Bool → ℕ → SolidDraft
cylinder_of a b r uncapped at =
    record { prim = Primitive.Cylinder r (height_of a b) uncapped; frame = axis_frame_of (way_of a b); middle = a; at = at }

abbrev pub cone_of : V3 → ℤ → V3 → ℤ → Bool → ℕ → SolidDraft
cone_of a ra b rb uncapped at =
    record { prim = Primitive.Cone ra rb (height_of a b) (unit_of (way_of a b)) uncapped; frame = axis_frame_of (way_of a b); middle = a; at = at }

-- the coefficients of x², y², z², xy, xz, yz, x, y, z and 1
abbrev pub quadric_of : V3 → V3 → V3 → ℤ → ℕ → SolidDraft
quadric_of a b c d at = record {
  prim = Primitive.Quadric (a.x ∷ a.y ∷ a.z ∷ b.x ∷ b.y ∷ b.z ∷ c.x ∷ c.y ∷ c.z ∷ d ∷ []);
  frame = own_axes;
  middle = origin;
  at = at;
}

-- ---- parameters

abbrev pub is_same : V3 → V3 → Bool
is_same a b = int_eq a.x b.x && (int_eq a.y b.y && int_eq a.z b.z)

abbrev pub differing : V3 → Place → Result V3 ParseFault → Result V3 ParseFault
differing a place (Ok b) = in_range (not (is_same a b)) b place
differing a place (Err f) = Err f

-- a point that differs from another
abbrev pub other_of : V3 → Value → Place → Result V3 ParseFault
other_of a value place = differing a place (point_of value place)

-- radii are from 0 to 4096 units
abbrev pub radius_of : Value → Place → Result ℤ ParseFault
radius_of value place = float_of (pos 0) (pos 268435456) value place

-- distances and coefficients are at most 4096 units in size
abbrev pub distance_of : Value → Place → Result ℤ ParseFault
distance_of value place = float_of (neg_ℤ (pos 268435456)) (pos 268435456) value place

abbrev pub IsPoint : List Token → Settings → Reading V3
IsPoint tokens set at r = IsParameter V3 point_of tokens set at r

abbrev pub IsOther : V3 → List Token → Settings → Reading V3
IsOther a tokens set at r = IsParameter V3 (other_of a) tokens set at r

abbrev pub IsRadius : List Token → Settings → Reading ℤ
IsRadius tokens set at r = IsParameter ℤ radius_of tokens set at r

abbrev pub IsDistance : List Token → Settings → Reading ℤ
IsDistance tokens set at r = IsParameter ℤ distance_of tokens set at r

-- a parameter behind another one: a comma between them may be left out
abbrev pub further : {A : Type 0} → (List Token → Settings → Reading A) → List Token → Settings → Reading A
further part tokens set at r = part tokens set (behind_comma tokens at) r

-- ---- grammar

abbrev pub says_open : Option Word → Bool
says_open (Some (Word.Modifier ModifierWord.Open)) = true
says_open other = false

abbrev pub behind_word : Bool → ℕ → ℕ
behind_word true at = at + 1
behind_word false at = at

-- the word `open`, which may stand right behind the parameters
abbrev pub opening : List Token → ℕ → Behind Bool
opening tokens at = record { value = says_open (word_at tokens at); next = behind_word (says_open (word_at tokens at)) at }

abbrev pub drawn : SolidDraft → ℕ → Result (Behind SolidDraft) ParseFault
drawn solid next = Ok (record { value = solid; next = next })

abbrev pub IsSphere : List Token → Settings → Reading SolidDraft
IsSphere tokens set at r =
    IsThen (Behind V3) (Behind SolidDraft) ParseFault (IsPoint tokens set at) (λ centre.
    IsThen (Behind ℤ) (Behind SolidDraft) ParseFault (further IsRadius tokens set centre.next) (λ radius.
    Is (drawn (sphere_of centre.value radius.value at) radius.next))) r

abbrev pub IsBox : List Token → Settings → Reading SolidDraft
IsBox tokens set at r =
    IsThen (Behind V3) (Behind SolidDraft) ParseFault (IsPoint tokens set at) (λ a.
    IsThen (Behind V3) (Behind SolidDraft) ParseFault (further IsPoint tokens set a.next) (λ b.
    Is (drawn (box_of a.value b.value at) b.next))) r

-- a plane's normal isn't <0, 0, 0>
abbrev pub IsPlane : List Token → Settings → Reading SolidDraft
IsPlane tokens set at r =
    IsThen (Behind V3) (Behind SolidDraft) ParseFault (IsOther origin tokens set at) (λ normal.
    IsThen (Behind ℤ) (Behind SolidDraft) ParseFault (further IsDistance tokens set normal.next) (λ d.
    Is (drawn (plane_of normal.value d.value at) d.next))) r

-- the second end differs from the first
abbrev pub IsCylinder : List Token → Settings → Reading SolidDraft
IsCylinder tokens set at r =
    IsThen (Behind V3) (Behind SolidDraft) ParseFault (IsPoint tokens set at) (λ a.
    IsThen (Behind V3) (Behind SolidDraft) ParseFault (further (IsOther a.value) tokens set a.next) (λ b.
    IsThen (Behind ℤ) (Behind SolidDraft) ParseFault (further IsRadius tokens set b.next) (λ radius.
    Is (drawn (cylinder_of a.value b.value radius.value (opening tokens radius.next).value at) (opening tokens radius.next).next)))) r

abbrev pub IsCone : List Token → Settings → Reading SolidDraft
IsCone tokens set at r =
    IsThen (Behind V3) (Behind SolidDraft) ParseFault (IsPoint tokens set at) (λ a.
    IsThen (Behind ℤ) (Behind SolidDraft) ParseFault (further IsRadius tokens set a.next) (λ ra.
    IsThen (Behind V3) (Behind SolidDraft) ParseFault (further (IsOther a.value) tokens set ra.next) (λ b.
    IsThen (Behind ℤ) (Behind SolidDraft) ParseFault (further IsRadius tokens set b.next) (λ rb.
    Is (drawn (cone_of a.value ra.value b.value rb.value (opening tokens rb.next).value at) (opening tokens rb.next).next))))) r

abbrev pub IsQuadric : List Token → Settings → Reading SolidDraft
IsQuadric tokens set at r =
    IsThen (Behind V3) (Behind SolidDraft) ParseFault (IsPoint tokens set at) (λ a.
    IsThen (Behind V3) (Behind SolidDraft) ParseFault (further IsPoint tokens set a.next) (λ b.
    IsThen (Behind V3) (Behind SolidDraft) ParseFault (further IsPoint tokens set b.next) (λ c.
    IsThen (Behind ℤ) (Behind SolidDraft) ParseFault (further IsDistance tokens set c.next) (λ d.
    Is (drawn (quadric_of a.value b.value c.value d.value at) d.next))))) r

-- the parameters of a solid, by its word
abbrev pub IsSolid : SolidWord → List Token → Settings → Reading SolidDraft
IsSolid SolidWord.Sphere = IsSphere
IsSolid SolidWord.Box = IsBox
IsSolid SolidWord.Plane = IsPlane
IsSolid SolidWord.Cylinder = IsCylinder
IsSolid SolidWord.Cone = IsCone
IsSolid SolidWord.Quadric = IsQuadric

-- ---- places

-- what holds of each solid that is read
pub record IsSound (solid : SolidDraft) : Type 0 where
  pub prim : IsPrim solid.prim
  pub axes : IsFrame solid.prim solid.frame
  pub frame : IsMatrixWithin 65537 solid.frame
  pub extent : extent_of solid.prim ≤ 2 ^ 30

-- the place of a solid, moved by a transform
abbrev pub spot_in : SolidDraft → Xform → Result Spot XformFault
spot_in solid x = spot_of x solid.frame solid.middle (extent_of solid.prim)

-- a solid as a leaf of its object
abbrev pub leaf_with : SolidDraft → Xform → LeafRole → Spot → Leaf
leaf_with solid x role spot = record {
  prim = solid.prim;
  xform = x;
  spot = spot;
  inverse = role.inverse;
  negated = role.negated;
  object = role.object;
  texture = role.texture;
  ior = role.ior;
}

abbrev pub leaf_by : SolidDraft → Xform → LeafRole → Result Spot XformFault → Result Leaf Misplaced
leaf_by solid x role (Ok spot) = Ok (leaf_with solid x role spot)
leaf_by solid x role (Err fault) = Err (Misplaced.Outside solid.at)

-- a solid in the world: where its middle leaves the world, its first parameter is at fault
abbrev pub leaf_in : SolidDraft → Xform → LeafRole → Result Leaf Misplaced
leaf_in solid x role = leaf_by solid x role (spot_in solid x)
