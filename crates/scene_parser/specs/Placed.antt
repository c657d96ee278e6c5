-- An object in the scene: its solids and triangles at their places in the world, and its textures over the default in force.
use Rattle.std.specs.Prelude.{ℕ, ◌+◌, Bool, List, [], ◌∷◌, ◌++◌, map, length, nat_le, slice_get, if◌then◌else◌, Option, Some, None, Result, Ok, Err}
use Rattle.scene_lexer.specs.declared.token.Token.{Token}
use Rattle.scene_expr.specs.Heads.{place_at}
use Rattle.xform.specs.declared.transform.Xform.{Xform}
use Rattle.xform.specs.declared.transform.XformFault.{XformFault}
use Rattle.xform.specs.Transforms.{start_of}
use Rattle.scene_model.specs.declared.scene.Object.{Object}
use Rattle.scene_model.specs.declared.scene.Sheet.{Sheet}
use Rattle.scene_model.specs.declared.shape.Leaf.{Leaf}
use Rattle.scene_model.specs.declared.shape.Shape.{Shape}
use Rattle.item_blocks.specs.declared.fault.ParseFault.{ParseFault}
use Rattle.item_blocks.specs.declared.pigment.PigmentDraft.{PigmentDraft}
use Rattle.item_blocks.specs.declared.texture.TextureDraft.{TextureDraft}
use Rattle.item_blocks.specs.Finishes.{on_ok}
use Rattle.item_blocks.specs.Made.{TextureView, texture_of, ior_of}
use Rattle.solid_items.specs.declared.draft.LeafRole.{LeafRole}
use Rattle.solid_items.specs.declared.draft.Misplaced.{Misplaced}
use Rattle.solid_items.specs.Sheets.{and_then, sheet_in}
use Rattle.solid_items.specs.Solids.{leaf_in}
use Rattle.object_items.specs.declared.tables.GivenTexture.{GivenTexture}
use Rattle.object_items.specs.declared.tables.LeafDraft.{LeafDraft}
use Rattle.object_items.specs.declared.tables.SheetPart.{SheetPart}
use Rattle.object_items.specs.Held.{Held}
use Rattle.object_items.specs.Statements.{Drawn}
use Rattle.object_items.specs.Trees.{Tree}
use Rattle.scene_parser.specs.declared.placed.Numbers.{Numbers}
use Rattle.scene_parser.specs.Seen.{ObjectView, SceneView}

-- ---- each solid and each triangle at its place

-- a thing's transform, behind all its steps
abbrev pub moved_by : Option Xform → Xform
moved_by None = start_of
moved_by (Some x) = x

abbrev pub thing_at : List Xform → ℕ → Xform
thing_at things n = moved_by (slice_get things n)

-- the texture that is given, or the default in force
abbrev pub texture_number : Numbers → Option ℕ → ℕ
texture_number numbers None = numbers.standard
texture_number numbers (Some n) = numbers.first + n

abbrev pub role_of : Numbers → LeafDraft → LeafRole
role_of numbers leaf = record {
  inverse = leaf.inverse;
  negated = leaf.negated;
  object = numbers.object;
  texture = texture_number numbers leaf.texture;
  ior = ior_of leaf.interior;
}

abbrev pub leaf_placed : Numbers → List Xform → LeafDraft → Result Leaf Misplaced
leaf_placed numbers things leaf = leaf_in leaf.solid (thing_at things leaf.thing) (role_of numbers leaf)

abbrev pub sheet_placed : Numbers → List Xform → Bool → SheetPart → Result Sheet Misplaced
sheet_placed numbers things no_shadow part =
    sheet_in part.sheet (thing_at things part.thing) (texture_number numbers part.texture) (ior_of part.interior) no_shadow

-- each of a list, or the first fault
abbrev pub each : {A B E : Type 0} → (A → Result B E) → List A → Result (List B) E
each f [] = Ok []
each f (x ∷ xs) = and_then (f x) (λ y. on_ok (each f xs) (λ ys. y ∷ ys))

-- a list with those of a further one, up to its fault; and what a list and a fault come to
abbrev pub appended : {B E : Type 0} → List B → Result (List B) E → Result (List B) E
appended ys (Ok zs) = Ok (ys ++ zs)
appended ys (Err e) = Err e

abbrev pub unless : {B E : Type 0} → Option E → B → Result B E
unless None b = Ok b
unless (Some e) b = Err e

-- ---- of the first solid and the first triangle that can't be placed the one that is written before is at fault

pub record Placed : Type 0 where
  pub leaves : List Leaf
  pub sheets : List Sheet

abbrev pub token_of : Misplaced → ℕ
token_of (Misplaced.Outside at) = at
token_of (Misplaced.NoNormal at) = at

abbrev pub earlier : Misplaced → Misplaced → Misplaced
earlier a b = if nat_le (token_of a) (token_of b) then a else b

abbrev pub first_of : Option Misplaced → Option Misplaced → Option Misplaced
first_of None sheet = sheet
first_of (Some a) None = Some a
first_of (Some a) (Some b) = Some (earlier a b)

abbrev pub both : Result (List Leaf) Misplaced → Result (List Sheet) Misplaced → Result Placed Misplaced
both (Ok leaves) (Ok sheets) = Ok (record { leaves = leaves; sheets = sheets })
both (Ok leaves) (Err b) = Err b
both (Err a) (Ok sheets) = Err a
both (Err a) (Err b) = Err (earlier a b)

abbrev pub parts_placed : Numbers → Held → Bool → Result Placed Misplaced
parts_placed numbers held no_shadow =
    both (each (leaf_placed numbers held.things) held.leaves) (each (sheet_placed numbers held.things no_shadow) held.sheets)

-- what leaves the world is at fault at the token at which it begins, and a normal that becomes <0, 0, 0> at its own
abbrev pub misplaced_at : List Token → Misplaced → ParseFault
misplaced_at tokens (Misplaced.Outside at) = ParseFault.Xform (place_at tokens at) XformFault.AnchorRange
misplaced_at tokens (Misplaced.NoNormal at) = ParseFault.ValueRange (place_at tokens at)

-- ---- textures

-- a pigment stands where its thing was moved
abbrev pub pigment_at : List Xform → Option ℕ → Option PigmentDraft → Option PigmentDraft
pigment_at things (Some n) (Some pigment) = Some (record pigment { xform = thing_at things n })
pigment_at things thing pigment = pigment

abbrev pub settled : List Xform → GivenTexture → TextureDraft
settled things given = record given.texture { pigment = pigment_at things given.thing given.texture.pigment }

-- each texture that is given, over the default in force
abbrev pub textures_of : TextureDraft → List Xform → List GivenTexture → List TextureView
textures_of default things given = map (λ one. texture_of (settled things one) default) given

-- ---- the scene with the object

-- triangles alone make no object
abbrev pub objects_of : Option Tree → Bool → List ObjectView
objects_of None no_shadow = []
objects_of (Some tree) no_shadow = record { tree = tree; no_shadow = no_shadow } ∷ []

-- and the same in a scene
abbrev pub object_row : Option Shape → Bool → List Object
object_row None no_shadow = []
object_row (Some shape) no_shadow = record { shape = shape; no_shadow = no_shadow } ∷ []

abbrev pub scene_with : SceneView → TextureDraft → Drawn → Placed → SceneView
scene_with scene default object placed = record scene {
  objects = scene.objects ++ objects_of object.tree object.no_shadow;
  leaves = scene.leaves ++ placed.leaves;
  sheets = scene.sheets ++ placed.sheets;
  textures = scene.textures ++ textures_of default object.held.things object.held.textures;
}

abbrev pub numbers_in : SceneView → ℕ → Numbers
numbers_in scene standard = record { object = length scene.objects; standard = standard; first = length scene.textures }

abbrev pub scene_or : List Token → (Placed → SceneView) → Result Placed Misplaced → Result SceneView ParseFault
scene_or tokens with (Ok placed) = Ok (with placed)
scene_or tokens with (Err misplaced) = Err (misplaced_at tokens misplaced)

-- an object that was read, over the default texture of this number; or the fault of what can't be placed
abbrev pub with_object : List Token → TextureDraft → ℕ → Drawn → SceneView → Result SceneView ParseFault
with_object tokens default standard object scene =
    scene_or tokens (scene_with scene default object) (parts_placed (numbers_in scene standard) object.held object.no_shadow)
