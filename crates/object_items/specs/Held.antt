-- What an object holds while it is read, and what each part of a statement changes of it.
use Rattle.std.specs.Prelude.{ℕ, ◌+◌, ◌-◌, Bool, true, false, not, List, [], ◌∷◌, ◌++◌, take, drop, map, length, if◌then◌else◌, Option, Some, None}
use Rattle.xform.specs.declared.transform.Xform.{Xform}
use Rattle.xform.specs.Transforms.{start_of}
use Rattle.solid_items.specs.declared.draft.SheetDraft.{SheetDraft}
use Rattle.solid_items.specs.declared.draft.SolidDraft.{SolidDraft}
use Rattle.item_blocks.specs.declared.pigment.PigmentDraft.{PigmentDraft}
use Rattle.item_blocks.specs.declared.texture.Interior.{Interior}
use Rattle.item_blocks.specs.declared.texture.MaterialDraft.{MaterialDraft}
use Rattle.item_blocks.specs.declared.texture.TextureDraft.{TextureDraft}
use Rattle.item_blocks.specs.Tokens.{or_else}
use Rattle.object_items.specs.declared.tables.GivenTexture.{GivenTexture}
use Rattle.object_items.specs.declared.tables.LeafDraft.{LeafDraft}
use Rattle.object_items.specs.declared.tables.Marks.{Marks}
use Rattle.object_items.specs.declared.tables.SheetPart.{SheetPart}

-- ---- the tables of an object, each in the order as written. A thing is what a step moves: a leaf, a triangle or a mesh, and the pigment of a texture.

pub record Held : Type 0 where
  pub things : List Xform
  pub leaves : List LeafDraft
  pub sheets : List SheetPart
  pub textures : List GivenTexture
  -- how many leaves and triangles stand in the objects before
  pub leaves_before : ℕ
  pub sheets_before : ℕ

abbrev pub nothing_held : ℕ → ℕ → Held
nothing_held leaves sheets = record { things = []; leaves = []; sheets = []; textures = []; leaves_before = leaves; sheets_before = sheets }

abbrev pub marks_of : Held → Marks
marks_of held = record { things = length held.things; leaves = length held.leaves; sheets = length held.sheets }

abbrev pub with_thing : Xform → Held → Held
with_thing x held = record held { things = held.things ++ x ∷ [] }

-- the things from a number on are moved, or the last one is taken back
abbrev pub with_moved : ℕ → List Xform → Held → Held
with_moved from xforms held = record held { things = take from held.things ++ xforms }

abbrev pub without_last : Held → Held
without_last held = record held { things = take (length held.things - 1) held.things }

-- a solid, whose transform is a thing of its own
abbrev pub with_leaf : SolidDraft → Held → Held
with_leaf solid held = record (with_thing start_of held) { leaves = held.leaves ++ record { solid = solid; thing = length held.things; inverse = false; negated = false; texture = None; interior = None } ∷ [] }

-- a triangle that is moved by a thing
abbrev pub with_sheet : SheetDraft → ℕ → Option ℕ → Held → Held
with_sheet sheet thing texture held = record held { sheets = held.sheets ++ record { sheet = sheet; thing = thing; texture = texture; interior = None } ∷ [] }

-- ---- the looks of a statement, where it is closed

abbrev pub only_if : {A : Type 0} → Bool → A → Option A
only_if true a = Some a
only_if false a = None

abbrev pub either_given : {A B : Type 0} → Option A → Option B → Bool
either_given None None = false
either_given a b = true

abbrev pub is_given : TextureDraft → Bool
is_given texture = either_given texture.pigment texture.finish

-- from a number on, each is changed
abbrev pub from_on : {A : Type 0} → ℕ → (A → A) → List A → List A
from_on n change xs = take n xs ++ map change (drop n xs)

-- a texture counts for all leaves and triangles of the statement that have none of their own
abbrev pub clad_leaf : ℕ → LeafDraft → LeafDraft
clad_leaf number leaf = record leaf { texture = or_else leaf.texture (Some number) }

abbrev pub clad_sheet : ℕ → SheetPart → SheetPart
clad_sheet number part = record part { texture = or_else part.texture (Some number) }

abbrev pub clad : Marks → ℕ → Held → Held
clad marks number held = record held { leaves = from_on marks.leaves (clad_leaf number) held.leaves; sheets = from_on marks.sheets (clad_sheet number) held.sheets }

-- and so does an interior
abbrev pub fill_leaf : Interior → LeafDraft → LeafDraft
fill_leaf interior leaf = record leaf { interior = or_else leaf.interior (Some interior) }

abbrev pub fill_sheet : Interior → SheetPart → SheetPart
fill_sheet interior part = record part { interior = or_else part.interior (Some interior) }

abbrev pub filled : Marks → Option Interior → Held → Held
filled marks None held = held
filled marks (Some interior) held = record held { leaves = from_on marks.leaves (fill_leaf interior) held.leaves; sheets = from_on marks.sheets (fill_sheet interior) held.sheets }

-- the pigment of a texture that is given becomes a thing, which the steps of outer statements move
abbrev pub pigment_thing : Option PigmentDraft → Held → Option ℕ
pigment_thing None held = None
pigment_thing (Some pigment) held = Some (length held.things)

abbrev pub with_pigment : Option PigmentDraft → Held → Held
with_pigment None held = held
with_pigment (Some pigment) held = with_thing pigment.xform held

abbrev pub with_texture : TextureDraft → Held → Held
with_texture texture held = record (with_pigment texture.pigment held) { textures = held.textures ++ record { texture = texture; thing = pigment_thing texture.pigment held } ∷ [] }

abbrev pub dressed : Marks → TextureDraft → Held → Held
dressed marks texture held = if is_given texture then clad marks (length held.textures) (with_texture texture held) else held

abbrev pub closed_looks : Marks → MaterialDraft → Held → Held
closed_looks marks looks held = filled marks looks.interior (dressed marks looks.texture held)

-- ---- inversions: going into the object is going out of these leaves, and the other way round

abbrev pub turn_leaf : LeafDraft → LeafDraft
turn_leaf leaf = record leaf { negated = not leaf.negated }

abbrev pub turned_from : ℕ → Held → Held
turned_from n held = record held { leaves = from_on n turn_leaf held.leaves }

-- a leaf that stands alone and is inverted holds where it didn't
abbrev pub flip_leaf : LeafDraft → LeafDraft
flip_leaf leaf = record leaf { inverse = not leaf.inverse }

abbrev pub flipped_from : ℕ → Held → Held
flipped_from n held = record held { leaves = from_on n flip_leaf held.leaves }

-- ---- numbers in the scene, of the leaf and of the triangle that is read next

abbrev pub leaf_number : Held → ℕ
leaf_number held = held.leaves_before + length held.leaves

abbrev pub sheet_number : Held → ℕ
sheet_number held = held.sheets_before + length held.sheets
