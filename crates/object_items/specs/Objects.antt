-- Objects: solids, triangles and meshes, groups, and objects in an object of their own. (Reference manual, objects and constructive solid geometry)
use Rattle.std.specs.Prelude.{◌≡◌, ℕ, zero, suc, ◌+◌, ◌-◌, Bool, true, false, ◌&&◌, List, [], ◌∷◌, ◌++◌, map, length, if◌then◌else◌, Option, Some, None, Ok, Err}
use Rattle.scene_lexer.specs.declared.token.Token.{Token}
use Rattle.scene_expr.specs.declared.value.Settings.{Settings}
use Rattle.scene_expr.specs.Then.{IsThen, Is}
use Rattle.scene_model.specs.declared.shape.Op.{Op}
use Rattle.scene_model.specs.declared.shape.Shape.{Shape}
use Rattle.item_blocks.specs.declared.fault.ParseFault.{ParseFault}
use Rattle.item_blocks.specs.declared.fault.Wanted.{Wanted}
use Rattle.item_blocks.specs.declared.words.BlockWord.{BlockWord}
use Rattle.item_blocks.specs.declared.words.Word.{Word}
use Rattle.item_blocks.specs.Blocks.{Statement}
use Rattle.item_blocks.specs.Tokens.{word_at, opened, Behind, Reading}
use Rattle.object_items.specs.declared.object.ObjectDraft.{ObjectDraft}
use Rattle.object_items.specs.declared.object.ObjectWord.{ObjectWord}
use Rattle.object_items.specs.declared.object.Part.{Part}
use Rattle.object_items.specs.Held.{Held, nothing_held, only_if, marks_of, turned_from}
use Rattle.object_items.specs.Sheets.{IsTriangleObject, IsMeshObject}
use Rattle.object_items.specs.Statements.{Drawn, Drawing, lacking, IsRow, IsEnded, IsLeafObject}
use Rattle.object_items.specs.Trees.{Tree, trees_of, tree_of, tree_seen}

-- ---- words

-- the word of an object; triangles and meshes have no inside, and may stand in unions alone
abbrev pub object_word : Option Word → Bool → Option ObjectWord
object_word (Some (Word.Solid word)) sheets = Some (ObjectWord.Solid word)
object_word (Some Word.Triangle) sheets = only_if sheets (ObjectWord.Triangle false)
object_word (Some Word.SmoothTriangle) sheets = only_if sheets (ObjectWord.Triangle true)
object_word (Some (Word.Block BlockWord.Mesh)) sheets = only_if sheets ObjectWord.Mesh
object_word (Some (Word.Group op)) sheets = Some (ObjectWord.Group op)
object_word (Some (Word.Block BlockWord.Object)) sheets = Some ObjectWord.Holder
object_word other sheets = None

abbrev pub is_object : Option ObjectWord → Bool
is_object (Some word) = true
is_object None = false

abbrev pub begins_object : Bool → List Token → ℕ → Bool
begins_object sheets tokens at = is_object (object_word (word_at tokens at) sheets)

-- ---- the parts of a group

abbrev pub is_union : Op → Bool
is_union Op.Union = true
is_union other = false

abbrev pub is_difference : Op → Bool
is_difference Op.Difference = true
is_difference other = false

-- the parts that are read: all that is held, the trees of those that have one, and whether any part is read
pub record Parts : Type 0 where
  pub held : Held
  pub trees : List Tree
  pub begun : Bool

abbrev pub no_parts : Held → Parts
no_parts held = record { held = held; trees = []; begun = false }

abbrev pub row_of : Option Tree → List Tree
row_of None = []
row_of (Some tree) = tree ∷ []

-- a part more: behind the first one of a difference, going into the object is going out of the part
abbrev pub joined : Op → Parts → Drawn → Parts
joined op parts drawn = record {
  held = if parts.begun && is_difference op then turned_from (length parts.held.leaves) drawn.held else drawn.held;
  trees = parts.trees ++ row_of drawn.tree;
  begun = true;
}

-- a union of triangles alone has no tree
abbrev pub group_of : Op → List Tree → Option Tree
group_of op [] = None
group_of op (tree ∷ trees) = Some (Tree.group op (trees_of (tree ∷ trees)) false)

-- ---- what may stand in an object: told whether triangles may, and what is wanted where no object stands

abbrev pub Inside : Type 1
Inside = Bool → Wanted → Drawing

abbrev pub IsNext : Inside → Bool → Op → Statement Parts
IsNext inside sheets op parts at r =
    IsThen (Behind Drawn) (Behind Parts) ParseFault (inside sheets Wanted.Part parts.held at) (λ drawn. Is (Ok (record { value = joined op parts drawn.value; next = drawn.next }))) r

-- one part of a group or more
abbrev pub IsParts : List Token → Inside → Bool → Op → Statement Parts
IsParts tokens inside sheets op parts at r = IsRow (begins_object sheets tokens) (IsNext inside sheets op) parts at r

-- a group, from its word on
abbrev pub IsGroupObject : List Token → Settings → ℕ → Inside → Bool → Op → Drawing
IsGroupObject tokens set depths inside sheets op held at r =
    IsThen ℕ (Behind Drawn) ParseFault (Is (opened tokens depths (at + 1))) (λ start.
    IsThen (Behind Parts) (Behind Drawn) ParseFault (IsParts tokens inside (sheets && is_union op) op (no_parts held) start) (λ parts.
    IsEnded tokens set (depths - 1) false (marks_of held) (group_of op parts.value.trees) false parts.value.held parts.next)) r

-- `object` holds one object, whose no_shadow is its own too
abbrev pub IsHolder : List Token → Settings → ℕ → Inside → Bool → Drawing
IsHolder tokens set depths inside sheets held at r =
    IsThen ℕ (Behind Drawn) ParseFault (Is (opened tokens depths (at + 1))) (λ start.
    IsThen (Behind Drawn) (Behind Drawn) ParseFault (inside sheets Wanted.Item held start) (λ part.
    IsEnded tokens set (depths - 1) false (marks_of held) part.value.tree part.value.no_shadow part.value.held part.next)) r

-- ---- an object by its word

abbrev pub IsObjectBy : List Token → Settings → ℕ → Inside → Bool → ObjectWord → Drawing
IsObjectBy tokens set depths inside sheets (ObjectWord.Solid word) held at r = IsLeafObject tokens set depths word held at r
IsObjectBy tokens set depths inside sheets (ObjectWord.Triangle smooth) held at r = IsTriangleObject tokens set depths smooth held at r
IsObjectBy tokens set depths inside sheets ObjectWord.Mesh held at r = IsMeshObject tokens set depths held at r
IsObjectBy tokens set depths inside sheets (ObjectWord.Group op) held at r = IsGroupObject tokens set depths inside sheets op held at r
IsObjectBy tokens set depths inside sheets ObjectWord.Holder held at r = IsHolder tokens set depths inside sheets held at r

abbrev pub IsPartBy : List Token → Settings → ℕ → Inside → Bool → Wanted → Option ObjectWord → Drawing
IsPartBy tokens set depths inside sheets wanted (Some word) held at r = IsObjectBy tokens set depths inside sheets word held at r
IsPartBy tokens set depths inside sheets wanted None held at r = r ≡ Err (lacking wanted false tokens at)

-- what may stand inside braces, where so many more may be open before them: nothing where none may
unfoldable pub IsInside : List Token → Settings → ℕ → Inside
IsInside tokens set zero sheets wanted held at r = ⊥
IsInside tokens set (suc depths) sheets wanted held at r =
    IsPartBy tokens set depths (IsInside tokens set depths) sheets wanted (object_word (word_at tokens at) sheets) held at r

-- an object, from its word on, where so many further braces may be open
abbrev pub IsObject : List Token → Settings → ℕ → Bool → ObjectWord → Drawing
IsObject tokens set depths sheets word held at r = IsObjectBy tokens set depths (IsInside tokens set depths) sheets word held at r

abbrev pub IsPart : List Token → Settings → ℕ → Inside
IsPart tokens set depths sheets wanted held at r =
    IsPartBy tokens set depths (IsInside tokens set depths) sheets wanted (object_word (word_at tokens at) sheets) held at r

-- ---- a top-level object, behind so many leaves and triangles of the scene

abbrev pub parts_of : Held → List Shape → Bool → Parts
parts_of held shapes begun = record { held = held; trees = map tree_of shapes; begun = begun }

abbrev pub drawn_of : Part → Held → Drawn
drawn_of part held = record { held = held; tree = tree_seen part.shape; no_shadow = part.no_shadow }

abbrev pub object_seen : ObjectDraft → Drawn
object_seen object = record { held = object.tables; tree = tree_seen object.shape; no_shadow = object.no_shadow }

abbrev pub IsObjectItem : List Token → Settings → ℕ → ℕ → ℕ → ObjectWord → Reading Drawn
IsObjectItem tokens set depths leaves sheets word at r = IsObject tokens set depths true word (nothing_held leaves sheets) at r
