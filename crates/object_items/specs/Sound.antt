-- What is read of an object is sound: what a valid scene asks of its parts follows.
use Rattle.std.specs.Prelude.{◌≡◌, ◌≤◌, ◌<◌, ◌+◌, ℕ, List, [], ◌∷◌, length, IsTrue, Option, Some, None, IfSome}
use Rattle.std.specs.List.{All}
use Rattle.scene_model.specs.declared.shape.Shape.{Shape}
use Rattle.scene_model.specs.Places.{Place, places_in, differ, depth_of, is_filled}
use Rattle.xform.specs.Transforms.{IsPlaced}
use Rattle.item_blocks.specs.Sound.{IsSoundTexture, IsSoundInterior}
use Rattle.solid_items.specs.Solids.{IsSound}
use Rattle.object_items.specs.declared.object.ObjectDraft.{ObjectDraft}
use Rattle.object_items.specs.declared.tables.LeafDraft.{LeafDraft}
use Rattle.object_items.specs.declared.tables.SheetPart.{SheetPart}
use Rattle.object_items.specs.Held.{Held}

-- the solid of a leaf is sound, and its texture is one of so many
pub record IsSoundLeaf (textures : ℕ) (leaf : LeafDraft) : Type 0 where
  pub solid : IsSound leaf.solid
  pub texture : IfSome leaf.texture (λ n. n < textures)
  pub interior : IfSome leaf.interior IsSoundInterior

pub record IsSoundSheet (textures : ℕ) (sheet : SheetPart) : Type 0 where
  pub texture : IfSome sheet.texture (λ n. n < textures)
  pub interior : IfSome sheet.interior IsSoundInterior

-- what all that is held has: its transforms are those of steps
pub record IsSoundHeld (held : Held) : Type 0 where
  pub things : All IsPlaced held.things
  pub leaves : All (IsSoundLeaf (length held.textures)) held.leaves
  pub sheets : All (IsSoundSheet (length held.textures)) held.sheets
  pub textures : All (λ given. IsSoundTexture given.texture) held.textures

-- what the leaves say of their places in an object, from a number in the scene on
abbrev pub drafted_of : ℕ → ℕ → List LeafDraft → List Place
drafted_of object number [] = []
drafted_of object number (leaf ∷ leaves) =
    record { leaf = number; negated = differ leaf.negated leaf.inverse; object = object } ∷ drafted_of object (number + 1) leaves

-- the groups of a shape have parts and aren't too deep, and each leaf stands at one place of it, in the order of the numbers
pub record IsSoundShape (held : Held) (shape : Shape) : Type 0 where
  pub filled : IsTrue (is_filled shape)
  pub flat : depth_of shape ≤ 64
  pub places : (object : ℕ) → places_in object shape ≡ drafted_of object held.leaves_before held.leaves

abbrev pub IsShaped : Held → Option Shape → Type 0
IsShaped held None = held.leaves ≡ []
IsShaped held (Some shape) = IsSoundShape held shape

-- an object behind so many leaves and triangles of the scene
pub record IsSoundObject (leaves sheets : ℕ) (draft : ObjectDraft) : Type 0 where
  pub before : draft.tables.leaves_before ≡ leaves
  pub held : IsSoundHeld draft.tables
  pub shape : IsShaped draft.tables draft.shape
  pub few_leaves : leaves + length draft.tables.leaves ≤ 65536
  pub few_sheets : sheets + length draft.tables.sheets ≤ 131072
