-- What holds of a scene while it is read: so far it is valid, and so is all that counts for what follows.
use Rattle.std.specs.Prelude.{ℕ, ◌+◌, ◌≤◌, ◌<◌, ◌^◌, length, Option, IfSome}
use Rattle.scene_model.specs.Amounts.{IsAmount, IsRgb}
use Rattle.scene_model.specs.Valid.{Valid}
use Rattle.item_blocks.specs.Sound.{IsSoundMaterial, IsSoundInterior}
use Rattle.solid_items.specs.Solids.{IsSound}
use Rattle.object_items.specs.declared.tables.LeafDraft.{LeafDraft}
use Rattle.object_items.specs.declared.tables.SheetPart.{SheetPart}
use Rattle.scene_parser.specs.declared.draft.Draft.{Draft}
use Rattle.scene_parser.specs.declared.global.Globals.{Globals}
use Rattle.scene_parser.specs.declared.placed.Numbers.{Numbers}

pub record IsGood (draft : Draft) : Type 0 where
  pub scene : Valid draft.scene
  pub default : IsSoundMaterial draft.default.looks
  pub standard : draft.standard < length draft.scene.textures.items

pub record IsSoundGlobals (globals : Globals) : Type 0 where
  pub ambient_light : IsRgb globals.ambient_light
  pub levels_low : 1 ≤ globals.levels
  pub levels_high : globals.levels ≤ 64
  pub adc : IsAmount 65536 globals.adc

-- ---- the parts of an object, ready to be placed: numbers in the scene have 32 bits

abbrev pub IsNumbered : Numbers → Option ℕ → Type 0
IsNumbered numbers texture = IfSome texture (λ n. numbers.first + n < 2 ^ 32)

pub record IsReadyLeaf (numbers : Numbers) (leaf : LeafDraft) : Type 0 where
  pub solid : IsSound leaf.solid
  pub texture : IsNumbered numbers leaf.texture
  pub interior : IfSome leaf.interior IsSoundInterior

pub record IsReadySheet (numbers : Numbers) (part : SheetPart) : Type 0 where
  pub texture : IsNumbered numbers part.texture
  pub interior : IfSome part.interior IsSoundInterior
