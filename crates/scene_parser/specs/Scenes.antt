-- Scenes: items one after another, up to the end of the tokens. (Reference manual, scene description language)
use Rattle.std.specs.Prelude.{◌≡◌, ◌≤◌, ◌<◌, ℕ, ◌+◌, ℤ, pos, Bool, true, false, List, [], ◌∷◌, ◌++◌, length, nat_eq, nat_lt, if◌then◌else◌, Option, Some, None, Result, Ok, Err}
use Rattle.std.specs.Str.{bytes_eq}
use Rattle.scene_lexer.specs.declared.sign.TheConstants.{HASH}
use Rattle.scene_lexer.specs.declared.token.Token.{Token}
use Rattle.scene_expr.specs.declared.value.Settings.{Settings}
use Rattle.scene_expr.specs.Heads.{place_at, sign_at}
use Rattle.scene_expr.specs.Then.{IsThen, Is}
use Rattle.scene_model.specs.declared.camera.Camera.{Camera}
use Rattle.scene_model.specs.declared.light.Light.{Light}
use Rattle.item_blocks.specs.declared.fault.ParseFault.{ParseFault}
use Rattle.item_blocks.specs.declared.fault.Wanted.{Wanted}
use Rattle.item_blocks.specs.declared.words.BlockWord.{BlockWord}
use Rattle.item_blocks.specs.declared.words.Word.{Word}
use Rattle.item_blocks.specs.Blocks.{Statement, IsBlock}
use Rattle.item_blocks.specs.Made.{texture_of}
use Rattle.item_blocks.specs.Textures.{no_texture}
use Rattle.item_blocks.specs.Tokens.{word_at, spelling_at, unfit_at, Behind, behind}
use Rattle.view_blocks.specs.Lights.{IsLampItem}
use Rattle.view_blocks.specs.Views.{IsCameraItem, default_camera}
use Rattle.object_items.specs.declared.object.ObjectWord.{ObjectWord}
use Rattle.object_items.specs.Objects.{object_word, IsObjectItem}
use Rattle.object_items.specs.Statements.{Drawn}
use Rattle.scene_parser.specs.declared.default.DefaultTexture.{DefaultTexture}
use Rattle.scene_parser.specs.declared.draft.Draft.{Draft}
use Rattle.scene_parser.specs.declared.global.Globals.{Globals}
use Rattle.scene_parser.specs.declared.item.ItemPart.{ItemPart}
use Rattle.scene_parser.specs.Defaults.{plain_default, default_kind}
use Rattle.scene_parser.specs.Globals.{plain_globals, globals_kind, IsBackground}
use Rattle.scene_parser.specs.Placed.{with_object}
use Rattle.scene_parser.specs.Seen.{SceneView, scene_seen}

-- ---- what is read so far: the scene, the default texture in force, and its number among the textures

pub record DraftView : Type 0 where
  pub scene : SceneView
  pub default : DefaultTexture
  pub standard : ℕ

abbrev pub draft_seen : Draft → DraftView
draft_seen draft = record { scene = scene_seen draft.scene; default = draft.default; standard = draft.standard }

-- a scene of which nothing is said: the default camera before a black background
abbrev pub nothing_read : DraftView
nothing_read = record {
  scene = record {
    camera = default_camera;
    lights = [];
    objects = [];
    leaves = [];
    sheets = [];
    textures = texture_of no_texture no_texture ∷ [];
    background = pos 0 ∷ pos 0 ∷ pos 0 ∷ [];
    ambient_light = plain_globals.ambient_light;
    levels = plain_globals.levels;
    adc = plain_globals.adc;
  };
  default = plain_default;
  standard = 0;
}

-- ---- what each item changes

-- the last camera counts, and the last background
abbrev pub with_camera : Camera → DraftView → DraftView
with_camera camera draft = record draft { scene = record draft.scene { camera = camera } }

abbrev pub with_background : List ℤ → DraftView → DraftView
with_background colour draft = record draft { scene = record draft.scene { background = colour } }

abbrev pub with_light : Light → DraftView → DraftView
with_light light draft = record draft { scene = record draft.scene { lights = draft.scene.lights ++ light ∷ [] } }

-- settings go on from those before
abbrev pub globals_of : DraftView → Globals
globals_of draft = record { ambient_light = draft.scene.ambient_light; levels = draft.scene.levels; adc = draft.scene.adc }

abbrev pub with_globals : Globals → DraftView → DraftView
with_globals globals draft =
    record draft { scene = record draft.scene { ambient_light = globals.ambient_light; levels = globals.levels; adc = globals.adc } }

-- a default counts for the objects behind it: its texture is a further one of the scene
abbrev pub with_default : DefaultTexture → SceneView → DraftView
with_default default scene = record {
  scene = record scene { textures = scene.textures ++ texture_of no_texture default.looks.texture ∷ [] };
  default = default;
  standard = length scene.textures;
}

abbrev pub in_draft : DraftView → Result SceneView ParseFault → Result DraftView ParseFault
in_draft draft (Ok scene) = Ok (record draft { scene = scene })
in_draft draft (Err f) = Err f

abbrev pub draft_with : List Token → Drawn → DraftView → Result DraftView ParseFault
draft_with tokens object draft = in_draft draft (with_object tokens draft.default.looks.texture draft.standard object draft.scene)

-- ---- grammar

abbrev pub object_or_other : Option ObjectWord → ItemPart
object_or_other (Some word) = ItemPart.Object word
object_or_other None = ItemPart.Other

abbrev pub named_item : Option Word → ItemPart
named_item (Some (Word.Block BlockWord.Camera)) = ItemPart.Camera
named_item (Some (Word.Block BlockWord.LightSource)) = ItemPart.Lamp
named_item (Some (Word.Block BlockWord.Background)) = ItemPart.Background
named_item (Some (Word.Block BlockWord.GlobalSettings)) = ItemPart.Globals
named_item word = object_or_other (object_word word true)

-- an item begins with its word, and a default with the sign before it
abbrev pub item_at : List Token → ℕ → ItemPart
item_at tokens at = if nat_eq (sign_at tokens at) HASH then ItemPart.Default else named_item (word_at tokens at)

abbrev pub is_default_word : Option (List ℕ) → Bool
is_default_word None = false
is_default_word (Some word) = bytes_eq word (100 ∷ 101 ∷ 102 ∷ 97 ∷ 117 ∷ 108 ∷ 116 ∷ [])

-- the place behind the word `default`
abbrev pub behind_default : List Token → ℕ → Result ℕ ParseFault
behind_default tokens at = if is_default_word (spelling_at tokens at) then Ok (at + 1) else Err (unfit_at Wanted.Item tokens at)

-- a lamp; a scene has at most 256
abbrev pub IsLamp : List Token → Settings → Bool → Statement DraftView
IsLamp tokens set true draft at r =
    IsThen (Behind Light) (Behind DraftView) ParseFault (IsLampItem tokens set 64 at) (λ light.
    Is (Ok (record { value = with_light light.value draft; next = light.next }))) r
IsLamp tokens set false draft at r = r ≡ Err (ParseFault.Limit 7 (place_at tokens at))

-- an item, by what stands at its first token; at most 64 braces are open in each other
abbrev pub IsItem : List Token → Settings → ItemPart → Statement DraftView
IsItem tokens set ItemPart.Camera draft at r =
    IsThen (Behind Camera) (Behind DraftView) ParseFault (IsCameraItem tokens set 64 at) (λ camera.
    Is (Ok (record { value = with_camera camera.value draft; next = camera.next }))) r
IsItem tokens set ItemPart.Lamp draft at r = IsLamp tokens set (nat_lt (length draft.scene.lights) 256) draft at r
IsItem tokens set ItemPart.Background draft at r =
    IsThen (Behind (List ℤ)) (Behind DraftView) ParseFault (IsBackground tokens set 64 (at + 1)) (λ colour.
    Is (Ok (record { value = with_background colour.value draft; next = colour.next }))) r
IsItem tokens set ItemPart.Globals draft at r =
    IsThen (Behind Globals) (Behind DraftView) ParseFault (IsBlock (globals_kind tokens set) tokens 64 (globals_of draft) (at + 1)) (λ globals.
    Is (Ok (record { value = with_globals globals.value draft; next = globals.next }))) r
IsItem tokens set ItemPart.Default draft at r =
    IsThen ℕ (Behind DraftView) ParseFault (Is (behind_default tokens (at + 1))) (λ start.
    IsThen (Behind DefaultTexture) (Behind DraftView) ParseFault (IsBlock (default_kind tokens set) tokens 64 draft.default start) (λ default.
    Is (Ok (record { value = with_default default.value draft.scene; next = default.next })))) r
IsItem tokens set (ItemPart.Object word) draft at r =
    IsThen (Behind Drawn) (Behind DraftView) ParseFault (IsObjectItem tokens set 64 (length draft.scene.leaves) (length draft.scene.sheets) word at) (λ object.
    Is (behind (draft_with tokens object.value draft) object.next)) r
IsItem tokens set ItemPart.Other draft at r = r ≡ Err (unfit_at Wanted.Item tokens at)

-- items from a token on: the first fault is that of all
pub data IsItems (tokens : List Token) (set : Settings) : DraftView → ℕ → Result DraftView ParseFault → Type 0 where
  ends : (draft : DraftView) (at : ℕ) → length tokens ≤ at → IsItems tokens set draft at (Ok draft)
  fault : (draft : DraftView) (at : ℕ) (f : ParseFault) → at < length tokens → IsItem tokens set (item_at tokens at) draft at (Err f) → IsItems tokens set draft at (Err f)
  further : (draft : DraftView) (at : ℕ) (more : Behind DraftView) (r : Result DraftView ParseFault) → at < length tokens → IsItem tokens set (item_at tokens at) draft at (Ok more) → IsItems tokens set more.value more.next r → IsItems tokens set draft at r

-- the scene of a whole list of tokens
abbrev pub IsScene : List Token → Settings → Result SceneView ParseFault → Type 0
IsScene tokens set r = IsThen DraftView SceneView ParseFault (IsItems tokens set nothing_read 0) (λ draft. Is (Ok draft.scene)) r
