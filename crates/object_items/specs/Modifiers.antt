-- What is said of an object behind its parts: looks, steps and other modifiers. (Reference manual, object modifiers)
use Rattle.std.specs.Prelude.{◌≡◌, ℕ, ◌+◌, ◌-◌, Bool, true, false, not, List, [], ◌∷◌, ◌++◌, take, drop, length, slice_index_or, nat_lt, Option, Some, None, Ok, Err}
use Rattle.scene_lexer.specs.declared.token.Token.{Token}
use Rattle.scene_expr.specs.declared.value.Settings.{Settings}
use Rattle.scene_expr.specs.Then.{IsThen, Is}
use Rattle.xform.specs.declared.transform.Xform.{Xform}
use Rattle.item_blocks.specs.declared.fault.ParseFault.{ParseFault}
use Rattle.item_blocks.specs.declared.fault.Wanted.{Wanted}
use Rattle.item_blocks.specs.declared.look.LookPart.{LookPart}
use Rattle.item_blocks.specs.declared.pigment.PigmentDraft.{PigmentDraft}
use Rattle.item_blocks.specs.declared.texture.MaterialDraft.{MaterialDraft}
use Rattle.item_blocks.specs.declared.words.BlockWord.{BlockWord}
use Rattle.item_blocks.specs.declared.words.ModifierWord.{ModifierWord}
use Rattle.item_blocks.specs.declared.words.Word.{Word}
use Rattle.item_blocks.specs.Blocks.{Statement}
use Rattle.item_blocks.specs.Looks.{look_part, IsLook}
use Rattle.item_blocks.specs.Steps.{IsMovedIn}
use Rattle.item_blocks.specs.Textures.{no_material}
use Rattle.item_blocks.specs.Tokens.{unfit_at, Behind}
use Rattle.object_items.specs.declared.modifier.ModifierPart.{ModifierPart}
use Rattle.object_items.specs.declared.modifier.Modifiers.{Modifiers}
use Rattle.object_items.specs.declared.tables.Marks.{Marks}
use Rattle.object_items.specs.Held.{Held, only_if}
use Rattle.object_items.specs.Skipped.{IsPassedOver, behind_truth}

-- what is said behind the parts of a statement, and all that is held
pub record Said : Type 0 where
  pub looks : MaterialDraft
  pub inverse : Bool
  pub no_shadow : Bool
  pub held : Held

-- the modifiers and the tables of the reader, together
abbrev pub said_of : Modifiers → Held → Said
said_of modifiers held = record { looks = modifiers.looks; inverse = modifiers.inverse; no_shadow = modifiers.no_shadow; held = held }

abbrev pub unsaid : Held → Said
unsaid held = record { looks = no_material; inverse = false; no_shadow = false; held = held }

abbrev pub plain_part : Option Word → Bool → Option ModifierPart
plain_part (Some (Word.Step word)) mesh = Some ModifierPart.Move
plain_part (Some (Word.Block BlockWord.Transform)) mesh = Some ModifierPart.Move
plain_part (Some (Word.Block BlockWord.BoundedBy)) mesh = Some ModifierPart.Bound
plain_part (Some (Word.Modifier ModifierWord.Inverse)) mesh = only_if (not mesh) ModifierPart.Inverse
plain_part (Some (Word.Modifier ModifierWord.NoShadow)) mesh = Some ModifierPart.NoShadow
plain_part (Some (Word.Modifier ModifierWord.Hollow)) mesh = Some ModifierPart.Hollow
plain_part (Some (Word.Modifier ModifierWord.Hierarchy)) mesh = only_if mesh ModifierPart.Hierarchy
plain_part other mesh = None

abbrev pub look_or : Option LookPart → Option ModifierPart → Option ModifierPart
look_or (Some part) other = Some (ModifierPart.Look part)
look_or None other = other

-- what a word says among the modifiers of a statement, a mesh or another one
abbrev pub modifier_part : Option Word → Bool → Option ModifierPart
modifier_part word mesh = look_or (look_part word) (plain_part word mesh)

-- a step moves all things of the statement, in their order, and then the pigment that is given before it
abbrev pub own_thing : Option PigmentDraft → List Xform
own_thing None = []
own_thing (Some pigment) = pigment.xform ∷ []

abbrev pub moved_pigment : Option PigmentDraft → List Xform → Option PigmentDraft
moved_pigment None xforms = None
moved_pigment (Some pigment) xforms = Some (record pigment { xform = slice_index_or xforms (length xforms - 1) pigment.xform })

abbrev pub moved_said : Marks → Said → List Xform → Said
moved_said marks said xforms = record said {
  looks = record said.looks { texture = record said.looks.texture { pigment = moved_pigment said.looks.texture.pigment xforms } };
  held = record said.held { things = take marks.things said.held.things ++ take (length said.held.things - marks.things) xforms };
}

abbrev pub IsStep : List Token → Settings → ℕ → Marks → Statement Said
IsStep tokens set depths marks said at r =
    IsThen (Behind (List Xform)) (Behind Said) ParseFault (IsMovedIn tokens set depths (drop marks.things said.held.things ++ own_thing said.looks.texture.pigment) at) (λ moved.
    Is (Ok (record { value = moved_said marks said moved.value; next = moved.next }))) r

-- triangles aren't inverted, nor what holds one
abbrev pub holds_sheets : Marks → Said → Bool
holds_sheets marks said = nat_lt marks.sheets (length said.held.sheets)

abbrev pub IsInversion : List Token → Bool → Statement Said
IsInversion tokens true said at r = r ≡ Err (unfit_at Wanted.CloseBrace tokens at)
IsInversion tokens false said at r = r ≡ Ok (record { value = record said { inverse = not said.inverse }; next = at + 1 })

abbrev pub IsModifier : List Token → Settings → ℕ → Marks → Option ModifierPart → Statement Said
IsModifier tokens set depths marks (Some (ModifierPart.Look part)) said at r =
    IsThen (Behind MaterialDraft) (Behind Said) ParseFault (IsLook tokens set depths part said.looks at) (λ looks.
    Is (Ok (record { value = record said { looks = looks.value }; next = looks.next }))) r
IsModifier tokens set depths marks (Some ModifierPart.Move) said at r = IsStep tokens set depths marks said at r
IsModifier tokens set depths marks (Some ModifierPart.Inverse) said at r = IsInversion tokens (holds_sheets marks said) said at r
IsModifier tokens set depths marks (Some ModifierPart.NoShadow) said at r = r ≡ Ok (record { value = record said { no_shadow = true }; next = at + 1 })
IsModifier tokens set depths marks (Some ModifierPart.Hollow) said at r = r ≡ Ok (record { value = said; next = behind_truth tokens (at + 1) })
IsModifier tokens set depths marks (Some ModifierPart.Hierarchy) said at r = r ≡ Ok (record { value = said; next = behind_truth tokens (at + 1) })
IsModifier tokens set depths marks (Some ModifierPart.Bound) said at r =
    IsThen ℕ (Behind Said) ParseFault (IsPassedOver tokens depths (at + 1)) (λ next. Is (Ok (record { value = said; next = next }))) r
IsModifier tokens set depths marks None said at r = r ≡ Err (unfit_at Wanted.CloseBrace tokens at)
