-- A list of tokens comes to one outcome: each way to read its items does, where their parts do.
use Rattle.std.specs.Prelude.{◌≡◌, ℕ, ◌+◌, Bool, true, false, nat_lt, List, length, Option, Some, None, Result, Ok, refl}
use Rattle.std.proofs.Common.{subst, sym, arith, ◌∙◌}
use Rattle.scene_lexer.specs.declared.token.Token.{Token as TextToken}
use Rattle.scene_expr.specs.declared.value.Settings.{Settings}
use Rattle.scene_expr.specs.Then.{IsThen, IsOne, one_is, one_then, then_fault, then_found}
use Rattle.item_blocks.specs.declared.fault.ParseFault.{ParseFault}
use Rattle.item_blocks.specs.declared.look.LookPart.{LookPart}
use Rattle.item_blocks.specs.declared.words.GlobalWord.{GlobalWord}
use Rattle.item_blocks.specs.Tokens.{Behind}
use Rattle.item_blocks.specs.Parameters.{light_of}
use Rattle.item_blocks.specs.Blocks.{IsBlock}
use Rattle.item_blocks.specs.OneBlock.{IsOneStatement, one_block, one_parameter, one_look}
use Rattle.view_blocks.specs.OneItem.{one_lamp, one_camera}
use Rattle.object_items.specs.declared.object.ObjectWord.{ObjectWord}
use Rattle.object_items.specs.Objects.{IsObjectItem}
use Rattle.scene_parser.specs.declared.global.Globals.{Globals}
use Rattle.scene_parser.specs.declared.item.ItemPart.{ItemPart}
use Rattle.scene_parser.specs.Defaults.{default_kind, IsDefaultPart}
use Rattle.scene_parser.specs.Globals.{globals_with, globals_kind, IsSetting, IsBackground}
use Rattle.scene_parser.specs.Scenes.{DraftView, nothing_read, item_at, IsLamp, IsItem, IsItems, IsScene}

-- an object comes to one outcome from its word on
abbrev pub IsOneObject : List TextToken → Settings → Type 0
IsOneObject tokens set = (depths leaves sheets : ℕ) (word : ObjectWord) (at : ℕ) → IsOne (IsObjectItem tokens set depths leaves sheets word at)

module _ (tokens : List TextToken) (set : Settings) where
  -- ---- settings, the background and defaults

  one_setting : (word : Option GlobalWord) → IsOneStatement (IsSetting tokens set word)
  one_setting (Some word) globals at = one_parameter tokens set Globals (globals_with globals word) (at + 1)
  one_setting None globals at = one_is _

  one_globals : (depths : ℕ) → IsOneStatement (IsBlock (globals_kind tokens set) tokens depths)
  one_globals = one_block (globals_kind tokens set) tokens (λ depths led globals at. one_is _) (λ depths globals at. one_setting _ globals at)

  one_background : (depths at : ℕ) → IsOne (IsBackground tokens set depths at)
  one_background depths at = one_then (one_is _) (λ start. one_then (one_parameter tokens set _ light_of start) (λ colour. one_then (one_is _) (λ next. one_is _)))

  one_default_part : (depths : ℕ) (part : Option LookPart) → IsOneStatement (IsDefaultPart tokens set depths part)
  one_default_part depths (Some part) default at = one_then (one_look tokens set depths part default.looks at) (λ looks. one_is _)
  one_default_part depths None default at = one_is _

  one_default : (depths : ℕ) → IsOneStatement (IsBlock (default_kind tokens set) tokens depths)
  one_default = one_block (default_kind tokens set) tokens (λ depths led default at. one_is _) (λ depths default at. one_default_part depths _ default at)

  -- ---- items

  one_lamp_item : (room : Bool) → IsOneStatement (IsLamp tokens set room)
  one_lamp_item true draft at = one_then (one_lamp tokens set 64 at) (λ light. one_is _)
  one_lamp_item false draft at = one_is _

  module _ (one_object : IsOneObject tokens set) where
    one_item : (part : ItemPart) → IsOneStatement (IsItem tokens set part)
    one_item ItemPart.Camera draft at = one_then (one_camera tokens set 64 at) (λ camera. one_is _)
    one_item ItemPart.Lamp draft at = one_lamp_item _ draft at
    one_item ItemPart.Background draft at = one_then (one_background 64 (at + 1)) (λ colour. one_is _)
    one_item ItemPart.Globals draft at = one_then (one_globals 64 _ (at + 1)) (λ globals. one_is _)
    one_item ItemPart.Default draft at = one_then (one_is _) (λ start. one_then (one_default 64 draft.default start) (λ default. one_is _))
    one_item (ItemPart.Object word) draft at = one_then (one_object 64 _ _ word at) (λ object. one_is _)
    one_item ItemPart.Other draft at = one_is _

    -- what comes of what is read so far, by whether a token stands here
    abbrev IsByEnd : Bool → DraftView → ℕ → Result DraftView ParseFault → Type 0
    IsByEnd true draft at r = IsThen (Behind DraftView) DraftView ParseFault (IsItem tokens set (item_at tokens at) draft at) (λ more. IsItems tokens set more.value more.next) r
    IsByEnd false draft at r = r ≡ Ok draft

    item_parts : (draft : DraftView) (at : ℕ) (more : Bool) (r : Result DraftView ParseFault) → nat_lt at (length tokens) ≡ more → IsItems tokens set draft at r → IsByEnd more draft at r
    item_parts draft at more r e (IsItems.ends _ _ past) =
        let past_it : nat_lt at (length tokens) ≡ false = grind (arith, past) in
        subst (λ b. IsByEnd b draft at r) (sym past_it ∙ e) refl
    item_parts draft at more r e (IsItems.fault _ _ f within p) =
        let before : nat_lt at (length tokens) ≡ true = grind (arith, within) in
        subst (λ b. IsByEnd b draft at r) (sym before ∙ e) (IsThen.fault f p)
    item_parts draft at more r e (IsItems.further _ _ one _ within p rest) =
        let before : nat_lt at (length tokens) ≡ true = grind (arith, within) in
        subst (λ b. IsByEnd b draft at r) (sym before ∙ e) (IsThen.found one r p rest)

    one_items : (draft : DraftView) (at : ℕ) → IsOne (IsItems tokens set draft at)
    one_items draft at r q (IsItems.ends _ _ past) x =
        let past_it : nat_lt at (length tokens) ≡ false = grind (arith, past) in
        sym (item_parts draft at false q past_it x)
    one_items draft at r q (IsItems.fault _ _ f within p) x =
        let before : nat_lt at (length tokens) ≡ true = grind (arith, within) in
        then_fault (one_item _ draft at) f p (item_parts draft at true q before x)
    one_items draft at r q (IsItems.further _ _ more _ within p rest) x =
        let before : nat_lt at (length tokens) ≡ true = grind (arith, within) in
        one_items more.value more.next r q rest (then_found (one_item _ draft at) more p (item_parts draft at true q before x))

    pub one_scene : IsOne (IsScene tokens set)
    one_scene = one_then (one_items nothing_read 0) (λ draft. one_is _)
