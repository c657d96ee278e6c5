-- Items one after another: what comes of the rest comes of the whole.
use Rattle.std.proofs.Common.{◌≡◌, ◌≤◌, ◌<◌, ℕ, Bool, true, false, List, Result, Ok, Err, length, refl, sym, ap, subst, arith}
use Rattle.std.specs.Prelude.{nat_lt}
use Rattle.scene_lexer.specs.declared.token.Place.{Place}
use Rattle.scene_lexer.specs.declared.token.Token.{Token as TextToken}
use Rattle.scene_expr.specs.declared.value.Settings.{Settings}
use Rattle.scene_expr.specs.Heads.{place_at}
use Rattle.scene_expr.specs.Then.{IsThen}
use Rattle.scene_model.specs.declared.light.Light.{Light}
use Rattle.item_blocks.specs.declared.fault.ParseFault.{ParseFault}
use Rattle.item_blocks.specs.Tokens.{Behind}
use Rattle.item_blocks.specs.ReadingLaws.{same_value}
use Rattle.view_blocks.specs.Lights.{IsLampItem}
use Rattle.object_items.specs.declared.object.ObjectWord.{ObjectWord}
use Rattle.object_items.specs.Objects.{IsObjectItem}
use Rattle.object_items.specs.Statements.{Drawn}
use Rattle.scene_parser.specs.declared.item.ItemPart.{ItemPart}
use Rattle.scene_parser.specs.Scenes.{DraftView, nothing_read, with_light, item_at, IsLamp, IsItem, IsItems, IsScene}

-- what comes of what is read so far and the items from a token on comes of the scene
abbrev pub Whole : List TextToken → Settings → DraftView → ℕ → Type 0
Whole tokens set draft next = (r : Result DraftView ParseFault) → IsItems tokens set draft next r → IsItems tokens set nothing_read 0 r

pub room_for : (count : ℕ) → count < 256 → nat_lt count 256 ≡ true
room_for count few = grind (arith, few)

module _ (tokens : List TextToken) (set : Settings) where
  pub begins : (draft : DraftView) (next : ℕ) → draft ≡ nothing_read → next ≡ 0 → Whole tokens set draft next
  begins draft next same start r rest = subst (λ n. IsItems tokens set nothing_read n r) start (subst (λ d. IsItems tokens set d next r) same rest)

  pub further : (draft more : DraftView) (at next : ℕ) (part : ItemPart) → at < length tokens → part ≡ item_at tokens at → IsItem tokens set part draft at (Ok (record { value = more; next = next })) → Whole tokens set draft at → Whole tokens set more next
  further draft more at next part within is item whole r rest =
      whole r (IsItems.further draft at (record { value = more; next = next }) r within (subst (λ p. IsItem tokens set p draft at (Ok (record { value = more; next = next }))) is item) rest)

  pub stops : (draft : DraftView) (at : ℕ) (f : ParseFault) (part : ItemPart) → at < length tokens → part ≡ item_at tokens at → IsItem tokens set part draft at (Err f) → Whole tokens set draft at → IsScene tokens set (Err f)
  stops draft at f part within is item whole =
      IsThen.fault f (whole (Err f) (IsItems.fault draft at f within (subst (λ p. IsItem tokens set p draft at (Err f)) is item)))

  pub ends : (draft : DraftView) (at : ℕ) → length tokens ≤ at → Whole tokens set draft at → IsScene tokens set (Ok draft.scene)
  ends draft at past whole = IsThen.found draft (Ok draft.scene) (whole (Ok draft) (IsItems.ends draft at past)) refl

  -- ---- lamps, told whether there is room for one

  pub lamp_full : (room : Bool) (draft : DraftView) (at : ℕ) (place : Place) → room ≡ false → place ≡ place_at tokens at → IsLamp tokens set room draft at (Err (ParseFault.Limit 7 place))
  lamp_full room draft at place full is = subst (λ b. IsLamp tokens set b draft at (Err (ParseFault.Limit 7 place))) (sym full) (ap (λ p. Err (ParseFault.Limit 7 p)) is)

  pub lamp_fault : (room : Bool) (draft : DraftView) (at : ℕ) (f : ParseFault) → room ≡ true → IsLampItem tokens set 64 at (Err f) → IsLamp tokens set room draft at (Err f)
  lamp_fault room draft at f free refused = subst (λ b. IsLamp tokens set b draft at (Err f)) (sym free) (IsThen.fault f refused)

  pub lamp_found : (room : Bool) (draft : DraftView) (at : ℕ) (light : Light) (next : ℕ) (more : DraftView) → room ≡ true → IsLampItem tokens set 64 at (Ok (record { value = light; next = next })) → more ≡ with_light light draft → IsLamp tokens set room draft at (Ok (record { value = more; next = next }))
  lamp_found room draft at light next more free read is =
      subst (λ b. IsLamp tokens set b draft at (Ok (record { value = more; next = next }))) (sym free) (IsThen.found (record { value = light; next = next }) _ read (same_value more (with_light light draft) next is))

  -- ---- objects, behind equal counts

  pub same_counts : (word : ObjectWord) (at ls ms ss ts : ℕ) (r : Result (Behind Drawn) ParseFault) → ls ≡ ms → ss ≡ ts → IsObjectItem tokens set 64 ls ss word at r → IsObjectItem tokens set 64 ms ts word at r
  same_counts word at ls ms ss ts r p q item = subst (λ n. IsObjectItem tokens set 64 ms n word at r) q (subst (λ n. IsObjectItem tokens set 64 n ss word at r) p item)
