-- What a modifier of a kind does is what its word does.
use Rattle.std.proofs.Common.{◌≡◌, ◌+◌, ℕ, List, Option, Some, Ok, Err, refl, sym, subst}
use Rattle.scene_lexer.specs.declared.token.Token.{Token as TextToken}
use Rattle.scene_expr.specs.declared.value.Settings.{Settings}
use Rattle.scene_expr.specs.Then.{IsThen}
use Rattle.item_blocks.specs.declared.fault.ParseFault.{ParseFault}
use Rattle.item_blocks.specs.declared.look.LookPart.{LookPart}
use Rattle.item_blocks.specs.declared.texture.MaterialDraft.{MaterialDraft}
use Rattle.item_blocks.specs.Looks.{IsLook}
use Rattle.object_items.specs.declared.modifier.ModifierPart.{ModifierPart}
use Rattle.object_items.specs.declared.tables.Marks.{Marks}
use Rattle.object_items.specs.Modifiers.{Said, IsModifier}
use Rattle.object_items.specs.Skipped.{IsPassedOver}

module _ (tokens : List TextToken) (set : Settings) (depths : ℕ) (marks : Marks) (said : Said) (at : ℕ) (word : Option ModifierPart) where
  pub look_fault : (part : LookPart) (f : ParseFault) → word ≡ Some (ModifierPart.Look part) → IsLook tokens set depths part said.looks at (Err f) → IsModifier tokens set depths marks word said at (Err f)
  look_fault part f is refused = subst (λ w. IsModifier tokens set depths marks w said at (Err f)) (sym is) (IsThen.fault f refused)

  pub look_found : (part : LookPart) (looks : MaterialDraft) (next : ℕ) → word ≡ Some (ModifierPart.Look part) → IsLook tokens set depths part said.looks at (Ok (record { value = looks; next = next })) → IsModifier tokens set depths marks word said at (Ok (record { value = record said { looks = looks }; next = next }))
  look_found part looks next is read =
      subst (λ w. IsModifier tokens set depths marks w said at (Ok (record { value = record said { looks = looks }; next = next }))) (sym is) (IsThen.found (record { value = looks; next = next }) _ read refl)

  pub bound_fault : (f : ParseFault) → word ≡ Some ModifierPart.Bound → IsPassedOver tokens depths (at + 1) (Err f) → IsModifier tokens set depths marks word said at (Err f)
  bound_fault f is refused = subst (λ w. IsModifier tokens set depths marks w said at (Err f)) (sym is) (IsThen.fault f refused)

  pub bound_found : (next : ℕ) → word ≡ Some ModifierPart.Bound → IsPassedOver tokens depths (at + 1) (Ok next) → IsModifier tokens set depths marks word said at (Ok (record { value = said; next = next }))
  bound_found next is read = subst (λ w. IsModifier tokens set depths marks w said at (Ok (record { value = said; next = next }))) (sym is) (IsThen.found next _ read refl)
