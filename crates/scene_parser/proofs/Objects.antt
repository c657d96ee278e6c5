-- A scene with an object more, from its parts.
use Rattle.std.proofs.Common.{◌≡◌, ◌≤◌, ℕ, Bool, List, ◌++◌, Option, Some, None, Result, Ok, Err, map, length, refl, sym, ap, ◌∙◌, subst, arith, length-append}
use Rattle.std.proofs.lemmas.List.{map-append}
use Rattle.scene_lexer.specs.declared.token.Token.{Token as TextToken}
use Rattle.scene_model.specs.declared.scene.Object.{Object}
use Rattle.scene_model.specs.declared.scene.Sheet.{Sheet}
use Rattle.scene_model.specs.declared.shape.Leaf.{Leaf}
use Rattle.scene_model.specs.declared.shape.Shape.{Shape}
use Rattle.item_blocks.specs.declared.fault.ParseFault.{ParseFault}
use Rattle.item_blocks.specs.declared.texture.TextureDraft.{TextureDraft}
use Rattle.item_blocks.specs.Made.{TextureView}
use Rattle.solid_items.specs.declared.draft.Misplaced.{Misplaced}
use Rattle.object_items.specs.Statements.{Drawn}
use Rattle.object_items.specs.Trees.{tree_seen}
use Rattle.scene_parser.specs.declared.placed.Numbers.{Numbers}
use Rattle.scene_parser.specs.Placed.{Placed, parts_placed, misplaced_at, textures_of, objects_of, object_row, scene_with, numbers_in, scene_or, with_object}
use Rattle.scene_parser.specs.Seen.{ObjectView, SceneView, object_view}

row_seen : (shape : Option Shape) (no_shadow : Bool) → map object_view (object_row shape no_shadow) ≡ objects_of (tree_seen shape) no_shadow
row_seen None no_shadow = refl
row_seen (Some shape) no_shadow = refl

objects_seen : (old new : List Object) (shape : Option Shape) (no_shadow : Bool) → new ≡ old ++ object_row shape no_shadow → map object_view new ≡ map object_view old ++ objects_of (tree_seen shape) no_shadow
objects_seen old new shape no_shadow is =
    ap (λ l. map object_view l) is ∙ map-append object_view old (object_row shape no_shadow) ∙ ap (λ l. map object_view old ++ l) (row_seen shape no_shadow)

abbrev view_with : SceneView → List ObjectView → List Leaf → List Sheet → List TextureView → SceneView
view_with scene objects leaves sheets textures = record scene { objects = objects; leaves = leaves; sheets = sheets; textures = textures }

same_view : (scene : SceneView) (o p : List ObjectView) (l m : List Leaf) (s t : List Sheet) (u v : List TextureView) → o ≡ p → l ≡ m → s ≡ t → u ≡ v → view_with scene o l s u ≡ view_with scene p m t v
same_view scene o p l m s t u v a b c d =
    ap (λ x. view_with scene x l s u) a ∙ ap (λ x. view_with scene p x s u) b ∙ ap (λ x. view_with scene p m x u) c ∙ ap (λ x. view_with scene p m t x) d

module _ (tokens : List TextToken) (default : TextureDraft) (standard : ℕ) (object : Drawn) (scene : SceneView) (numbers : Numbers) (is : numbers ≡ numbers_in scene standard) where
  comes : (r : Result Placed Misplaced) → parts_placed numbers object.held object.no_shadow ≡ r → with_object tokens default standard object scene ≡ scene_or tokens (scene_with scene default object) r
  comes r so = ap (λ n. scene_or tokens (scene_with scene default object) (parts_placed n object.held object.no_shadow)) (sym is) ∙ ap (scene_or tokens (scene_with scene default object)) so

  pub object_fault : (misplaced : Misplaced) (f : ParseFault) → parts_placed numbers object.held object.no_shadow ≡ Err misplaced → f ≡ misplaced_at tokens misplaced → with_object tokens default standard object scene ≡ Err f
  object_fault misplaced f so same = comes (Err misplaced) so ∙ ap (λ f. Err f) (sym same)

  pub object_found : (parts : Placed) (old objects : List Object) (leaves : List Leaf) (sheets : List Sheet) (textures : List TextureView) (shape : Option Shape) → parts_placed numbers object.held object.no_shadow ≡ Ok parts → scene.objects ≡ map object_view old → object.tree ≡ tree_seen shape → objects ≡ old ++ object_row shape object.no_shadow → leaves ≡ scene.leaves ++ parts.leaves → sheets ≡ scene.sheets ++ parts.sheets → textures ≡ scene.textures ++ textures_of default object.held.things object.held.textures → with_object tokens default standard object scene ≡ Ok (view_with scene (map object_view objects) leaves sheets textures)
  object_found parts old objects leaves sheets textures shape so seen tree o l s t =
      let same : map object_view objects ≡ scene.objects ++ objects_of object.tree object.no_shadow =
      objects_seen old objects shape object.no_shadow o ∙ ap (λ x. x ++ objects_of (tree_seen shape) object.no_shadow) (sym seen) ∙ ap (λ x. scene.objects ++ objects_of x object.no_shadow) (sym tree) in
      comes (Ok parts) so ∙ ap (λ v. Ok v) (sym (same_view scene (map object_view objects) (scene.objects ++ objects_of object.tree object.no_shadow) leaves (scene.leaves ++ parts.leaves) sheets (scene.sheets ++ parts.sheets) textures (scene.textures ++ textures_of default object.held.things object.held.textures) same l s t))

-- a scene with an object more has no texture less
more_by : (tokens : List TextToken) (default : TextureDraft) (object : Drawn) (scene new : SceneView) (r : Result Placed Misplaced) → scene_or tokens (scene_with scene default object) r ≡ Ok new → length scene.textures ≤ length new.textures
more_by tokens default object scene new (Ok parts) is =
    let same : scene_with scene default object parts ≡ new = cc is in
    subst (λ (s : SceneView). length scene.textures ≤ length s.textures) same (omega (arith, length-append scene.textures (textures_of default object.held.things object.held.textures)))
more_by tokens default object scene new (Err misplaced) is = absurd (cc is)

pub more_textures : (tokens : List TextToken) (default : TextureDraft) (standard : ℕ) (object : Drawn) (scene new : SceneView) → with_object tokens default standard object scene ≡ Ok new → length scene.textures ≤ length new.textures
more_textures tokens default standard object scene new is = more_by tokens default object scene new (parts_placed (numbers_in scene standard) object.held object.no_shadow) is
