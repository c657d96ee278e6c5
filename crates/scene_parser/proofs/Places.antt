-- An object's parts in the scene: both lists are placed, or the first of the two faults is told.
use Rattle.std.proofs.Common.{◌≡◌, ◌≤◌, ◌<◌, ◌+◌, ◌^◌, ℕ, Bool, List, [], ◌∷◌, ◌++◌, Option, Some, None, Result, Ok, Err, length, map, drop, refl, sym, ap, ◌∙◌, subst, arith, length-append}
use Rattle.std.specs.Prelude.{IfSome, slice_get}
use Rattle.std.specs.List.{All}
use Rattle.std.proofs.Math.ListN.{drop_of_length-le}
use Rattle.std.proofs.lemmas.List.{append-nil, append_assoc, map-append, length-map}
use Rattle.std.proofs.lemmas.List.Elements.{All-weaker}
use Rattle.std.proofs.lemmas.Option.{slice_get_within, get_or_from_slice_get}
use Rattle.item_blocks.specs.Sound.{IsSoundTexture}
use Rattle.scene_model.specs.declared.scene.Sheet.{Sheet}
use Rattle.scene_model.specs.declared.shape.Leaf.{Leaf}
use Rattle.scene_model.specs.declared.texture.Texture.{Texture}
use Rattle.xform.specs.declared.transform.Xform.{Xform}
use Rattle.item_blocks.specs.declared.texture.TextureDraft.{TextureDraft}
use Rattle.item_blocks.specs.Made.{TextureView, texture_seen, texture_of}
use Rattle.solid_items.specs.declared.draft.Misplaced.{Misplaced}
use Rattle.object_items.specs.declared.tables.GivenTexture.{GivenTexture}
use Rattle.object_items.specs.declared.tables.LeafDraft.{LeafDraft}
use Rattle.object_items.specs.declared.tables.SheetPart.{SheetPart}
use Rattle.object_items.specs.Held.{Held}
use Rattle.object_items.specs.Sound.{IsSoundLeaf, IsSoundSheet}
use Rattle.scene_parser.specs.declared.placed.Numbers.{Numbers}
use Rattle.scene_parser.specs.Placed.{appended, unless, each, leaf_placed, sheet_placed, first_of, both, Placed, parts_placed, settled, textures_of}
use Rattle.scene_parser.specs.Sound.{IsNumbered, IsReadyLeaf, IsReadySheet}
use Rattle.scene_parser.proofs.Each.{from_here}

-- ---- both lists, or the first fault

pub both_found : (ls new : List Leaf) (ss more : List Sheet) (m n : Option Misplaced) (r : Result (List Leaf) Misplaced) (q : Result (List Sheet) Misplaced) → unless m new ≡ appended ls r → unless n more ≡ appended ss q → first_of m n ≡ None → (parts : Placed) × (both r q ≡ Ok parts) × (new ≡ ls ++ parts.leaves) × (more ≡ ss ++ parts.sheets)
both_found ls new ss more None None (Ok xs) (Ok ys) a b none = (record { leaves = xs; sheets = ys }, refl, cc a, cc b)
both_found ls new ss more None None (Ok xs) (Err e) a b none = absurd (cc b)
both_found ls new ss more None None (Err d) q a b none = absurd (cc a)
both_found ls new ss more None (Some e) r q a b none = absurd (cc none)
both_found ls new ss more (Some d) None r q a b none = absurd (cc none)
both_found ls new ss more (Some d) (Some e) r q a b none = absurd (cc none)

pub both_fault : (ls new : List Leaf) (ss more : List Sheet) (m n : Option Misplaced) (r : Result (List Leaf) Misplaced) (q : Result (List Sheet) Misplaced) (e : Misplaced) → unless m new ≡ appended ls r → unless n more ≡ appended ss q → first_of m n ≡ Some e → both r q ≡ Err e
both_fault ls new ss more None None r q e a b some = absurd (cc some)
both_fault ls new ss more None (Some y) (Ok xs) (Ok ys) e a b some = absurd (cc b)
both_fault ls new ss more None (Some y) (Ok xs) (Err z) e a b some = cc (b, some)
both_fault ls new ss more None (Some y) (Err z) q e a b some = absurd (cc a)
both_fault ls new ss more (Some x) n (Ok xs) q e a b some = absurd (cc a)
both_fault ls new ss more (Some x) None (Err z) (Ok ys) e a b some = cc (a, some)
both_fault ls new ss more (Some x) None (Err z) (Err w) e a b some = absurd (cc b)
both_fault ls new ss more (Some x) (Some y) (Err z) (Ok ys) e a b some = absurd (cc b)
both_fault ls new ss more (Some x) (Some y) (Err z) (Err w) e a b some =
    let p : x ≡ z = cc a in
    let q : y ≡ w = cc b in
    let s : first_of (Some x) (Some y) ≡ Some e = some in
    subst (λ d. both (Err d) (Err w) ≡ Err e) p (subst (λ d. both (Err x) (Err d) ≡ Err e) q (ends s))
  where
    ends : {a b : Misplaced} → Some a ≡ Some b → ◌≡◌ {A = Result Placed Misplaced} (Err a) (Err b)
    ends is = cc is

pub parts_found : (numbers : Numbers) (held : Held) (no_shadow : Bool) (xs ys : List Xform) (drafts : List LeafDraft) (parts : List SheetPart) (ls new : List Leaf) (ss more : List Sheet) (m n : Option Misplaced) → xs ≡ held.things → ys ≡ held.things → drafts ≡ held.leaves → parts ≡ held.sheets → unless m new ≡ appended ls (each (leaf_placed numbers xs) drafts) → unless n more ≡ appended ss (each (sheet_placed numbers ys no_shadow) parts) → first_of m n ≡ None → (p : Placed) × (parts_placed numbers held no_shadow ≡ Ok p) × (new ≡ ls ++ p.leaves) × (more ≡ ss ++ p.sheets)
parts_found numbers held no_shadow xs ys drafts parts ls new ss more m n x y d p a b none =
    both_found ls new ss more m n (each (leaf_placed numbers held.things) held.leaves) (each (sheet_placed numbers held.things no_shadow) held.sheets)
    (subst (λ l. unless m new ≡ appended ls (each (leaf_placed numbers held.things) l)) d (subst (λ t. unless m new ≡ appended ls (each (leaf_placed numbers t) drafts)) x a))
    (subst (λ l. unless n more ≡ appended ss (each (sheet_placed numbers held.things no_shadow) l)) p (subst (λ t. unless n more ≡ appended ss (each (sheet_placed numbers t no_shadow) parts)) y b))
    none

-- both lists are those that are placed
pub both_leaves : (r : Result (List Leaf) Misplaced) (q : Result (List Sheet) Misplaced) (parts : Placed) → both r q ≡ Ok parts → r ≡ Ok parts.leaves
both_leaves (Ok xs) (Ok ys) parts is =
    let same : record { leaves = xs; sheets = ys } ≡ parts = cc is in
    ap (λ (p : Placed). Ok p.leaves) same
both_leaves (Ok xs) (Err e) parts is = absurd (cc is)
both_leaves (Err d) (Ok ys) parts is = absurd (cc is)
both_leaves (Err d) (Err e) parts is = absurd (cc is)

pub both_sheets : (r : Result (List Leaf) Misplaced) (q : Result (List Sheet) Misplaced) (parts : Placed) → both r q ≡ Ok parts → q ≡ Ok parts.sheets
both_sheets (Ok xs) (Ok ys) parts is =
    let same : record { leaves = xs; sheets = ys } ≡ parts = cc is in
    ap (λ (p : Placed). Ok p.sheets) same
both_sheets (Ok xs) (Err e) parts is = absurd (cc is)
both_sheets (Err d) (Ok ys) parts is = absurd (cc is)
both_sheets (Err d) (Err e) parts is = absurd (cc is)

-- ---- parts that are sound are ready

numbered : (numbers : Numbers) (count : ℕ) (texture : Option ℕ) → numbers.first + count < 2 ^ 32 → IfSome texture (λ n. n < count) → IsNumbered numbers texture
numbered numbers count None few some = tt
numbered numbers count (Some n) few some = omega (arith, few, some)

pub ready_leaves : (numbers : Numbers) (count : ℕ) (leaves : List LeafDraft) → numbers.first + count < 2 ^ 32 → All (IsSoundLeaf count) leaves → All (IsReadyLeaf numbers) leaves
ready_leaves numbers count leaves few all =
    All-weaker (IsSoundLeaf count) (IsReadyLeaf numbers) (λ leaf s. record { solid = s.solid; texture = numbered numbers count leaf.texture few s.texture; interior = s.interior }) leaves all

pub ready_sheets : (numbers : Numbers) (count : ℕ) (sheets : List SheetPart) → numbers.first + count < 2 ^ 32 → All (IsSoundSheet count) sheets → All (IsReadySheet numbers) sheets
ready_sheets numbers count sheets few all =
    All-weaker (IsSoundSheet count) (IsReadySheet numbers) (λ sheet s. record { texture = numbered numbers count sheet.texture few s.texture; interior = s.interior }) sheets all

-- ---- textures

module _ (default : TextureDraft) (things : List Xform) (given : List GivenTexture) where
  pub texture_turn : (all : List TextureView) (textures : List Texture) (i : ℕ) (one : GivenTexture) (texture : Texture) → all ≡ map texture_seen textures ++ textures_of default things (drop i given) → slice_get given i ≡ Some one → texture_seen texture ≡ texture_of (settled things one) default → all ≡ map texture_seen (textures ++ texture ∷ []) ++ textures_of default things (drop (i + 1) given)
  texture_turn all textures i one texture so at is =
      so ∙ ap (λ l. map texture_seen textures ++ textures_of default things l) (from_here given i one at)
      ∙ ap (λ v. map texture_seen textures ++ (v ∷ textures_of default things (drop (i + 1) given))) (sym is)
      ∙ sym (append_assoc (map texture_seen textures) (texture_seen texture ∷ []) (textures_of default things (drop (i + 1) given)))
      ∙ ap (λ l. l ++ textures_of default things (drop (i + 1) given)) (sym (map-append texture_seen textures (texture ∷ [])))

  pub texture_end : (all : List TextureView) (textures : List Texture) (i : ℕ) → all ≡ map texture_seen textures ++ textures_of default things (drop i given) → length given ≤ i → map texture_seen textures ≡ all
  texture_end all textures i so past =
      sym (so ∙ ap (λ l. map texture_seen textures ++ textures_of default things l) (drop_of_length-le given past) ∙ append-nil (map texture_seen textures))

pub count_of : (default : TextureDraft) (things : List Xform) (old new : List Texture) (given : List GivenTexture) → map texture_seen new ≡ map texture_seen old ++ textures_of default things given → length new ≡ length old + length given
count_of default things old new given is =
    sym (length-map new texture_seen) ∙ ap length is ∙ length-append (map texture_seen old) (textures_of default things given)
    ∙ ap (λ n. n + length (textures_of default things given)) (length-map old texture_seen)
    ∙ ap (λ n. length old + n) (length-map given (λ one. texture_of (settled things one) default))

-- each texture that is given is sound
pub sound_at : (given : List GivenTexture) (i : ℕ) (one : GivenTexture) → All (λ g. IsSoundTexture g.texture) given → slice_get given i ≡ Some one → IsSoundTexture one.texture
sound_at given i one all at = subst (λ (g : GivenTexture). IsSoundTexture g.texture) (get_or_from_slice_get given i one one at) (all i one (slice_get_within given i one at))
