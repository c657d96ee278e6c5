-- A valid scene with one object more is valid: its leaves, triangles and textures stand behind those before, and its leaves say where they stand.
use Rattle.std.proofs.Common.{◌≡◌, ◌≤◌, ◌<◌, ◌+◌, ℕ, suc, Bool, List, [], ◌∷◌, ◌++◌, Option, Some, None, Result, Ok, Err, length, refl, sym, ap, ◌∙◌, subst, arith, length-append}
use Rattle.std.specs.Prelude.{IfSome}
use Rattle.std.specs.List.{All}
use Rattle.std.proofs.lemmas.List.{append-nil, append_assoc}
use Rattle.std.proofs.lemmas.List.Elements.{All-append, All-nil, All-cons, All-weaker}
use Rattle.scene_model.specs.declared.scene.Object.{Object}
use Rattle.scene_model.specs.declared.scene.Scene.{Scene}
use Rattle.scene_model.specs.declared.scene.Sheet.{Sheet}
use Rattle.scene_model.specs.declared.shape.Leaf.{Leaf}
use Rattle.scene_model.specs.declared.shape.Shape.{Shape}
use Rattle.scene_model.specs.declared.texture.Texture.{Texture}
use Rattle.scene_model.specs.Looks.{IsTexture}
use Rattle.scene_model.specs.Places.{Place, differ, places_in, places_of, told_of}
use Rattle.scene_model.specs.Solids.{IsLeaf}
use Rattle.scene_model.specs.Valid.{Valid, IsObject, IsSheet}
use Rattle.xform.specs.declared.transform.Spot.{Spot}
use Rattle.xform.specs.declared.transform.Xform.{Xform}
use Rattle.xform.specs.declared.transform.XformFault.{XformFault}
use Rattle.item_blocks.specs.Made.{ior_of}
use Rattle.solid_items.specs.Sheets.{and_then, corner_in}
use Rattle.solid_items.specs.Solids.{spot_in, leaf_by, leaf_with}
use Rattle.object_items.specs.declared.object.ObjectDraft.{ObjectDraft}
use Rattle.object_items.specs.declared.tables.LeafDraft.{LeafDraft}
use Rattle.object_items.specs.declared.tables.SheetPart.{SheetPart}
use Rattle.object_items.specs.Held.{Held}
use Rattle.object_items.specs.Sound.{IsSoundLeaf, IsSoundSheet, IsShaped, IsSoundObject, drafted_of}
use Rattle.scene_parser.specs.declared.placed.Numbers.{Numbers}
use Rattle.scene_parser.specs.Placed.{thing_at, texture_number, role_of, leaf_placed, sheet_placed, each, object_row}
use Rattle.scene_parser.proofs.Each.{Pairs, each_pairs, same_count}

-- ---- what a leaf and a triangle that are placed have of their drafts

pub record IsDrawn (numbers : Numbers) (draft : LeafDraft) (leaf : Leaf) : Type 0 where
  pub inverse : leaf.inverse ≡ draft.inverse
  pub negated : leaf.negated ≡ draft.negated
  pub object : leaf.object ≡ numbers.object
  pub texture : leaf.texture ≡ texture_number numbers draft.texture

leaf_by_spot : (numbers : Numbers) (draft : LeafDraft) (x : Xform) (leaf : Leaf) (spot : Result Spot XformFault) → leaf_by draft.solid x (role_of numbers draft) spot ≡ Ok leaf → IsDrawn numbers draft leaf
leaf_by_spot numbers draft x leaf (Ok spot) is =
    let same : leaf_with draft.solid x (role_of numbers draft) spot ≡ leaf = cc is in
    subst (λ l. IsDrawn numbers draft l) same (record { inverse = refl; negated = refl; object = refl; texture = refl })
leaf_by_spot numbers draft x leaf (Err f) is = absurd (cc is)

leaf_drawn : (numbers : Numbers) (things : List Xform) (draft : LeafDraft) (leaf : Leaf) → leaf_placed numbers things draft ≡ Ok leaf → IsDrawn numbers draft leaf
leaf_drawn numbers things draft leaf is = leaf_by_spot numbers draft (thing_at things draft.thing) leaf (spot_in draft.solid (thing_at things draft.thing)) is

-- a second calculation has the value of what follows the first
and_ok : {A B E : Type 0} (Q : B → Type 0) (r : Result A E) (f : A → Result B E) (b : B) → ((a : A) → f a ≡ Ok b → Q b) → and_then r f ≡ Ok b → Q b
and_ok Q (Ok a) f b further is = further a is
and_ok Q (Err e) f b further is = absurd (cc is)

abbrev IsOf : Numbers → SheetPart → Sheet → Type 0
IsOf numbers part sheet = sheet.texture ≡ texture_number numbers part.texture

sheet_drawn : (numbers : Numbers) (things : List Xform) (no_shadow : Bool) (part : SheetPart) (sheet : Sheet) → sheet_placed numbers things no_shadow part ≡ Ok sheet → IsOf numbers part sheet
sheet_drawn numbers things no_shadow part sheet is =
    and_ok (IsOf numbers part) (corner_in part.sheet.smooth (thing_at things part.thing) part.sheet.a) _ sheet (λ a more.
    and_ok (IsOf numbers part) (corner_in part.sheet.smooth (thing_at things part.thing) part.sheet.b) _ sheet (λ b more.
    and_ok (IsOf numbers part) (corner_in part.sheet.smooth (thing_at things part.thing) part.sheet.c) _ sheet (λ c last.
    let same : record {
      a = a.point;
      b = b.point;
      c = c.point;
      smooth = part.sheet.smooth;
      na = a.normal;
      nb = b.normal;
      nc = c.normal;
      texture = texture_number numbers part.texture;
      ior = ior_of part.interior;
      no_shadow = no_shadow;
    } ≡ sheet = cc last in
    subst (λ s. IsOf numbers part s) same refl) more) more) is

-- ---- textures: each number is one of the scene's

below : (numbers : Numbers) (most : ℕ) (texture : Option ℕ) → numbers.standard < most → IfSome texture (λ n. numbers.first + n < most) → texture_number numbers texture < most
below numbers most None standard some = standard
below numbers most (Some n) standard some = some

abbrev HasTexture : Numbers → ℕ → Option ℕ → Type 0
HasTexture numbers most texture = IfSome texture (λ n. numbers.first + n < most)

leaves_below : (numbers : Numbers) (most : ℕ) (drafts : List LeafDraft) (leaves : List Leaf) → numbers.standard < most → All (λ draft. HasTexture numbers most draft.texture) drafts → Pairs (IsDrawn numbers) drafts leaves → All (λ leaf. leaf.texture < most) leaves
leaves_below numbers most [] [] standard all pairs = All-nil _
leaves_below numbers most [] (leaf ∷ leaves) standard all pairs = absurd pairs
leaves_below numbers most (draft ∷ drafts) [] standard all pairs = absurd pairs
leaves_below numbers most (draft ∷ drafts) (leaf ∷ leaves) standard all pairs =
    let one : leaf.texture < most = subst (λ n. n < most) (sym pairs.0.texture) (below numbers most draft.texture standard (all 0 draft (omega arith))) in
    All-cons (λ leaf. leaf.texture < most) leaf leaves one (leaves_below numbers most drafts leaves standard (λ i d within. all (suc i) d (omega (arith, within))) pairs.1)

sheets_below : (numbers : Numbers) (most : ℕ) (parts : List SheetPart) (sheets : List Sheet) → numbers.standard < most → All (λ part. HasTexture numbers most part.texture) parts → Pairs (IsOf numbers) parts sheets → All (λ sheet. sheet.texture < most) sheets
sheets_below numbers most [] [] standard all pairs = All-nil _
sheets_below numbers most [] (sheet ∷ sheets) standard all pairs = absurd pairs
sheets_below numbers most (part ∷ parts) [] standard all pairs = absurd pairs
sheets_below numbers most (part ∷ parts) (sheet ∷ sheets) standard all pairs =
    let one : sheet.texture < most = subst (λ n. n < most) (sym pairs.0) (below numbers most part.texture standard (all 0 part (omega arith))) in
    All-cons (λ sheet. sheet.texture < most) sheet sheets one (sheets_below numbers most parts sheets standard (λ i d within. all (suc i) d (omega (arith, within))) pairs.1)

-- behind so many textures, of which there are so many more
shifted : (first count most : ℕ) (texture : Option ℕ) → first + count ≤ most → IfSome texture (λ n. n < count) → IfSome texture (λ n. first + n < most)
shifted first count most None few some = tt
shifted first count most (Some n) few some = omega (arith, few, some)

-- ---- places: what the leaves say is where they stand

abbrev place : ℕ → Bool → Bool → ℕ → Place
place number negated inverse object = record { leaf = number; negated = differ negated inverse; object = object }

same_place : (number : ℕ) (a b c d : Bool) (e f : ℕ) → a ≡ b → c ≡ d → e ≡ f → place number a c e ≡ place number b d f
same_place number a b c d e f p q r = ap (λ z. place number z c e) p ∙ ap (λ z. place number b z e) q ∙ ap (λ z. place number b d z) r

told_drawn : (numbers : Numbers) (number : ℕ) (drafts : List LeafDraft) (leaves : List Leaf) → Pairs (IsDrawn numbers) drafts leaves → told_of number leaves ≡ drafted_of numbers.object number drafts
told_drawn numbers number [] [] pairs = refl
told_drawn numbers number [] (leaf ∷ leaves) pairs = absurd pairs
told_drawn numbers number (draft ∷ drafts) [] pairs = absurd pairs
told_drawn numbers number (draft ∷ drafts) (leaf ∷ leaves) pairs =
    ap (λ p. p ∷ told_of (number + 1) leaves) (same_place number leaf.negated draft.negated leaf.inverse draft.inverse leaf.object numbers.object pairs.0.negated pairs.0.inverse pairs.0.object)
    ∙ ap (λ l. place number draft.negated draft.inverse numbers.object ∷ l) (told_drawn numbers (number + 1) drafts leaves pairs.1)

told_added : (number : ℕ) (xs ys : List Leaf) → told_of number (xs ++ ys) ≡ told_of number xs ++ told_of (number + length xs) ys
told_added number [] ys = ap (λ n. told_of n ys) (omega arith)
told_added number (x ∷ xs) ys =
    let e : number + 1 + length xs ≡ number + suc (length xs) = omega arith in
    ap (λ l. place number x.negated x.inverse x.object ∷ l) (told_added (number + 1) xs ys ∙ ap (λ n. told_of (number + 1) xs ++ told_of n ys) e)

places_added : (number : ℕ) (xs ys : List Object) → places_of number (xs ++ ys) ≡ places_of number xs ++ places_of (number + length xs) ys
places_added number [] ys = ap (λ n. places_of n ys) (omega arith)
places_added number (x ∷ xs) ys =
    let e : number + 1 + length xs ≡ number + suc (length xs) = omega arith in
    ap (λ l. places_in number x.shape ++ l) (places_added (number + 1) xs ys ∙ ap (λ n. places_of (number + 1) xs ++ places_of n ys) e)
    ∙ sym (append_assoc (places_in number x.shape) (places_of (number + 1) xs) (places_of (number + suc (length xs)) ys))

-- the places of the one object, or of none
placed_row : (held : Held) (shape : Option Shape) (no_shadow : Bool) (object : ℕ) → IsShaped held shape → places_of object (object_row shape no_shadow) ≡ drafted_of object held.leaves_before held.leaves
placed_row held None no_shadow object shaped = ap (λ l. drafted_of object held.leaves_before l) (sym shaped)
placed_row held (Some shape) no_shadow object shaped = append-nil (places_in object shape) ∙ shaped.places object

row_objects : (held : Held) (shape : Option Shape) (no_shadow : Bool) → IsShaped held shape → All IsObject (object_row shape no_shadow)
row_objects held None no_shadow shaped = All-nil IsObject
row_objects held (Some shape) no_shadow shaped =
    All-cons IsObject (record { shape = shape; no_shadow = no_shadow }) [] (record { filled = shaped.filled; flat = shaped.flat }) (All-nil IsObject)

-- ---- a scene and the one with an object more

pub record IsGrown (scene new : Scene) (object : ObjectDraft) (numbers : Numbers) (leaves : List Leaf) (sheets : List Sheet) : Type 0 where
  pub camera : new.camera ≡ scene.camera
  pub lights : new.lights.items ≡ scene.lights.items
  pub background : new.background ≡ scene.background
  pub ambient_light : new.ambient_light ≡ scene.ambient_light
  pub levels : new.levels ≡ scene.levels
  pub adc : new.adc ≡ scene.adc
  pub all_objects : new.objects.items ≡ scene.objects.items ++ object_row object.shape object.no_shadow
  pub more_leaves : new.leaves.items ≡ scene.leaves.items ++ leaves
  pub more_sheets : new.sheets.items ≡ scene.sheets.items ++ sheets
  pub textures : length new.textures.items ≡ length scene.textures.items + length object.tables.textures
  pub all_leaves : All IsLeaf new.leaves.items
  pub all_sheets : All IsSheet new.sheets.items
  pub all_textures : All IsTexture new.textures.items
  pub placed_leaves : each (leaf_placed numbers object.tables.things) object.tables.leaves ≡ Ok leaves
  pub placed_sheets : each (sheet_placed numbers object.tables.things object.no_shadow) object.tables.sheets ≡ Ok sheets
  pub own : numbers.object ≡ length scene.objects.items
  pub first : numbers.first ≡ length scene.textures.items
  pub standard : numbers.standard < length scene.textures.items

module _ (scene new : Scene) (object : ObjectDraft) (numbers : Numbers) (leaves : List Leaf) (sheets : List Sheet) (v : Valid scene) (s : IsSoundObject (length scene.leaves.items) (length scene.sheets.items) object) (g : IsGrown scene new object numbers leaves sheets) where
  drawn_leaves : Pairs (IsDrawn numbers) object.tables.leaves leaves
  drawn_leaves = each_pairs (leaf_placed numbers object.tables.things) (IsDrawn numbers) (leaf_drawn numbers object.tables.things) object.tables.leaves leaves g.placed_leaves

  drawn_sheets : Pairs (IsOf numbers) object.tables.sheets sheets
  drawn_sheets = each_pairs (sheet_placed numbers object.tables.things object.no_shadow) (IsOf numbers) (sheet_drawn numbers object.tables.things object.no_shadow) object.tables.sheets sheets g.placed_sheets

  room : numbers.first + length object.tables.textures ≤ length new.textures.items
  room = omega (arith, g.first, g.textures)

  standard : numbers.standard < length new.textures.items
  standard = omega (arith, g.standard, g.textures)

  leaf_textures : All (λ leaf. leaf.texture < length new.textures.items) new.leaves.items
  leaf_textures =
      let old = All-weaker (λ leaf. leaf.texture < length scene.textures.items) (λ leaf. leaf.texture < length new.textures.items) (λ leaf few. omega (arith, few, g.textures)) scene.leaves.items v.leaf_textures in
      let numbered = All-weaker (IsSoundLeaf (length object.tables.textures)) (λ draft. HasTexture numbers (length new.textures.items) draft.texture) (λ draft sound. shifted numbers.first (length object.tables.textures) (length new.textures.items) draft.texture room sound.texture) object.tables.leaves s.held.leaves in
      let added = leaves_below numbers (length new.textures.items) object.tables.leaves leaves standard numbered drawn_leaves in
      subst (λ l. All (λ leaf. leaf.texture < length new.textures.items) l) (sym g.more_leaves) (All-append (λ leaf. leaf.texture < length new.textures.items) scene.leaves.items leaves old added)

  sheet_textures : All (λ sheet. sheet.texture < length new.textures.items) new.sheets.items
  sheet_textures =
      let old = All-weaker (λ sheet. sheet.texture < length scene.textures.items) (λ sheet. sheet.texture < length new.textures.items) (λ sheet few. omega (arith, few, g.textures)) scene.sheets.items v.sheet_textures in
      let numbered = All-weaker (IsSoundSheet (length object.tables.textures)) (λ part. HasTexture numbers (length new.textures.items) part.texture) (λ part sound. shifted numbers.first (length object.tables.textures) (length new.textures.items) part.texture room sound.texture) object.tables.sheets s.held.sheets in
      let added = sheets_below numbers (length new.textures.items) object.tables.sheets sheets standard numbered drawn_sheets in
      subst (λ l. All (λ sheet. sheet.texture < length new.textures.items) l) (sym g.more_sheets) (All-append (λ sheet. sheet.texture < length new.textures.items) scene.sheets.items sheets old added)

  places : places_of 0 new.objects.items ≡ told_of 0 new.leaves.items
  places =
      let start : 0 + length scene.objects.items ≡ length scene.objects.items = omega arith in
      let begun : 0 + length scene.leaves.items ≡ length scene.leaves.items = omega arith in
      let before : drafted_of numbers.object object.tables.leaves_before object.tables.leaves ≡ drafted_of numbers.object (length scene.leaves.items) object.tables.leaves = ap (λ n. drafted_of numbers.object n object.tables.leaves) s.before in
      ap (λ l. places_of 0 l) g.all_objects
      ∙ places_added 0 scene.objects.items (object_row object.shape object.no_shadow)
      ∙ ap (λ n. places_of 0 scene.objects.items ++ places_of n (object_row object.shape object.no_shadow)) (start ∙ sym g.own)
      ∙ ap (λ l. places_of 0 scene.objects.items ++ l) (placed_row object.tables object.shape object.no_shadow numbers.object s.shape ∙ before ∙ sym (told_drawn numbers (length scene.leaves.items) object.tables.leaves leaves drawn_leaves))
      ∙ ap (λ l. l ++ told_of (length scene.leaves.items) leaves) v.places
      ∙ ap (λ n. told_of 0 scene.leaves.items ++ told_of n leaves) (sym begun)
      ∙ sym (told_added 0 scene.leaves.items leaves)
      ∙ ap (λ l. told_of 0 l) (sym g.more_leaves)

  few_leaves : length new.leaves.items ≤ 65536
  few_leaves =
      let many : length new.leaves.items ≡ length scene.leaves.items + length leaves = ap length g.more_leaves ∙ length-append scene.leaves.items leaves in
      let same : length leaves ≡ length object.tables.leaves = same_count (IsDrawn numbers) object.tables.leaves leaves drawn_leaves in
      omega (arith, many, same, s.few_leaves)

  few_sheets : length new.sheets.items ≤ 131072
  few_sheets =
      let many : length new.sheets.items ≡ length scene.sheets.items + length sheets = ap length g.more_sheets ∙ length-append scene.sheets.items sheets in
      let same : length sheets ≡ length object.tables.sheets = same_count (IsOf numbers) object.tables.sheets sheets drawn_sheets in
      omega (arith, many, same, s.few_sheets)

  pub grown_valid : Valid new
  grown_valid = record {
    camera = rw g.camera v.camera;
    lights = rw g.lights v.lights;
    few_lights = rw g.lights v.few_lights;
    objects = rw g.all_objects (All-append IsObject scene.objects.items (object_row object.shape object.no_shadow) v.objects (row_objects object.tables object.shape object.no_shadow s.shape));
    leaves = g.all_leaves;
    few_leaves = few_leaves;
    places = places;
    sheets = g.all_sheets;
    few_sheets = few_sheets;
    textures = g.all_textures;
    leaf_textures = leaf_textures;
    sheet_textures = sheet_textures;
    background = rw g.background v.background;
    ambient_light = rw g.ambient_light v.ambient_light;
    levels_low = rw g.levels v.levels_low;
    levels_high = rw g.levels v.levels_high;
    adc = rw g.adc v.adc;
  }

-- ---- a scene and the one with a texture more

pub record IsBeside (scene new : Scene) : Type 0 where
  pub camera : new.camera ≡ scene.camera
  pub lights : new.lights.items ≡ scene.lights.items
  pub objects : new.objects.items ≡ scene.objects.items
  pub leaves : new.leaves.items ≡ scene.leaves.items
  pub sheets : new.sheets.items ≡ scene.sheets.items
  pub background : new.background ≡ scene.background
  pub ambient_light : new.ambient_light ≡ scene.ambient_light
  pub levels : new.levels ≡ scene.levels
  pub adc : new.adc ≡ scene.adc

module _ (scene new : Scene) (texture : Texture) (v : Valid scene) (t : IsTexture texture) (s : IsBeside scene new) (is : new.textures.items ≡ scene.textures.items ++ texture ∷ []) where
  pub one_more : length new.textures.items ≡ length scene.textures.items + 1
  one_more = ap length is ∙ length-append scene.textures.items (texture ∷ [])

  pub clad_valid : Valid new
  clad_valid = record {
    camera = rw s.camera v.camera;
    lights = rw s.lights v.lights;
    few_lights = rw s.lights v.few_lights;
    objects = rw s.objects v.objects;
    leaves = rw s.leaves v.leaves;
    few_leaves = rw s.leaves v.few_leaves;
    places = ap (λ l. places_of 0 l) s.objects ∙ v.places ∙ ap (λ l. told_of 0 l) (sym s.leaves);
    sheets = rw s.sheets v.sheets;
    few_sheets = rw s.sheets v.few_sheets;
    textures = rw is (All-append IsTexture scene.textures.items (texture ∷ []) v.textures (All-cons IsTexture texture [] t (All-nil IsTexture)));
    leaf_textures = rw s.leaves (All-weaker (λ leaf. leaf.texture < length scene.textures.items) (λ leaf. leaf.texture < length new.textures.items) (λ leaf few. omega (arith, few, one_more)) scene.leaves.items v.leaf_textures);
    sheet_textures = rw s.sheets (All-weaker (λ sheet. sheet.texture < length scene.textures.items) (λ sheet. sheet.texture < length new.textures.items) (λ sheet few. omega (arith, few, one_more)) scene.sheets.items v.sheet_textures);
    background = rw s.background v.background;
    ambient_light = rw s.ambient_light v.ambient_light;
    levels_low = rw s.levels v.levels_low;
    levels_high = rw s.levels v.levels_high;
    adc = rw s.adc v.adc;
  }
