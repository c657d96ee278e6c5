-- What is read of an object is sound: each statement keeps what is, and its leaves stand at the places of its shape.
use Rattle.std.specs.Prelude.{◌≡◌, ℕ, zero, suc, ◌+◌, ◌≤◌, ◌<◌, Bool, true, false, not, List, [], ◌∷◌, ◌++◌, map, take, drop, length, slice_index_or, if◌then◌else◌, Option, Some, None, Ok, IfSome, refl}
use Rattle.std.specs.List.{All}
use Rattle.std.proofs.Common.{sym, ap, ◌∙◌, arith}
use Rattle.std.proofs.lemmas.List.{length-append, length-map, take-append-drop}
use Rattle.std.proofs.lemmas.List.Elements.{All-nil, All-cons, All-append, All-take, All-drop, All-map, All-weaker, All-push}
use Rattle.scene_lexer.specs.declared.token.Token.{Token}
use Rattle.scene_expr.specs.declared.value.Settings.{Settings}
use Rattle.scene_model.specs.declared.shape.Op.{Op}
use Rattle.scene_model.specs.Places.{turned}
use Rattle.xform.specs.declared.transform.Xform.{Xform}
use Rattle.xform.specs.Transforms.{IsPlaced}
use Rattle.item_blocks.specs.declared.pigment.PigmentDraft.{PigmentDraft}
use Rattle.item_blocks.specs.declared.texture.Interior.{Interior}
use Rattle.item_blocks.specs.declared.texture.MaterialDraft.{MaterialDraft}
use Rattle.item_blocks.specs.declared.texture.TextureDraft.{TextureDraft}
use Rattle.item_blocks.specs.Sound.{IsSoundPigment, IsSoundTexture, IsSoundInterior, IsSoundMaterial}
use Rattle.item_blocks.specs.SoundBlocks.{look_kept}
use Rattle.item_blocks.specs.SoundLaws.{Keeps, kept_then, kept_same, kept_refused, kept_statements, moved_placed}
use Rattle.item_blocks.specs.Tokens.{or_else}
use Rattle.object_items.specs.declared.modifier.ModifierPart.{ModifierPart}
use Rattle.object_items.specs.declared.tables.GivenTexture.{GivenTexture}
use Rattle.object_items.specs.declared.tables.LeafDraft.{LeafDraft}
use Rattle.object_items.specs.declared.tables.Marks.{Marks}
use Rattle.object_items.specs.declared.tables.SheetPart.{SheetPart}
use Rattle.object_items.specs.Held.{Held, marks_of, is_given, from_on, clad_leaf, clad_sheet, clad, fill_leaf, fill_sheet, filled, pigment_thing, with_pigment, with_texture, dressed, closed_looks, turn_leaf, flip_leaf, flipped_from, leaf_number, sheet_number}
use Rattle.object_items.specs.Modifiers.{Said, own_thing, moved_pigment, moved_said, IsModifier, IsInversion, holds_sheets}
use Rattle.object_items.specs.Sound.{IsSoundLeaf, IsSoundSheet, IsSoundHeld, drafted_of}
use Rattle.object_items.specs.Statements.{Drawn, inverted, IsSaid}
use Rattle.object_items.specs.SoundPlaces.{KeepsSides, drafted_kept, drafted_turned, both_keep, from_front, map_twice, turned_again}
use Rattle.object_items.specs.SoundTrees.{told_of}
use Rattle.object_items.specs.Trees.{Tree, Trees}

-- ---- what is good of all that is held: it is sound, and not too much

pub record IsGood (held : Held) : Type 0 where
  pub sound : IsSoundHeld held
  pub few_leaves : leaf_number held ≤ 65536
  pub few_sheets : sheet_number held ≤ 131072

-- ---- modifiers: leaves, triangles and textures stay as they are

pub record IsSaidOf (held : Held) (said : Said) : Type 0 where
  pub things : All IsPlaced said.held.things
  pub looks : IsSoundMaterial said.looks
  pub leaves : said.held.leaves ≡ held.leaves
  pub sheets : said.held.sheets ≡ held.sheets
  pub textures : said.held.textures ≡ held.textures
  pub leaves_before : said.held.leaves_before ≡ held.leaves_before
  pub sheets_before : said.held.sheets_before ≡ held.sheets_before

own_placed : (pigment : Option PigmentDraft) → IfSome pigment IsSoundPigment → All IsPlaced (own_thing pigment)
own_placed None sound = All-nil IsPlaced
own_placed (Some pigment) sound = All-cons IsPlaced pigment.xform [] sound.xform (All-nil IsPlaced)

last_placed : (xs : List Xform) (i : ℕ) (x : Xform) → All IsPlaced xs → IsPlaced x → IsPlaced (slice_index_or xs i x)
last_placed [] i x all own = own
last_placed (y ∷ ys) zero x all own = all 0 x (omega arith)
last_placed (y ∷ ys) (suc i) x all own = last_placed ys i x (λ k d within. all (suc k) d (omega (arith, within))) own

pigment_placed : (pigment : Option PigmentDraft) (xs : List Xform) → IfSome pigment IsSoundPigment → All IsPlaced xs → IfSome (moved_pigment pigment xs) IsSoundPigment
pigment_placed None xs sound all = tt
pigment_placed (Some pigment) xs sound all = record { paint = sound.paint; map = sound.map; size = sound.size; width = sound.width; xform = last_placed xs _ pigment.xform all sound.xform }

moved_good : (held : Held) (marks : Marks) (said : Said) (xs : List Xform) → IsSaidOf held said → All IsPlaced xs → IsSaidOf held (moved_said marks said xs)
moved_good held marks said xs good all = record {
  things = All-append IsPlaced (take marks.things said.held.things) _ (All-take IsPlaced marks.things said.held.things good.things) (All-take IsPlaced _ xs all);
  looks = record { texture = record { pigment = pigment_placed said.looks.texture.pigment xs good.looks.texture.pigment all; finish = good.looks.texture.finish }; interior = good.looks.interior };
  leaves = good.leaves;
  sheets = good.sheets;
  textures = good.textures;
  leaves_before = good.leaves_before;
  sheets_before = good.sheets_before;
}

module _ (tokens : List Token) (set : Settings) (depths : ℕ) (held : Held) where
  said_with : (said : Said) (looks : MaterialDraft) (inverse no_shadow : Bool) → IsSaidOf held said → IsSoundMaterial looks → IsSaidOf held (record { looks = looks; inverse = inverse; no_shadow = no_shadow; held = said.held })
  said_with said looks inverse no_shadow good sound = record { things = good.things; looks = sound; leaves = good.leaves; sheets = good.sheets; textures = good.textures; leaves_before = good.leaves_before; sheets_before = good.sheets_before }

  kept_inversion : (sheets : Bool) → Keeps (IsSaidOf held) (IsInversion tokens sheets)
  kept_inversion true said at r good is = kept_refused (IsSaidOf held) _ r is
  kept_inversion false said at r good is = kept_same (IsSaidOf held) (record said { inverse = not said.inverse }) (at + 1) r (said_with said said.looks (not said.inverse) said.no_shadow good good.looks) is

  kept_modifier : (marks : Marks) (part : Option ModifierPart) → Keeps (IsSaidOf held) (IsModifier tokens set depths marks part)
  kept_modifier marks (Some (ModifierPart.Look part)) said at r good read =
      kept_then (λ b. IsSaidOf held b.value) read (λ looks found is.
      kept_same (IsSaidOf held) (record said { looks = looks.value }) looks.next r (said_with said looks.value said.inverse said.no_shadow good (look_kept tokens set depths part said.looks at (Ok looks) good.looks found)) is)
  kept_modifier marks (Some ModifierPart.Move) said at r good read =
      kept_then (λ b. IsSaidOf held b.value) read (λ moved found is.
      kept_same (IsSaidOf held) (moved_said marks said moved.value) moved.next r
      (moved_good held marks said moved.value good (moved_placed tokens set depths (drop marks.things said.held.things ++ own_thing said.looks.texture.pigment) at (Ok moved)
      (All-append IsPlaced (drop marks.things said.held.things) _ (All-drop IsPlaced marks.things said.held.things good.things) (own_placed said.looks.texture.pigment good.looks.texture.pigment)) found)) is)
  kept_modifier marks (Some ModifierPart.Inverse) said at r good is = kept_inversion (holds_sheets marks said) said at r good is
  kept_modifier marks (Some ModifierPart.NoShadow) said at r good is = kept_same (IsSaidOf held) (record said { no_shadow = true }) (at + 1) r (said_with said said.looks said.inverse true good good.looks) is
  kept_modifier marks (Some ModifierPart.Hollow) said at r good is = kept_same (IsSaidOf held) said _ r good is
  kept_modifier marks (Some ModifierPart.Hierarchy) said at r good is = kept_same (IsSaidOf held) said _ r good is
  kept_modifier marks (Some ModifierPart.Bound) said at r good read = kept_then (λ b. IsSaidOf held b.value) read (λ next found is. kept_same (IsSaidOf held) said next r good is)
  kept_modifier marks None said at r good is = kept_refused (IsSaidOf held) _ r is

  pub kept_said : (mesh : Bool) (marks : Marks) → Keeps (IsSaidOf held) (IsSaid tokens set depths mesh marks)
  kept_said mesh marks said at r good read =
      kept_statements (IsSaidOf held) tokens _ (λ said. None) (λ said at r good read. kept_modifier marks _ said at r good read) said at r good read

-- ---- where a statement is closed

below_more : (o : Option ℕ) (n m : ℕ) → n ≤ m → IfSome o (λ k. k < n) → IfSome o (λ k. k < m)
below_more None n m le below = tt
below_more (Some k) n m le below = omega (arith, le, below)

below_or : (o : Option ℕ) (n number : ℕ) → number < n → IfSome o (λ k. k < n) → IfSome (or_else o (Some number)) (λ k. k < n)
below_or None n number fits below = fits
below_or (Some k) n number fits below = below

filled_or : (o : Option Interior) (interior : Interior) → IsSoundInterior interior → IfSome o IsSoundInterior → IfSome (or_else o (Some interior)) IsSoundInterior
filled_or None interior sound own = sound
filled_or (Some i) interior sound own = own

leaf_more : (n m : ℕ) → n ≤ m → (leaf : LeafDraft) → IsSoundLeaf n leaf → IsSoundLeaf m leaf
leaf_more n m le leaf s = record { solid = s.solid; texture = below_more leaf.texture n m le s.texture; interior = s.interior }

sheet_more : (n m : ℕ) → n ≤ m → (part : SheetPart) → IsSoundSheet n part → IsSoundSheet m part
sheet_more n m le part s = record { texture = below_more part.texture n m le s.texture; interior = s.interior }

-- a change from a number on keeps what it keeps of each
changed_all : {A : Type 0} (P : A → Type 0) (change : A → A) → ((x : A) → P x → P (change x)) → (n : ℕ) (xs : List A) → All P xs → All P (from_on n change xs)
changed_all P change keeps n xs all =
    All-append P (take n xs) _ (All-take P n xs all) (All-map P change (drop n xs) (All-weaker P (λ x. P (change x)) keeps (drop n xs) (All-drop P n xs all)))

changed_length : {A : Type 0} (change : A → A) (n : ℕ) (xs : List A) → length (from_on n change xs) ≡ length xs
changed_length change n xs =
    length-append (take n xs) (map change (drop n xs)) ∙ ap (λ k. length (take n xs) + k) (length-map (drop n xs) change) ∙ sym (length-append (take n xs) (drop n xs)) ∙ ap length (take-append-drop n xs)

-- the leaves behind the first ones, changed without their sides
pub record IsSpread (xs ys leaves : List LeafDraft) : Type 0 where
  pub change : LeafDraft → LeafDraft
  pub keeps : KeepsSides change
  pub is : leaves ≡ xs ++ map change ys

spread_on : (xs ys leaves : List LeafDraft) (f : LeafDraft → LeafDraft) → KeepsSides f → IsSpread xs ys leaves → IsSpread xs ys (from_on (length xs) f leaves)
spread_on xs ys leaves f same s = record {
  change = λ leaf. f (s.change leaf);
  keeps = λ leaf. same (s.change leaf) ∙ s.keeps leaf;
  is = ap (from_on (length xs) f) s.is ∙ from_front f xs (map s.change ys) ∙ ap (λ l. xs ++ l) (map_twice f s.change ys);
}

-- what a statement that began at some tables holds so far, with these leaves
pub record IsHeldFrom (from : Held) (ys : List LeafDraft) (held : Held) : Type 0 where
  pub good : IsGood held
  pub spread : IsSpread from.leaves ys held.leaves
  pub leaves_before : held.leaves_before ≡ from.leaves_before
  pub sheets_before : held.sheets_before ≡ from.sheets_before

abbrev pub textured : Option PigmentDraft → TextureDraft → Held → Held
textured pigment texture held = record (with_pigment pigment held) { textures = held.textures ++ record { texture = texture; thing = pigment_thing pigment held } ∷ [] }

one_more : {A : Type 0} (xs : List A) (x : A) → length (xs ++ x ∷ []) ≡ length xs + 1
one_more xs x = length-append xs (x ∷ [])

module _ (from : Held) (ys : List LeafDraft) where
  given_more : (held : Held) (given : GivenTexture) (things : List Xform) → IsSoundTexture given.texture → All IsPlaced things → IsHeldFrom from ys held → IsHeldFrom from ys (record held { things = things; textures = held.textures ++ given ∷ [] })
  given_more held given things sound placed h =
      let le : length held.textures ≤ length (held.textures ++ given ∷ []) = omega (arith, one_more held.textures given) in
      record {
        good = record {
          sound = record {
            things = placed;
            leaves = All-weaker _ _ (leaf_more _ _ le) held.leaves h.good.sound.leaves;
            sheets = All-weaker _ _ (sheet_more _ _ le) held.sheets h.good.sound.sheets;
            textures = All-push (λ g. IsSoundTexture g.texture) held.textures given h.good.sound.textures sound;
          };
          few_leaves = h.good.few_leaves;
          few_sheets = h.good.few_sheets;
        };
        spread = h.spread;
        leaves_before = h.leaves_before;
        sheets_before = h.sheets_before;
      }

  pub textured_from : (pigment : Option PigmentDraft) (texture : TextureDraft) (held : Held) → IfSome pigment IsSoundPigment → IsSoundTexture texture → IsHeldFrom from ys held → IsHeldFrom from ys (textured pigment texture held)
  textured_from None texture held own sound h = given_more held (record { texture = texture; thing = None }) held.things sound h.good.sound.things h
  textured_from (Some pigment) texture held own sound h =
      given_more held (record { texture = texture; thing = Some (length held.things) }) (held.things ++ pigment.xform ∷ []) sound (All-push IsPlaced held.things pigment.xform h.good.sound.things own.xform) h

  clad_from : (number : ℕ) (held : Held) → number < length held.textures → IsHeldFrom from ys held → IsHeldFrom from ys (clad (marks_of from) number held)
  clad_from number held fits h = record {
    good = record {
      sound = record {
        things = h.good.sound.things;
        leaves = changed_all (IsSoundLeaf (length held.textures)) (clad_leaf number) (λ leaf s. record { solid = s.solid; texture = below_or leaf.texture _ number fits s.texture; interior = s.interior }) (length from.leaves) held.leaves h.good.sound.leaves;
        sheets = changed_all (IsSoundSheet (length held.textures)) (clad_sheet number) (λ part s. record { texture = below_or part.texture _ number fits s.texture; interior = s.interior }) (length from.sheets) held.sheets h.good.sound.sheets;
        textures = h.good.sound.textures;
      };
      few_leaves = omega (arith, h.good.few_leaves, changed_length (clad_leaf number) (length from.leaves) held.leaves);
      few_sheets = omega (arith, h.good.few_sheets, changed_length (clad_sheet number) (length from.sheets) held.sheets);
    };
    spread = spread_on from.leaves ys held.leaves (clad_leaf number) (λ leaf. refl) h.spread;
    leaves_before = h.leaves_before;
    sheets_before = h.sheets_before;
  }

  filled_from : (interior : Option Interior) (held : Held) → IfSome interior IsSoundInterior → IsHeldFrom from ys held → IsHeldFrom from ys (filled (marks_of from) interior held)
  filled_from None held sound h = h
  filled_from (Some interior) held sound h = record {
    good = record {
      sound = record {
        things = h.good.sound.things;
        leaves = changed_all (IsSoundLeaf (length held.textures)) (fill_leaf interior) (λ leaf s. record { solid = s.solid; texture = s.texture; interior = filled_or leaf.interior interior sound s.interior }) (length from.leaves) held.leaves h.good.sound.leaves;
        sheets = changed_all (IsSoundSheet (length held.textures)) (fill_sheet interior) (λ part s. record { texture = s.texture; interior = filled_or part.interior interior sound s.interior }) (length from.sheets) held.sheets h.good.sound.sheets;
        textures = h.good.sound.textures;
      };
      few_leaves = omega (arith, h.good.few_leaves, changed_length (fill_leaf interior) (length from.leaves) held.leaves);
      few_sheets = omega (arith, h.good.few_sheets, changed_length (fill_sheet interior) (length from.sheets) held.sheets);
    };
    spread = spread_on from.leaves ys held.leaves (fill_leaf interior) (λ leaf. refl) h.spread;
    leaves_before = h.leaves_before;
    sheets_before = h.sheets_before;
  }

  pub textured_length : (pigment : Option PigmentDraft) (texture : TextureDraft) (held : Held) → length held.textures < length (textured pigment texture held).textures
  textured_length pigment texture held = omega (arith, one_more held.textures (record { texture = texture; thing = pigment_thing pigment held }))

  dressed_by : (given : Bool) (texture : TextureDraft) (held : Held) → IsSoundTexture texture → IsHeldFrom from ys held → IsHeldFrom from ys (if given then clad (marks_of from) (length held.textures) (with_texture texture held) else held)
  dressed_by true texture held sound h =
      clad_from (length held.textures) (with_texture texture held) (textured_length texture.pigment texture held) (textured_from texture.pigment texture held sound.pigment sound h)
  dressed_by false texture held sound h = h

  pub closed_from : (looks : MaterialDraft) (held : Held) → IsSoundMaterial looks → IsHeldFrom from ys held → IsHeldFrom from ys (closed_looks (marks_of from) looks held)
  closed_from looks held sound h = filled_from looks.interior (dressed (marks_of from) looks.texture held) sound.interior (dressed_by (is_given looks.texture) looks.texture held sound.texture h)

  pub turned_good : (f : LeafDraft → LeafDraft) → ((n : ℕ) (leaf : LeafDraft) → IsSoundLeaf n leaf → IsSoundLeaf n (f leaf)) → (held : Held) → IsGood held → IsGood (record held { leaves = from_on (length from.leaves) f held.leaves })
  turned_good f keeps held h = record {
    sound = record { things = h.sound.things; leaves = changed_all _ f (keeps _) (length from.leaves) held.leaves h.sound.leaves; sheets = h.sound.sheets; textures = h.sound.textures };
    few_leaves = omega (arith, h.few_leaves, changed_length f (length from.leaves) held.leaves);
    few_sheets = h.few_sheets;
  }

pub turn_sound : (n : ℕ) (leaf : LeafDraft) → IsSoundLeaf n leaf → IsSoundLeaf n (turn_leaf leaf)
turn_sound n leaf s = record { solid = s.solid; texture = s.texture; interior = s.interior }

flip_sound : (n : ℕ) (leaf : LeafDraft) → IsSoundLeaf n leaf → IsSoundLeaf n (flip_leaf leaf)
flip_sound n leaf s = record { solid = s.solid; texture = s.texture; interior = s.interior }

-- ---- what is told of a tree is what its leaves say, from a number in the scene on

pub record IsToldOf (depths number : ℕ) (leaves : List LeafDraft) (tree : Tree) : Type 0 where
  pub places : (object : ℕ) → (told_of object tree).places ≡ drafted_of object number leaves
  pub filled : (object : ℕ) → (told_of object tree).filled ≡ true
  pub flat : (object : ℕ) → (told_of object tree).depth ≤ depths

abbrev pub IsTreeOf : ℕ → ℕ → List LeafDraft → Option Tree → Type 0
IsTreeOf depths number leaves None = leaves ≡ []
IsTreeOf depths number leaves (Some tree) = IsToldOf depths number leaves tree

pub tree_kept : (depths number : ℕ) (leaves : List LeafDraft) (tree : Option Tree) (change : LeafDraft → LeafDraft) → KeepsSides change → IsTreeOf depths number leaves tree → IsTreeOf depths number (map change leaves) tree
tree_kept depths number leaves None change keeps none = ap (map change) none
tree_kept depths number leaves (Some tree) change keeps told = record {
  places = λ object. told.places object ∙ sym (drafted_kept change keeps object number leaves);
  filled = told.filled;
  flat = told.flat;
}

-- what is drawn behind some tables: its leaves stand behind theirs
pub record IsDrawnFrom (depths : ℕ) (from : Held) (drawn : Drawn) : Type 0 where
  pub good : IsGood drawn.held
  pub new : List LeafDraft
  pub leaves : drawn.held.leaves ≡ from.leaves ++ new
  pub tree : IsTreeOf depths (leaf_number from) new drawn.tree
  pub leaves_before : drawn.held.leaves_before ≡ from.leaves_before
  pub sheets_before : drawn.held.sheets_before ≡ from.sheets_before

-- where it is inverted
module _ (depths : ℕ) (from : Held) where
  turned_leaves : (f : LeafDraft → LeafDraft) (held : Held) (new : List LeafDraft) → held.leaves ≡ from.leaves ++ new → from_on (length from.leaves) f held.leaves ≡ from.leaves ++ map f new
  turned_leaves f held new is = ap (from_on (length from.leaves) f) is ∙ from_front f from.leaves new

  group_turned : (op : Op) (parts : Trees) (inverse : Bool) (number : ℕ) (new : List LeafDraft) → IsToldOf depths number new (Tree.group op parts inverse) → IsToldOf depths number (map turn_leaf new) (Tree.group op parts (not inverse))
  group_turned op parts inverse number new told = record {
    places = λ object. sym (turned_again inverse _) ∙ ap (map (turned true)) (told.places object) ∙ sym (drafted_turned object number new);
    filled = told.filled;
    flat = told.flat;
  }

  pub inverted_from : (inverse : Bool) (held : Held) (tree : Option Tree) (no_shadow : Bool) → IsDrawnFrom depths from (record { held = held; tree = tree; no_shadow = no_shadow }) → IsDrawnFrom depths from (inverted inverse (length from.leaves) (record { held = held; tree = tree; no_shadow = no_shadow }))
  inverted_from false held tree no_shadow d = d
  inverted_from true held None no_shadow d = record {
    good = turned_good from d.new turn_leaf turn_sound held d.good;
    new = map turn_leaf d.new;
    leaves = turned_leaves turn_leaf held d.new d.leaves;
    tree = ap (map turn_leaf) d.tree;
    leaves_before = d.leaves_before;
    sheets_before = d.sheets_before;
  }
  inverted_from true held (Some (Tree.leaf n)) no_shadow d =
      let flipped = turned_leaves flip_leaf held d.new d.leaves in
      record {
        good = turned_good from d.new turn_leaf turn_sound (flipped_from (length from.leaves) held) (turned_good from d.new flip_leaf flip_sound held d.good);
        new = map (λ leaf. turn_leaf (flip_leaf leaf)) d.new;
        leaves = ap (from_on (length from.leaves) turn_leaf) flipped ∙ from_front turn_leaf from.leaves (map flip_leaf d.new) ∙ ap (λ l. from.leaves ++ l) (map_twice turn_leaf flip_leaf d.new);
        tree = tree_kept depths (leaf_number from) d.new (Some (Tree.leaf n)) (λ leaf. turn_leaf (flip_leaf leaf)) both_keep d.tree;
        leaves_before = d.leaves_before;
        sheets_before = d.sheets_before;
      }
  inverted_from true held (Some (Tree.group op parts inverse)) no_shadow d = record {
    good = turned_good from d.new turn_leaf turn_sound held d.good;
    new = map turn_leaf d.new;
    leaves = turned_leaves turn_leaf held d.new d.leaves;
    tree = group_turned op parts inverse (leaf_number from) d.new d.tree;
    leaves_before = d.leaves_before;
    sheets_before = d.sheets_before;
  }
