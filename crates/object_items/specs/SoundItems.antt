-- An object that is read is sound, by its statements: solids, triangles, meshes, groups and holders.
use Rattle.std.specs.Prelude.{◌≡◌, ◌≢◌, ℕ, ◌+◌, ◌-◌, ◌<◌, Bool, true, false, ◌||◌, nat_eq, nat_lt, List, [], ◌∷◌, ◌++◌, map, length, if◌then◌else◌, Option, Some, None, Result, Ok, Err, IfOk, IfSome, refl}
use Rattle.std.specs.List.{All}
use Rattle.std.proofs.Common.{subst, sym, ap, ◌∙◌, arith}
use Rattle.std.proofs.lemmas.Bool.Decides.{nat_tests}
use Rattle.std.proofs.lemmas.List.{append-nil, length-append, map-id}
use Rattle.std.proofs.lemmas.List.Elements.{All-push}
use Rattle.scene_lexer.specs.declared.sign.TheConstants.{OPEN_BRACE}
use Rattle.scene_lexer.specs.declared.token.Token.{Token}
use Rattle.scene_expr.specs.declared.value.Settings.{Settings}
use Rattle.scene_expr.specs.Heads.{sign_at}
use Rattle.xform.specs.Transforms.{start_of, IsPlaced}
use Rattle.item_blocks.specs.declared.fault.ParseFault.{ParseFault}
use Rattle.item_blocks.specs.declared.texture.TextureDraft.{TextureDraft}
use Rattle.item_blocks.specs.declared.words.SolidWord.{SolidWord}
use Rattle.item_blocks.specs.Blocks.{Statement}
use Rattle.item_blocks.specs.Sound.{IsSoundTexture}
use Rattle.item_blocks.specs.SoundBlocks.{no_texture_sound, no_material_sound, texture_kept}
use Rattle.item_blocks.specs.SoundLaws.{Keeps, kept_then, kept_is, kept_same, kept_refused, start_placed}
use Rattle.item_blocks.specs.Textures.{no_texture}
use Rattle.item_blocks.specs.Tokens.{word_at, opened, Behind}
use Rattle.solid_items.specs.declared.draft.SheetDraft.{SheetDraft}
use Rattle.solid_items.specs.declared.draft.SolidDraft.{SolidDraft}
use Rattle.solid_items.specs.Solids.{IsSound}
use Rattle.object_items.specs.declared.tables.LeafDraft.{LeafDraft}
use Rattle.object_items.specs.declared.tables.SheetPart.{SheetPart}
use Rattle.object_items.specs.Held.{Held, marks_of, with_thing, with_leaf, with_sheet, only_if, is_given, with_texture, closed_looks, leaf_number, sheet_number}
use Rattle.object_items.specs.Modifiers.{Said, unsaid}
use Rattle.object_items.specs.Sheets.{triangle_word, begins_triangle, with_triangle, with_part, IsCorners, IsTriangleObject, IsOwnTexture, IsMeshPart, IsMeshObject}
use Rattle.object_items.specs.Sound.{IsSoundLeaf, IsSoundSheet}
use Rattle.object_items.specs.SoundObjects.{IsGood, IsSaidOf, kept_said, IsHeldFrom, textured, textured_from, textured_length, closed_from, tree_kept, IsDrawnFrom, inverted_from}
use Rattle.object_items.specs.SoundSolids.{solid_sound}
use Rattle.object_items.specs.Statements.{Drawn, IsWhile, IsRow, counted, inverted, ended, IsEnded, IsCounted, IsLeafObject}
use Rattle.object_items.specs.Trees.{Tree}

-- ---- rows of parts

module _ {S : Type 0} (P Q : S → Type 0) (begins : ℕ → Bool) (statement : Statement S) where
  kept_while : Keeps Q statement → Keeps Q (IsWhile begins statement)
  kept_while keeps s at r sound (IsWhile.ends _ _ is) = sound
  kept_while keeps s at r sound (IsWhile.fault _ _ f is p) = tt
  kept_while keeps s at r sound (IsWhile.further _ _ more _ is p rest) = kept_while keeps more.value more.next r (keeps s at (Ok more) sound p) rest

  pub kept_row : ((s : S) (at : ℕ) (r : Result (Behind S) ParseFault) → P s → statement s at r → IfOk r (λ b. Q b.value)) → Keeps Q statement
      → (s : S) (at : ℕ) (r : Result (Behind S) ParseFault) → P s → IsRow begins statement s at r → IfOk r (λ b. Q b.value)
  kept_row first keeps s at r sound row = kept_then (λ b. Q b.value) row (λ more found rest. kept_while keeps more.value more.next r (first s at (Ok more) sound found) rest)

-- ---- tests that were passed

passed_test : {A E : Type 0} (b : Bool) (a x : A) (f : E) → Ok a ≡ (if b then Ok x else Err f) → b ≡ true
passed_test true a x f is = refl
passed_test false a x f is = absurd (cc is)

lt_test : (a b : ℕ) → nat_lt a b ≡ true → a < b
lt_test a b h = grind (arith, nat_tests)

counted_room : (which most before at next : ℕ) (tokens : List Token) → Ok next ≡ counted which most before tokens at → before < most
counted_room which most before at next tokens is = lt_test before most (passed_test (nat_lt before most) next (at + 1) _ is)

opened_by : (brace none : Bool) (next at : ℕ) (f g : ParseFault) → Ok next ≡ (if brace then (if none then Err f else Ok at) else Err g) → none ≡ false
opened_by true true next at f g is = absurd (cc is)
opened_by true false next at f g is = refl
opened_by false none next at f g is = absurd (cc is)

not_zero : (n : ℕ) → nat_eq n 0 ≡ false → 0 < n
not_zero n h = grind (arith, nat_tests)

pub opened_some : (tokens : List Token) (depths at next : ℕ) → Ok next ≡ opened tokens depths at → 0 < depths
opened_some tokens depths at next is = not_zero depths (opened_by (nat_eq (sign_at tokens at) OPEN_BRACE) (nat_eq depths 0) next (at + 1) _ _ is)

-- ---- the end of a statement

-- where no triangles may stand, there is a tree
abbrev pub HasTree : Bool → Option Tree → Type 0
HasTree sheets tree = sheets ≡ false → tree ≢ None

abbrev pub IsDrawnIn : ℕ → Bool → Held → Drawn → Type 0
IsDrawnIn depths sheets from drawn = IsDrawnFrom depths from drawn × HasTree sheets drawn.tree

inverted_tree : (sheets inverse : Bool) (from : ℕ) (held : Held) (tree : Option Tree) (no_shadow : Bool) → HasTree sheets tree → HasTree sheets (inverted inverse from (record { held = held; tree = tree; no_shadow = no_shadow })).tree
inverted_tree sheets false from held tree no_shadow has = has
inverted_tree sheets true from held None no_shadow has = has
inverted_tree sheets true from held (Some (Tree.leaf n)) no_shadow has = λ none is. absurd (cc is)
inverted_tree sheets true from held (Some (Tree.group op parts inverse)) no_shadow has = λ none is. absurd (cc is)

said_good : (held : Held) (said : Said) → IsGood held → IsSaidOf held said → IsGood said.held
said_good held said good s = record {
  sound = record {
    things = s.things;
    leaves = subst (λ ls. All (IsSoundLeaf (length said.held.textures)) ls) (sym s.leaves) (subst (λ (ts : _). All (IsSoundLeaf (length ts)) held.leaves) (sym s.textures) good.sound.leaves);
    sheets = subst (λ ls. All (IsSoundSheet (length said.held.textures)) ls) (sym s.sheets) (subst (λ (ts : _). All (IsSoundSheet (length ts)) held.sheets) (sym s.textures) good.sound.sheets);
    textures = subst (λ ts. All (λ given. IsSoundTexture given.texture) ts) (sym s.textures) good.sound.textures;
  };
  few_leaves = omega (arith, good.few_leaves, s.leaves_before, ap length s.leaves);
  few_sheets = omega (arith, good.few_sheets, s.sheets_before, ap length s.sheets);
}

module _ (depths : ℕ) (from : Held) (tree : Option Tree) where
  -- what is said of what is drawn
  said_from : (held : Held) (no_shadow : Bool) (said : Said) (d : IsDrawnFrom depths from (record { held = held; tree = tree; no_shadow = no_shadow })) → IsSaidOf held said → IsHeldFrom from d.new said.held
  said_from held no_shadow said d s = record {
    good = said_good held said d.good s;
    spread = record { change = λ leaf. leaf; keeps = λ leaf. refl; is = s.leaves ∙ d.leaves ∙ ap (λ l. from.leaves ++ l) (sym (map-id d.new)) };
    leaves_before = s.leaves_before ∙ d.leaves_before;
    sheets_before = s.sheets_before ∙ d.sheets_before;
  }

  ended_from : (held : Held) (no_shadow : Bool) (said : Said) → IsDrawnFrom depths from (record { held = held; tree = tree; no_shadow = no_shadow }) → IsSaidOf held said → IsDrawnFrom depths from (ended (marks_of from) tree no_shadow said)
  ended_from held no_shadow said d s =
      let h = closed_from from d.new said.looks said.held s.looks (said_from held no_shadow said d s) in
      inverted_from depths from said.inverse (closed_looks (marks_of from) said.looks said.held) tree (no_shadow || said.no_shadow) (record {
        good = h.good;
        new = map h.spread.change d.new;
        leaves = h.spread.is;
        tree = tree_kept depths (leaf_number from) d.new tree h.spread.change h.spread.keeps d.tree;
        leaves_before = h.leaves_before;
        sheets_before = h.sheets_before;
      })

  pub kept_ended : (tokens : List Token) (set : Settings) (braces : ℕ) (mesh sheets no_shadow : Bool) (held : Held) (at : ℕ) (r : Result (Behind Drawn) ParseFault) → HasTree sheets tree → IsDrawnFrom depths from (record { held = held; tree = tree; no_shadow = no_shadow })
      → IsEnded tokens set braces mesh (marks_of from) tree no_shadow held at r → IfOk r (λ b. IsDrawnIn depths sheets from b.value)
  kept_ended tokens set braces mesh sheets no_shadow held at r has d read =
      kept_then (λ b. IsDrawnIn depths sheets from b.value) read (λ said found is.
      let start : IsSaidOf held (unsaid held) = record { things = d.good.sound.things; looks = no_material_sound; leaves = refl; sheets = refl; textures = refl; leaves_before = refl; sheets_before = refl } in
      let s : IsSaidOf held said.value = kept_said tokens set braces held mesh (marks_of from) (unsaid held) at (Ok said) start found in
      kept_is (λ b. IsDrawnIn depths sheets from b.value) (Ok (record { value = ended (marks_of from) tree no_shadow said.value; next = said.next })) r is
      (ended_from held no_shadow said.value d s, inverted_tree sheets said.value.inverse _ _ tree _ has))

-- ---- solids

with_leaf_good : (solid : SolidDraft) (held : Held) → IsSound solid → leaf_number held < 65536 → IsGood held → IsGood (with_leaf solid held)
with_leaf_good solid held sound room good =
    let leaf : LeafDraft = record { solid = solid; thing = length held.things; inverse = false; negated = false; texture = None; interior = None } in
    record {
      sound = record {
        things = All-push IsPlaced held.things start_of good.sound.things start_placed;
        leaves = All-push (IsSoundLeaf (length held.textures)) held.leaves leaf good.sound.leaves (record { solid = sound; texture = tt; interior = tt });
        sheets = good.sound.sheets;
        textures = good.sound.textures;
      };
      few_leaves = omega (arith, room, length-append held.leaves (leaf ∷ []));
      few_sheets = good.few_sheets;
    }

with_leaf_from : (depths : ℕ) (solid : SolidDraft) (held : Held) → IsSound solid → leaf_number held < 65536 → IsGood held → IsDrawnFrom depths held (record { held = with_leaf solid held; tree = Some (Tree.leaf (leaf_number held)); no_shadow = false })
with_leaf_from depths solid held sound room good = record {
  good = with_leaf_good solid held sound room good;
  new = record { solid = solid; thing = length held.things; inverse = false; negated = false; texture = None; interior = None } ∷ [];
  leaves = refl;
  tree = record { places = λ object. refl; filled = λ object. refl; flat = λ object. omega arith };
  leaves_before = refl;
  sheets_before = refl;
}

module _ (tokens : List Token) (set : Settings) (depths : ℕ) where
  counted_sound : (word : SolidWord) (number at : ℕ) (r : Result (Behind SolidDraft) ParseFault) → IsCounted tokens set depths word number at r → IfOk r (λ b. IsSound b.value × (number < 65536))
  counted_sound word number at r read =
      kept_then (λ b. IsSound b.value × (number < 65536)) read (λ brace room rest.
      kept_then (λ b. IsSound b.value × (number < 65536)) rest (λ start opens solid.
      with_room r (counted_room 5 65536 number at brace tokens room) (solid_sound tokens set start r word solid)))
    where
      with_room : (r : Result (Behind SolidDraft) ParseFault) → number < 65536 → IfOk r (λ b. IsSound b.value) → IfOk r (λ b. IsSound b.value × (number < 65536))
      with_room (Ok b) room sound = (sound, room)
      with_room (Err f) room sound = tt

  pub kept_leaf : (word : SolidWord) (sheets : Bool) (held : Held) (at : ℕ) (r : Result (Behind Drawn) ParseFault) → IsGood held → IsLeafObject tokens set depths word held at r → IfOk r (λ b. IsDrawnIn depths sheets held b.value)
  kept_leaf word sheets held at r good read =
      kept_then (λ b. IsDrawnIn depths sheets held b.value) read (λ solid found rest.
      let s : IsSound solid.value × (leaf_number held < 65536) = counted_sound word (leaf_number held) at (Ok solid) found in
      kept_ended depths held (Some (Tree.leaf (leaf_number held))) tokens set (depths - 1) false sheets false (with_leaf solid.value held) solid.next r (λ none is. absurd (cc is)) (with_leaf_from depths solid.value held s.0 s.1 good) rest)

-- ---- triangles

with_sheet_good : (sheet : SheetDraft) (thing : ℕ) (texture : Option ℕ) (held : Held) → IfSome texture (λ n. n < length held.textures) → sheet_number held < 131072 → IsGood held → IsGood (with_sheet sheet thing texture held)
with_sheet_good sheet thing texture held fits room good =
    let part : SheetPart = record { sheet = sheet; thing = thing; texture = texture; interior = None } in
    record {
      sound = record {
        things = good.sound.things;
        leaves = good.sound.leaves;
        sheets = All-push (IsSoundSheet (length held.textures)) held.sheets part good.sound.sheets (record { texture = fits; interior = tt });
        textures = good.sound.textures;
      };
      few_leaves = good.few_leaves;
      few_sheets = omega (arith, room, length-append held.sheets (part ∷ []));
    }

with_thing_good : (held : Held) → IsGood held → IsGood (with_thing start_of held)
with_thing_good held good = record {
  sound = record { things = All-push IsPlaced held.things start_of good.sound.things start_placed; leaves = good.sound.leaves; sheets = good.sound.sheets; textures = good.sound.textures };
  few_leaves = good.few_leaves;
  few_sheets = good.few_sheets;
}

-- what changed no leaf is drawn without a tree
no_leaf : (depths : ℕ) (from held : Held) (no_shadow : Bool) → IsGood held → held.leaves ≡ from.leaves → held.leaves_before ≡ from.leaves_before → held.sheets_before ≡ from.sheets_before → IsDrawnFrom depths from (record { held = held; tree = None; no_shadow = no_shadow })
no_leaf depths from held no_shadow good same before sheets = record { good = good; new = []; leaves = same ∙ sym (append-nil from.leaves); tree = refl; leaves_before = before; sheets_before = sheets }

-- a mesh so far
record IsMeshOf (from held : Held) : Type 0 where
  good : IsGood held
  leaves : held.leaves ≡ from.leaves
  leaves_before : held.leaves_before ≡ from.leaves_before
  sheets_before : held.sheets_before ≡ from.sheets_before

module _ (tokens : List Token) (set : Settings) (depths : ℕ) where
  corners_room : (smooth : Bool) (number at : ℕ) (r : Result (Behind SheetDraft) ParseFault) → IsCorners tokens set depths smooth number at r → IfOk r (λ b. number < 131072)
  corners_room smooth number at r read = kept_then (λ b. number < 131072) read (λ brace room rest. always r (counted_room 10 131072 number at brace tokens room))
    where
      always : (r : Result (Behind SheetDraft) ParseFault) → number < 131072 → IfOk r (λ b. number < 131072)
      always (Ok b) room = room
      always (Err f) room = tt

  pub kept_triangle : (smooth : Bool) (held : Held) (at : ℕ) (r : Result (Behind Drawn) ParseFault) → IsGood held → IsTriangleObject tokens set depths smooth held at r → IfOk r (λ b. IsDrawnIn depths true held b.value)
  kept_triangle smooth held at r good read =
      kept_then (λ b. IsDrawnIn depths true held b.value) read (λ sheet found rest.
      let room : sheet_number held < 131072 = corners_room smooth (sheet_number held) at (Ok sheet) found in
      kept_ended depths held None tokens set (depths - 1) false true false (with_triangle sheet.value held) sheet.next r (λ none. absurd (cc none))
      (no_leaf depths held (with_triangle sheet.value held) false (with_sheet_good sheet.value (length held.things) None (with_thing start_of held) tt room (with_thing_good held good)) refl refl refl) rest)

  own_sound : (braces : ℕ) (leads : Bool) (at : ℕ) (r : Result (Behind TextureDraft) ParseFault) → IsOwnTexture tokens set braces leads at r → IfOk r (λ b. IsSoundTexture b.value)
  own_sound braces true at r read = texture_kept tokens set braces no_texture (at + 1) r no_texture_sound read
  own_sound braces false at r is = kept_same IsSoundTexture no_texture at r no_texture_sound is

  part_mesh : (from : Held) (thing : ℕ) (sheet : SheetDraft) (texture : TextureDraft) (given : Bool) (held : Held) → IsSoundTexture texture → sheet_number held < 131072 → IsMeshOf from held
      → IsMeshOf from (with_sheet sheet thing (only_if given (length held.textures)) (if given then with_texture texture held else held))
  part_mesh from thing sheet texture false held sound room m = record { good = with_sheet_good sheet thing None held tt room m.good; leaves = m.leaves; leaves_before = m.leaves_before; sheets_before = m.sheets_before }
  part_mesh from thing sheet texture true held sound room m =
      let h : IsHeldFrom held [] held = record { good = m.good; spread = record { change = λ leaf. leaf; keeps = λ leaf. refl; is = sym (append-nil held.leaves) }; leaves_before = refl; sheets_before = refl } in
      let t = textured_from held [] texture.pigment texture held sound.pigment sound h in
      let same : (with_texture texture held).leaves ≡ held.leaves = t.spread.is ∙ append-nil held.leaves in
      let sheets : sheet_number (with_texture texture held) < 131072 = textured_sheets texture.pigment in
      record {
        good = with_sheet_good sheet thing (Some (length held.textures)) (with_texture texture held) (textured_length held [] texture.pigment texture held) sheets t.good;
        leaves = same ∙ m.leaves;
        leaves_before = t.leaves_before ∙ m.leaves_before;
        sheets_before = t.sheets_before ∙ m.sheets_before;
      }
    where
      textured_sheets : (pigment : _) → sheet_number (textured pigment texture held) < 131072
      textured_sheets None = room
      textured_sheets (Some pigment) = room

  kept_mesh_part : (from : Held) (thing : ℕ) (smooth : Option Bool) → Keeps (IsMeshOf from) (IsMeshPart tokens set depths thing smooth)
  kept_mesh_part from thing (Some smooth) held at r m read =
      kept_then (λ b. IsMeshOf from b.value) read (λ sheet found rest.
      kept_then (λ b. IsMeshOf from b.value) rest (λ texture own rest.
      kept_then (λ b. IsMeshOf from b.value) rest (λ next shuts is.
      kept_same (IsMeshOf from) (with_part thing sheet.value texture.value held) next r
      (part_mesh from thing sheet.value texture.value (is_given texture.value) held (own_sound (depths - 1) _ sheet.next (Ok texture) own) (corners_room smooth (sheet_number held) at (Ok sheet) found) m) is)))
  kept_mesh_part from thing None held at r m is = kept_refused (IsMeshOf from) _ r is

module _ (tokens : List Token) (set : Settings) (depths : ℕ) where
  abbrev IsPartOf : ℕ → Statement Held
  IsPartOf thing held at r = IsMeshPart tokens set (depths - 1) thing (triangle_word (word_at tokens at)) held at r

  kept_parts : (from : Held) (thing : ℕ) → Keeps (IsMeshOf from) (IsPartOf thing)
  kept_parts from thing held at r m read = kept_mesh_part tokens set (depths - 1) from thing (triangle_word (word_at tokens at)) held at r m read

  pub kept_mesh : (held : Held) (at : ℕ) (r : Result (Behind Drawn) ParseFault) → IsGood held → IsMeshObject tokens set depths held at r → IfOk r (λ b. IsDrawnIn depths true held b.value)
  kept_mesh held at r good read =
      kept_then (λ b. IsDrawnIn depths true held b.value) read (λ start opens rest.
      kept_then (λ b. IsDrawnIn depths true held b.value) rest (λ parts found rest.
      let begun : IsMeshOf held (with_thing start_of held) = record { good = with_thing_good held good; leaves = refl; leaves_before = refl; sheets_before = refl } in
      let m : IsMeshOf held parts.value =
      kept_row (IsMeshOf held) (IsMeshOf held) (begins_triangle tokens) (IsPartOf (length held.things)) (kept_parts held (length held.things)) (kept_parts held (length held.things)) (with_thing start_of held) start (Ok parts) begun found in
      kept_ended depths held None tokens set (depths - 1) true true false parts.value parts.next r (λ none. absurd (cc none))
      (no_leaf depths held parts.value false m.good m.leaves m.leaves_before m.sheets_before) rest))
