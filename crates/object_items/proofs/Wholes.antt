-- Statements: what comes of their parts from here on comes of the whole.
use Rattle.std.proofs.Common.{◌≡◌, ◌<◌, ◌+◌, ◌-◌, ℕ, zero, suc, Bool, true, false, List, [], ◌++◌, ◌&&◌, map, length, Option, None, Result, ap, ◌∙◌, subst, arith}
use Rattle.scene_lexer.specs.declared.token.Token.{Token as TextToken}
use Rattle.scene_expr.specs.declared.value.Settings.{Settings}
use Rattle.scene_model.specs.declared.shape.Op.{Op}
use Rattle.scene_model.specs.declared.shape.Shape.{Shape}
use Rattle.item_blocks.specs.declared.fault.ParseFault.{ParseFault}
use Rattle.item_blocks.specs.declared.fault.Wanted.{Wanted}
use Rattle.item_blocks.specs.Blocks.{Statement}
use Rattle.item_blocks.specs.Tokens.{word_at, Behind}
use Rattle.object_items.specs.declared.object.ObjectWord.{ObjectWord}
use Rattle.object_items.specs.declared.object.Part.{Part}
use Rattle.object_items.specs.declared.tables.LeafDraft.{LeafDraft}
use Rattle.object_items.specs.declared.tables.Marks.{Marks}
use Rattle.object_items.specs.Held.{Held, only_if, is_given, turned_from, with_thing, with_sheet, with_texture}
use Rattle.object_items.specs.Modifiers.{Said}
use Rattle.object_items.specs.Objects.{Inside, Parts, is_difference, row_of, no_parts, parts_of, drawn_of, joined, object_word, IsInside, IsNext, IsParts, IsPart, IsPartBy}
use Rattle.object_items.specs.Statements.{counted, Drawn, IsWhile, IsRow, IsSaid, IsEnded}
use Rattle.object_items.specs.Sheets.{with_triangle, with_part, IsMeshParts}
use Rattle.object_items.specs.Trees.{Tree, tree_of, tree_seen}
use Rattle.solid_items.specs.declared.draft.SheetDraft.{SheetDraft}
use Rattle.item_blocks.specs.declared.texture.TextureDraft.{TextureDraft}
use Rattle.xform.specs.declared.transform.Xform.{Xform}
use Rattle.xform.specs.Transforms.{start_of}
use Rattle.std.specs.Prelude.{if◌then◌else◌}

-- ---- modifiers

module _ (tokens : List TextToken) (set : Settings) (depths : ℕ) (mesh : Bool) (marks : Marks) where
  -- what comes of the modifiers from a place on comes of all
  abbrev pub SaidWhole : Said → ℕ → Said → ℕ → Type 0
  SaidWhole before at now next = (r : Result (Behind Said) ParseFault) → IsSaid tokens set depths mesh marks now next r → IsSaid tokens set depths mesh marks before at r

  pub said_same : (a b : Said) (at : ℕ) (r : Result (Behind Said) ParseFault) → a ≡ b → IsSaid tokens set depths mesh marks a at r → IsSaid tokens set depths mesh marks b at r
  said_same a b at r is said = subst (λ (s : Said). IsSaid tokens set depths mesh marks s at r) is said

-- ---- rows of parts

-- what comes of the parts from a place on comes of the row
abbrev pub RowWhole : {S : Type 0} → (ℕ → Bool) → Statement S → S → ℕ → S → ℕ → Type 0
RowWhole {S} begins statement before at now next = (r : Result (Behind S) ParseFault) → IsWhile begins statement now next r → IsRow begins statement before at r

-- ---- objects inside braces

module _ (tokens : List TextToken) (set : Settings) where
  -- an object where one brace less may be open is one inside
  pub inside_is : (depths : ℕ) → 0 < depths → IsPart tokens set (depths - 1) ≡ IsInside tokens set depths
  unfolding IsInside
  inside_is zero some = absurd (omega (arith, some))
  inside_is (suc depths) some =
      let e : suc depths - 1 ≡ depths = omega arith in
      ap (λ n. IsPart tokens set n) e

  pub parts_inside : (depths : ℕ) (sheets : Bool) (op : Op) (parts : Parts) (at : ℕ) (r : Result (Behind Parts) ParseFault) → 0 < depths → IsParts tokens (IsPart tokens set (depths - 1)) sheets op parts at r → IsParts tokens (IsInside tokens set depths) sheets op parts at r
  parts_inside depths sheets op parts at r some is = subst (λ (i : Inside). IsParts tokens i sheets op parts at r) (inside_is depths some) is

  pub part_inside : (depths : ℕ) (sheets : Bool) (wanted : Wanted) (held : Held) (at : ℕ) (r : Result (Behind Drawn) ParseFault) → 0 < depths → IsPart tokens set (depths - 1) sheets wanted held at r → IsInside tokens set depths sheets wanted held at r
  part_inside depths sheets wanted held at r some is = subst (λ (i : Inside). i sheets wanted held at r) (inside_is depths some) is

  -- what an object is that is read by its word
  pub part_by : (depths : ℕ) (sheets : Bool) (wanted : Wanted) (held : Held) (at : ℕ) (r : Result (Behind Drawn) ParseFault) (word : Option ObjectWord) → word ≡ object_word (word_at tokens at) sheets → IsPartBy tokens set depths (IsInside tokens set depths) sheets wanted word held at r → IsPart tokens set depths sheets wanted held at r
  part_by depths sheets wanted held at r word is part = subst (λ w. IsPartBy tokens set depths (IsInside tokens set depths) sheets wanted w held at r) is part

-- ---- the end of a statement, told of equal parts

module _ (tokens : List TextToken) (set : Settings) (depths : ℕ) (mesh : Bool) (at : ℕ) (r : Result (Behind Drawn) ParseFault) where
  pub ended_same : (marks marks' : Marks) (tree tree' : Option Tree) (no_shadow no_shadow' : Bool) (held held' : Held) → marks ≡ marks' → tree ≡ tree' → no_shadow ≡ no_shadow' → held ≡ held'
      → IsEnded tokens set depths mesh marks tree no_shadow held at r → IsEnded tokens set depths mesh marks' tree' no_shadow' held' at r
  ended_same marks marks' tree tree' no_shadow no_shadow' held held' e f g h is =
      subst (λ (m : Marks). IsEnded tokens set depths mesh m tree' no_shadow' held' at r) e
      (subst (λ (t : Option Tree). IsEnded tokens set depths mesh marks t no_shadow' held' at r) f
      (subst (λ (b : Bool). IsEnded tokens set depths mesh marks tree b held' at r) g
      (subst (λ (s : Held). IsEnded tokens set depths mesh marks tree no_shadow s at r) h is)))

-- ---- a word that counts

pub counted_same : (which most n m : ℕ) (tokens : List TextToken) (at : ℕ) (r : Result ℕ ParseFault) → n ≡ m → r ≡ counted which most n tokens at → r ≡ counted which most m tokens at
counted_same which most n m tokens at r is told = told ∙ ap (λ k. counted which most k tokens at) is

pub sum_same : (a b c d : ℕ) → a ≡ c → b ≡ d → a + b ≡ c + d
sum_same a b c d e f = ap (λ k. k + b) e ∙ ap (λ k. c + k) f

-- ---- what is held with a triangle more

pub part_same : (after between held : Held) (sheet : SheetDraft) (thing : ℕ) (texture : TextureDraft) (own : Option ℕ) → after ≡ with_sheet sheet thing own between → own ≡ only_if (is_given texture) (length held.textures) → between ≡ (if is_given texture then with_texture texture held else held) → after ≡ with_part thing sheet texture held
part_same after between held sheet thing texture own e f g = e ∙ ap (λ o. with_sheet sheet thing o between) f ∙ ap (λ h. with_sheet sheet thing (only_if (is_given texture) (length held.textures)) h) g

pub thing_same : (after held : Held) (x : Xform) → after ≡ with_thing x held → x ≡ start_of → after ≡ with_thing start_of held
thing_same after held x e f = e ∙ ap (λ (y : Xform). with_thing y held) f

pub triangle_same : (after between held : Held) (sheet : SheetDraft) (thing : ℕ) (x : Xform) → after ≡ with_sheet sheet thing None between → thing ≡ length held.things → between ≡ with_thing x held → x ≡ start_of → after ≡ with_triangle sheet held
triangle_same after between held sheet thing x e f g h = e ∙ ap (λ n. with_sheet sheet n None between) f ∙ ap (λ b. with_sheet sheet (length held.things) None b) (thing_same between held x g h)

pub mesh_same : (tokens : List TextToken) (set : Settings) (depths : ℕ) (thing : ℕ) (between held : Held) (at : ℕ) (r : Result (Behind Held) ParseFault) → thing ≡ length held.things → between ≡ with_thing start_of held → IsMeshParts tokens set depths thing between at r → IsMeshParts tokens set depths (length held.things) (with_thing start_of held) at r
mesh_same tokens set depths thing between held at r e f is =
    subst (λ n. IsMeshParts tokens set depths n (with_thing start_of held) at r) e (subst (λ (h : Held). IsMeshParts tokens set depths thing h at r) f is)

module _ (tokens : List TextToken) (set : Settings) where
  pub parts_same : (depths : ℕ) (sheets sheets' : Bool) (op : Op) (parts : Parts) (at : ℕ) (r : Result (Behind Parts) ParseFault) → 0 < depths → sheets ≡ sheets' → IsParts tokens (IsPart tokens set (depths - 1)) sheets op parts at r → IsParts tokens (IsInside tokens set depths) sheets' op parts at r
  parts_same depths sheets sheets' op parts at r some is read =
      subst (λ b. IsParts tokens (IsInside tokens set depths) b op parts at r) is (parts_inside tokens set depths sheets op parts at r some read)

-- the first part, where no shape stands yet
pub first_same : (inside : Inside) (sheets : Bool) (op : Op) (held : Held) (shapes : List Shape) (at : ℕ) (r : Result (Behind Parts) ParseFault) → shapes ≡ [] → IsNext inside sheets op (parts_of held shapes false) at r → IsNext inside sheets op (no_parts held) at r
first_same inside sheets op held shapes at r none read = subst (λ l. IsNext inside sheets op (parts_of held l false) at r) none read

-- a part more, as its leaves and its tree are put behind the others
pub joined_same : (op : Op) (begun : Bool) (old : Held) (shapes more : List Shape) (part : Part) (read turned : Held) (leaves : List LeafDraft) → leaves ≡ old.leaves → turned ≡ (if begun && is_difference op then turned_from (length leaves) read else read) → map tree_of more ≡ map tree_of shapes ++ row_of (tree_seen part.shape)
    → parts_of turned more true ≡ joined op (parts_of old shapes begun) (drawn_of part read)
joined_same op begun old shapes more part read turned leaves e f g =
    ap (λ h. parts_of h more true) (f ∙ ap (λ l. if begun && is_difference op then turned_from (length l) read else read) e)
    ∙ ap (λ ts. record { held = if begun && is_difference op then turned_from (length old.leaves) read else read; trees = ts; begun = true }) g
