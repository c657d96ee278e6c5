-- Triangles, and meshes of them. (Reference manual, triangle, smooth_triangle and mesh)
use Rattle.std.specs.Prelude.{◌≡◌, ℕ, ◌+◌, ◌-◌, Bool, true, false, List, length, if◌then◌else◌, Option, Some, None, Ok, Err}
use Rattle.scene_lexer.specs.declared.sign.TheConstants.{CLOSE_BRACE}
use Rattle.scene_lexer.specs.declared.token.Token.{Token}
use Rattle.scene_expr.specs.declared.value.Settings.{Settings}
use Rattle.scene_expr.specs.Then.{IsThen, Is}
use Rattle.xform.specs.Transforms.{start_of}
use Rattle.item_blocks.specs.declared.fault.ParseFault.{ParseFault}
use Rattle.item_blocks.specs.declared.fault.Wanted.{Wanted}
use Rattle.item_blocks.specs.declared.texture.TextureDraft.{TextureDraft}
use Rattle.item_blocks.specs.declared.words.Word.{Word}
use Rattle.item_blocks.specs.Blocks.{Statement, IsBlock}
use Rattle.item_blocks.specs.Textures.{no_texture, is_texture, texture_kind}
use Rattle.item_blocks.specs.Tokens.{word_at, opened, passed, Behind, Reading}
use Rattle.solid_items.specs.declared.draft.SheetDraft.{SheetDraft}
use Rattle.solid_items.specs.Sheets.{IsTriangle}
use Rattle.object_items.specs.Held.{Held, sheet_number, only_if, is_given, marks_of, with_thing, with_sheet, with_texture}
use Rattle.object_items.specs.Statements.{Drawn, Drawing, counted, lacking, IsRow, IsEnded}

-- the word of a triangle, behind so many, its brace and its corners
abbrev pub IsCorners : List Token → Settings → ℕ → Bool → ℕ → Reading SheetDraft
IsCorners tokens set depths smooth number at r =
    IsThen ℕ (Behind SheetDraft) ParseFault (Is (counted 10 131072 number tokens at)) (λ brace.
    IsThen ℕ (Behind SheetDraft) ParseFault (Is (opened tokens depths brace)) (λ start.
    IsTriangle smooth tokens set start)) r

-- ---- a triangle that stands alone: its transform is a thing of its own

abbrev pub with_triangle : SheetDraft → Held → Held
with_triangle sheet held = with_sheet sheet (length held.things) None (with_thing start_of held)

-- a triangle, from its word on
abbrev pub IsTriangleObject : List Token → Settings → ℕ → Bool → Drawing
IsTriangleObject tokens set depths smooth held at r =
    IsThen (Behind SheetDraft) (Behind Drawn) ParseFault (IsCorners tokens set depths smooth (sheet_number held) at) (λ sheet.
    IsEnded tokens set (depths - 1) false (marks_of held) None false (with_triangle sheet.value held) sheet.next) r

-- ---- meshes: all their triangles have one transform, the first thing of the mesh

-- the word of a triangle, with whether it is a smooth one
abbrev pub triangle_word : Option Word → Option Bool
triangle_word (Some Word.Triangle) = Some false
triangle_word (Some Word.SmoothTriangle) = Some true
triangle_word other = None

abbrev pub is_triangle : Option Bool → Bool
is_triangle (Some smooth) = true
is_triangle None = false

abbrev pub begins_triangle : List Token → ℕ → Bool
begins_triangle tokens at = is_triangle (triangle_word (word_at tokens at))

-- a texture of the triangle's own may stand behind its corners, and nothing else
abbrev pub IsOwnTexture : List Token → Settings → ℕ → Bool → Reading TextureDraft
IsOwnTexture tokens set depths true at r = IsBlock (texture_kind tokens set) tokens depths no_texture (at + 1) r
IsOwnTexture tokens set depths false at r = r ≡ Ok (record { value = no_texture; next = at })

abbrev pub with_part : ℕ → SheetDraft → TextureDraft → Held → Held
with_part thing sheet texture held =
    with_sheet sheet thing (only_if (is_given texture) (length held.textures)) (if is_given texture then with_texture texture held else held)

-- a triangle of a mesh, from its word on
abbrev pub IsMeshPart : List Token → Settings → ℕ → ℕ → Option Bool → Statement Held
IsMeshPart tokens set depths thing (Some smooth) held at r =
    IsThen (Behind SheetDraft) (Behind Held) ParseFault (IsCorners tokens set depths smooth (sheet_number held) at) (λ sheet.
    IsThen (Behind TextureDraft) (Behind Held) ParseFault (IsOwnTexture tokens set (depths - 1) (is_texture (word_at tokens sheet.next)) sheet.next) (λ texture.
    IsThen ℕ (Behind Held) ParseFault (Is (passed CLOSE_BRACE Wanted.CloseBrace tokens texture.next)) (λ next.
    Is (Ok (record { value = with_part thing sheet.value texture.value held; next = next }))))) r
IsMeshPart tokens set depths thing None held at r = r ≡ Err (lacking Wanted.Part true tokens at)

-- one triangle of a mesh or more
abbrev pub IsMeshParts : List Token → Settings → ℕ → ℕ → Statement Held
IsMeshParts tokens set depths thing held at r =
    IsRow (begins_triangle tokens) (λ held at r. IsMeshPart tokens set depths thing (triangle_word (word_at tokens at)) held at r) held at r

-- a mesh, from its word on
abbrev pub IsMeshObject : List Token → Settings → ℕ → Drawing
IsMeshObject tokens set depths held at r =
    IsThen ℕ (Behind Drawn) ParseFault (Is (opened tokens depths (at + 1))) (λ start.
    IsThen (Behind Held) (Behind Drawn) ParseFault (IsMeshParts tokens set (depths - 1) (length held.things) (with_thing start_of held) start) (λ parts.
    IsEnded tokens set (depths - 1) true (marks_of held) None false parts.value parts.next)) r
