-- Triangles as they are said, and their places in the world. (Reference manual, triangle and smooth_triangle)
use Rattle.std.specs.Prelude.{ℕ, ℤ, pos, Bool, true, false, ◌&&◌, List, ◌^◌, if◌then◌else◌, Result, Ok, Err}
use Rattle.std.specs.Ordering.{int_eq}
use Rattle.fix_math.specs.declared.fix.V3.{V3}
use Rattle.fix_math.specs.Directions.{unit_wide_of}
use Rattle.fix_math.specs.Matrices.{component, entry, along, vector, row_of, matrix, is_vector_within}
use Rattle.fix_math.specs.Vectors.{dot}
use Rattle.scene_lexer.specs.declared.token.Place.{Place}
use Rattle.scene_lexer.specs.declared.token.Token.{Token}
use Rattle.scene_expr.specs.declared.value.Settings.{Settings}
use Rattle.scene_expr.specs.declared.value.Value.{Value}
use Rattle.scene_expr.specs.Then.{IsThen, Is}
use Rattle.xform.specs.declared.transform.Xform.{Xform}
use Rattle.xform.specs.Transforms.{point_of}
use Rattle.scene_model.specs.declared.scene.Sheet.{Sheet}
use Rattle.item_blocks.specs.declared.fault.ParseFault.{ParseFault}
use Rattle.item_blocks.specs.Tokens.{behind_comma, Behind, Reading}
use Rattle.item_blocks.specs.Parameters.{any_vector_of, IsParameter}
use Rattle.solid_items.specs.declared.draft.Corner.{Corner}
use Rattle.solid_items.specs.declared.draft.Misplaced.{Misplaced}
use Rattle.solid_items.specs.declared.draft.PlacedCorner.{PlacedCorner}
use Rattle.solid_items.specs.declared.draft.SheetDraft.{SheetDraft}
use Rattle.solid_items.specs.Solids.{origin, differing, IsPoint, further}

-- ---- grammar

-- a normal isn't <0, 0, 0>
abbrev pub normal_of : Value → Place → Result V3 ParseFault
normal_of value place = differing origin place (any_vector_of value place)

abbrev pub IsNormal : List Token → Settings → Reading V3
IsNormal tokens set at r = IsParameter V3 normal_of tokens set at r

abbrev pub corner_of : V3 → ℕ → V3 → ℕ → Corner
corner_of point at normal normal_at = record { point = point; at = at; normal = normal; normal_at = normal_at }

-- a corner, and in a smooth triangle the normal there
abbrev pub IsCorner : Bool → List Token → Settings → Reading Corner
IsCorner false tokens set at r =
    IsThen (Behind V3) (Behind Corner) ParseFault (IsPoint tokens set at) (λ point.
    Is (Ok (record { value = corner_of point.value at origin at; next = point.next }))) r
IsCorner true tokens set at r =
    IsThen (Behind V3) (Behind Corner) ParseFault (IsPoint tokens set at) (λ point.
    IsThen (Behind V3) (Behind Corner) ParseFault (IsNormal tokens set (behind_comma tokens point.next)) (λ normal.
    Is (Ok (record { value = corner_of point.value at normal.value (behind_comma tokens point.next); next = normal.next })))) r

-- the three corners of a triangle
abbrev pub IsTriangle : Bool → List Token → Settings → Reading SheetDraft
IsTriangle smooth tokens set at r =
    IsThen (Behind Corner) (Behind SheetDraft) ParseFault (IsCorner smooth tokens set at) (λ a.
    IsThen (Behind Corner) (Behind SheetDraft) ParseFault (further (IsCorner smooth) tokens set a.next) (λ b.
    IsThen (Behind Corner) (Behind SheetDraft) ParseFault (further (IsCorner smooth) tokens set b.next) (λ c.
    Is (Ok (record { value = record { smooth = smooth; a = a.value; b = b.value; c = c.value }; next = c.next }))))) r

-- ---- places

abbrev pub and_then : {A B E : Type 0} → Result A E → (A → Result B E) → Result B E
and_then (Ok a) f = f a
and_then (Err e) f = Err e

-- the world reaches 4096 units from its middle along each axis
abbrev pub in_world : V3 → ℕ → Result V3 Misplaced
in_world p at = if is_vector_within (2 ^ 28) p then Ok p else Err (Misplaced.Outside at)

-- the image of a corner lies in the world
abbrev pub point_in : Xform → Corner → Result V3 Misplaced
point_in x corner = in_world (vector (point_of x corner.point)) corner.at

abbrev pub flipped_of : List (List ℤ) → List (List ℤ)
flipped_of m = matrix (λ i j. entry m j i)

-- a normal is moved by the transform's inverse, column by column, exactly
abbrev pub moved_normal : Xform → V3 → List ℤ
moved_normal x normal = row_of (λ j. dot (along normal) (entry (flipped_of x.n) j))

abbrev pub is_nothing : List ℤ → Bool
is_nothing v = int_eq (component v 0) (pos 0) && (int_eq (component v 1) (pos 0) && int_eq (component v 2) (pos 0))

-- and has a direction
abbrev pub normal_in : Xform → Corner → Result V3 Misplaced
normal_in x corner =
    if is_nothing (moved_normal x corner.normal) then Err (Misplaced.NoNormal corner.normal_at) else Ok (unit_wide_of (moved_normal x corner.normal))

abbrev pub normal_where : Bool → Xform → Corner → Result V3 Misplaced
normal_where true x corner = normal_in x corner
normal_where false x corner = Ok origin

abbrev pub corner_in : Bool → Xform → Corner → Result PlacedCorner Misplaced
corner_in smooth x corner =
    and_then (point_in x corner) (λ point. and_then (normal_where smooth x corner) (λ normal. Ok (record { point = point; normal = normal })))

-- a triangle in the world: of what can't be placed the first as written is told
abbrev pub sheet_in : SheetDraft → Xform → ℕ → ℤ → Bool → Result Sheet Misplaced
sheet_in sheet x texture ior no_shadow =
    and_then (corner_in sheet.smooth x sheet.a) (λ a. and_then (corner_in sheet.smooth x sheet.b) (λ b. and_then (corner_in sheet.smooth x sheet.c) (λ c. Ok (record {
      a = a.point;
      b = b.point;
      c = c.point;
      smooth = sheet.smooth;
      na = a.normal;
      nb = b.normal;
      nc = c.normal;
      texture = texture;
      ior = ior;
      no_shadow = no_shadow;
    }))))
