-- What can be drawn, and what a drawing needs.
use Rattle.std.specs.Prelude.{◌≡◌, ℕ, ◌+◌, ◌*◌, ◌/◌, ◌<◌, ◌≤◌, ℤ, pos, ◌<ℤ◌, ◌⊎◌, Option, Some, None, IfSome, List, ◌++◌, length}
use Rattle.csg_hits.specs.Hits.{Fits}
use Rattle.csg_hits.specs.Surfaces.{Surfaces, surfaces_of, without_sheets}
use Rattle.finish_shade.specs.Meetings.{CanShow, valid_can_show}
use Rattle.fix_math.specs.Matrices.{row_at}
use Rattle.frame_trace.specs.Pictures.{View, IsPlain}
use Rattle.frame_trace.specs.declared.format.Antialias.{Antialias}
use Rattle.frame_trace.specs.declared.format.Format.{Format}
use Rattle.frame_trace.specs.declared.format.Rectangle.{Rectangle}
use Rattle.frame_trace.specs.declared.rows.Rows.{Rows}
use Rattle.frame_trace.specs.declared.rows.Span.{Span}
use Rattle.frame_trace.specs.declared.tracing.Tracing.{Tracing}
use Rattle.frame_trace.specs.declared.work.Work.{Work}
use Rattle.scene_model.specs.Amounts.{AreAmounts}
use Rattle.scene_model.specs.Looks.{IsCamera}
use Rattle.scene_model.specs.Valid.{Valid}

-- what a tracing draws
abbrev pub view_in : {W : Type 0} → (W → Surfaces) → Tracing W → View
view_in surfaces t = record { surfaces = surfaces t.world; scene = t.scene; format = t.format }

-- from 1 to 81 parts
pub record IsDeep (a : Antialias) : Type 0 where
  pub some : 1 ≤ a.depth
  pub few : a.depth ≤ 9

-- the camera and the scene can be shown, the surfaces are the scene's but for its triangles, and the format is one that there is
pub record IsReady (v : View) : Type 0 where
  pub camera : IsCamera v.scene.camera
  pub scene : CanShow v.scene
  pub stands : v.surfaces ≡ without_sheets (surfaces_of v.scene)
  pub bits : (v.format.bits ≡ 8) ⊎ (v.format.bits ≡ 16)
  pub deep : IfSome v.format.antialias IsDeep

-- so it is with valid scenes
pub valid_ready : (v : View) → Valid v.scene → v.surfaces ≡ without_sheets (surfaces_of v.scene) → (v.format.bits ≡ 8) ⊎ (v.format.bits ≡ 16) → IfSome v.format.antialias IsDeep → IsReady v
valid_ready v valid stands bits deep = record { camera = valid.camera; scene = valid_can_show v.scene valid; stands = stands; bits = bits; deep = deep }

-- the rectangle has a pixel and lies in the picture
pub record IsInside (f : Format) (part : Rectangle) : Type 0 where
  pub wide : 0 < part.width
  pub high : 0 < part.height
  pub right : part.x + part.width ≤ f.width
  pub lower : part.y + part.height ≤ f.height

-- the bytes of a rectangle's pixels
abbrev pub rectangle_length : ℕ → Rectangle → ℕ
rectangle_length bits part = 3 * (bits / 8) * part.width * part.height

-- bytes of this kind stand behind what stood there, and nothing else
pub record Adds (IsBytes : List ℕ → Type 0) (old new : List ℕ) : Type 0 where
  pub bytes : List ℕ
  pub are : IsBytes bytes
  pub added : new ≡ old ++ bytes

-- ---- rows of plain colours

-- each row has room for so many colours
pub record HasRoom (rows : Rows) (count : ℕ) : Type 0 where
  pub above : count ≤ length rows.above.items
  pub here : count ≤ length rows.here.items
  pub below : count ≤ length rows.below.items

-- a memory fits the surfaces and rectangles of this width: a row of plain colours has one further on either side
pub record IsFit (s : Surfaces) (width : ℕ) (work : Work) : Type 0 where
  pub scratch : Fits s work.scratch
  pub rows : HasRoom work.rows (width + 2)

-- no room is lost
abbrev pub KeepsRoom : Rows → Rows → Type 0
KeepsRoom old new = (count : ℕ) → HasRoom old count → HasRoom new count

-- plain colours are compared
abbrev pub Compares : Option Antialias → Type 0
Compares None = ⊥
Compares (Some a) = pos 0 <ℤ a.threshold

-- the plain colour of a pixel, with its size
pub record IsKept (v : View) (column row : ℕ) (colour : List ℤ) : Type 0 where
  pub plain : IsPlain v column row colour
  pub amounts : AreAmounts 65536 colour

-- the plain colours of a row's span
abbrev pub AreKept : View → Span → ℕ → List (List ℤ) → Type 0
AreKept v span row colours = (k : ℕ) → k < span.count → IsKept v (span.from + k) row (row_at colours k)

-- the span has the column and those beside it that are in the picture
pub record IsAmid (f : Format) (span : Span) (column : ℕ) : Type 0 where
  pub inside : column < f.width
  pub left : span.from ≤ column
  pub further_left : 0 < column → span.from < column
  pub right : column < span.from + span.count
  pub further_right : column + 1 < f.width → column + 1 < span.from + span.count

-- so it is for each column of a rectangle
pub record IsSpan (f : Format) (part : Rectangle) (span : Span) : Type 0 where
  pub inside : span.from + span.count ≤ f.width
  pub few : span.count ≤ part.width + 2
  pub amid : (k : ℕ) → k < part.width → IsAmid f span (part.x + k)

-- the rows above and here hold plain colours, where the picture has these rows
pub record StandsAt (v : View) (span : Span) (row : ℕ) (rows : Rows) : Type 0 where
  pub above : (r : ℕ) → r + 1 ≡ row → AreKept v span r rows.above.items
  pub here : row < v.format.height → AreKept v span row rows.here.items

-- and so does the row below
pub record StandsAround (v : View) (span : Span) (row : ℕ) (rows : Rows) : Type 0 where
  pub above : (r : ℕ) → r + 1 ≡ row → AreKept v span r rows.above.items
  pub here : AreKept v span row rows.here.items
  pub below : row + 1 < v.format.height → AreKept v span (row + 1) rows.below.items
