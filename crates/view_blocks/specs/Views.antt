-- The view of a camera: where it stands and what its picture spans, by its angle, what it looks at, and its steps, in this order.
-- All is in whole numbers without a limit up to the end, and each sum of products is rounded once. (Reference manual, camera)
use Rattle.std.specs.Prelude.{ℕ, ◌+◌, ℤ, pos, ◌*ℤ◌, neg_ℤ, ◌^◌, ◌≤ℤ◌, ◌≤◌, Bool, ◌||◌, int_lt, unsigned_abs, List, Option, Some, None, IfSome, Result, Ok, Err, if◌then◌else◌}
use Rattle.std.specs.Ordering.{int_eq}
use Rattle.fix_math.specs.declared.fix.V3.{V3}
use Rattle.fix_math.specs.Angles.{sine_of, cosine_of}
use Rattle.fix_math.specs.Directions.{unit_of}
use Rattle.fix_math.specs.Matrices.{along, component, vector, every3, IsVectorWithin}
use Rattle.fix_math.specs.Numbers.{rnd, shortened}
use Rattle.fix_math.specs.Vectors.{length_of, rounded_dot_of, rounded_cross_of}
use Rattle.scene_lexer.specs.declared.token.Place.{Place}
use Rattle.scene_lexer.specs.declared.token.Token.{Token}
use Rattle.scene_expr.specs.declared.value.Settings.{Settings}
use Rattle.scene_expr.specs.Heads.{place_at}
use Rattle.scene_expr.specs.Then.{IsThen, Is}
use Rattle.scene_model.specs.declared.camera.Camera.{Camera}
use Rattle.xform.specs.declared.transform.Xform.{Xform}
use Rattle.xform.specs.Transforms.{point_of, direction_of}
use Rattle.item_blocks.specs.declared.fault.ParseFault.{ParseFault}
use Rattle.item_blocks.specs.Tokens.{Behind, behind, Reading}
use Rattle.item_blocks.specs.Blocks.{IsBlock}
use Rattle.view_blocks.specs.declared.camera.Aim.{Aim}
use Rattle.view_blocks.specs.declared.camera.CameraDraft.{CameraDraft}
use Rattle.view_blocks.specs.declared.span.View.{View}
use Rattle.view_blocks.specs.Cameras.{plain_camera, camera_kind}
use Rattle.view_blocks.specs.Reach.{and_then, reached, way}

abbrev pub scaled : V3 → ℤ → V3
scaled v s = vector (λ i. shortened (along v i *ℤ s) 16)

abbrev pub negated : V3 → V3
negated v = vector (λ i. neg_ℤ (along v i))

abbrev pub is_zero : V3 → Bool
is_zero v = every3 (λ i. int_eq (along v i) (pos 0))

-- ---- first the angle, under which the right side is seen

-- how far away the picture stands: half the right side by the tangent of half the angle
abbrev pub away : ℤ → V3 → ℤ
away angle right = rnd (pos (length_of right) *ℤ cosine_of (rnd angle (pos 2))) (pos 2 *ℤ sine_of (rnd angle (pos 2)))

abbrev pub by_angle : Option ℤ → V3 → V3 → V3
by_angle None direction right = direction
by_angle (Some angle) direction right = scaled (unit_of direction) (away angle right)

-- what is said, with the angle
abbrev pub first_view : CameraDraft → Camera
first_view camera = record { location = camera.location; direction = by_angle camera.angle camera.direction camera.right; right = camera.right; up = camera.up; orthographic = camera.orthographic }

-- ---- then the aim: the three sides keep their lengths

-- whether the right side is on the left: (up × direction) · right is below 0
abbrev pub is_mirrored : Camera → Bool
is_mirrored view = int_lt (rounded_dot_of (rounded_cross_of view.up view.direction) view.right) (pos 0)

abbrev pub turned_to : Camera → V3 → V3 → V3 → Camera
turned_to view x y z = record view {
  direction = scaled z (pos (length_of view.direction));
  right = scaled (if is_mirrored view then negated x else x) (pos (length_of view.right));
  up = scaled y (pos (length_of view.up));
}

-- z leads to the aim, x stands across the sky and z, and y across z and x: none of them is zero
abbrev pub aimed : V3 → Aim → Camera → Result Camera ParseFault
aimed sky aim view =
    let ahead : V3 = way view.location aim.at in
    let across : V3 = rounded_cross_of sky (unit_of ahead) in
    let above : V3 = rounded_cross_of (unit_of ahead) (unit_of across) in
    if is_zero ahead || (is_zero across || is_zero above) then Err (ParseFault.ValueRange aim.place)
    else Ok (turned_to view (unit_of across) (unit_of above) (unit_of ahead))

abbrev pub looking : V3 → Option Aim → Camera → Result Camera ParseFault
looking sky None view = Ok view
looking sky (Some aim) view = aimed sky aim view

-- ---- then the steps, and the range at the end

abbrev pub placed_view : Xform → Place → Camera → Result Camera ParseFault
placed_view x place view =
    and_then (reached place (vector (point_of x view.location))) (λ location.
    and_then (reached place (vector (direction_of x view.direction))) (λ direction.
    and_then (reached place (vector (direction_of x view.right))) (λ right.
    and_then (reached place (vector (direction_of x view.up))) (λ up.
    Ok (record { location = location; direction = direction; right = right; up = up; orthographic = view.orthographic })))))

-- a camera whose word stands at this place
abbrev pub camera_of : Place → CameraDraft → Result Camera ParseFault
camera_of place camera = and_then (looking camera.sky camera.look_at (first_view camera)) (placed_view camera.xform place)

-- ---- grammar: a camera from its word on

abbrev pub IsCameraItem : List Token → Settings → ℕ → Reading Camera
IsCameraItem tokens set depths at r =
    IsThen (Behind CameraDraft) (Behind Camera) ParseFault (IsBlock (camera_kind tokens set) tokens depths plain_camera (at + 1)) (λ camera.
    Is (behind (camera_of (place_at tokens at) camera.value) camera.next)) r

-- the camera of a scene that has none
abbrev pub default_camera : Camera
default_camera = first_view plain_camera

-- what a view shows
abbrev pub shown : View → Camera
shown view = record { location = view.location; direction = vector (component view.direction); right = view.right; up = view.up; orthographic = view.orthographic }

-- ---- what every camera that is read has: its values are in their ranges

pub record IsAngle (angle : ℤ) : Type 0 where
  pub some : pos 1 ≤ℤ angle
  pub less : unsigned_abs angle ≤ 11796479

pub record IsSoundCamera (camera : CameraDraft) : Type 0 where
  pub location : IsVectorWithin (2 ^ 28) camera.location
  pub direction : IsVectorWithin (2 ^ 28) camera.direction
  pub right : IsVectorWithin (2 ^ 28) camera.right
  pub up : IsVectorWithin (2 ^ 28) camera.up
  pub sky : IsVectorWithin (2 ^ 28) camera.sky
  pub angle : IfSome camera.angle IsAngle
  pub aim : IfSome camera.look_at (λ aim. IsVectorWithin (2 ^ 28) aim.at)
