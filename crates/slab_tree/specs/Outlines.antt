-- The boxes of a scene's pieces.
use Rattle.std.specs.Prelude.{ℕ, ◌≡◌, ◌≤◌, ◌<◌, ◌+◌, ◌-◌, Bool, true, false, ◌||◌, Some, List, length, slice_get, nat_eq}
use Rattle.std.specs.List.{list_any}
use Rattle.shapes.specs.declared.ray.Ray.{Ray}
use Rattle.shapes.specs.Rays.{IsInWorld, point_at}
use Rattle.csg_hits.specs.Pieces.{Pieces, is_piece_struck}
use Rattle.box_probe.specs.declared.bounds.Bounds.{Bounds}
use Rattle.box_probe.specs.Boxes.{IsInBounds}

-- a piece isn't struck where neither of the two points lies in a box
abbrev pub IsHeld : Pieces → ℕ → Bounds → Type 0
IsHeld s piece bounds = (ray : Ray) (shadow : Bool) (t leaf : ℕ) → 1 ≤ t → IsInWorld (point_at ray (t - 1)) → IsInWorld (point_at ray t)
    → ¬ IsInBounds bounds (point_at ray (t - 1)) → ¬ IsInBounds bounds (point_at ray t) → is_piece_struck s ray shadow t piece leaf ≡ false

-- a box for each piece, by their numbers
pub record AreBoxes (s : Pieces) (boxes : List Bounds) : Type 0 where
  pub count : length boxes ≡ length s.pieces
  pub held : (piece : ℕ) (bounds : Bounds) → slice_get boxes piece ≡ Some bounds → IsHeld s piece bounds

-- each of so many pieces stands once, apart or in the order: it stands there, and there are as many places as pieces
pub record IsWhole (count : ℕ) (apart order : List ℕ) : Type 0 where
  pub each : (piece : ℕ) → piece < count → (list_any (λ n. nat_eq n piece) apart || list_any (λ n. nat_eq n piece) order) ≡ true
  pub places : length apart + length order ≡ count
