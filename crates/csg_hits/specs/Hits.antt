-- What a ray hits in a scene, and which of it first.
use Rattle.std.specs.Prelude.{ℕ, ◌≡◌, ◌≤◌, ◌<◌, Bool, true, Some, length}
use Rattle.shapes.specs.declared.ray.Ray.{Ray}
use Rattle.shapes.specs.Rays.{point_at, IsInWorld}
use Rattle.csg_hits.specs.declared.scratch.Scratch.{Scratch}
use Rattle.csg_hits.specs.declared.world.Hit.{Hit}
use Rattle.csg_hits.specs.Surfaces.{Surfaces, is_struck, face_at, enters_at}

-- a leaf of an object is hit at t: it is struck there, in the world, behind a number, by a ray that begins in the world
pub record IsHit (s : Surfaces) (ray : Ray) (after : ℕ) (shadow : Bool) (t object leaf : ℕ) : Type 0 where
  pub origin : IsInWorld (point_at ray 0)
  pub place : IsInWorld (point_at ray t)
  pub near : 64 ≤ t
  pub behind : after < t
  pub struck : is_struck s ray shadow t object leaf ≡ true

-- of all hits the one of the least t, of those the one of the first object, and of those the one of its first leaf
pub record IsNearest (s : Surfaces) (ray : Ray) (after : ℕ) (shadow : Bool) (hit : Hit) : Type 0 where
  pub found : IsHit s ray after shadow hit.t hit.object hit.leaf
  pub nearest : (t object leaf : ℕ) → IsHit s ray after shadow t object leaf → hit.t ≤ t
  pub first : (object leaf : ℕ) → IsHit s ray after shadow hit.t object leaf → hit.object ≤ object
  pub first_leaf : (leaf : ℕ) → IsHit s ray after shadow hit.t hit.object leaf → hit.leaf ≤ leaf
  pub face : Some hit.face ≡ face_at s ray hit.t hit.leaf
  pub entering : hit.entering ≡ enters_at s ray hit.t hit.leaf

-- a scratch has a row for each leaf
abbrev pub Fits : Surfaces → Scratch → Type 0
Fits s scratch = length scratch.rows.items ≡ length s.leaves
