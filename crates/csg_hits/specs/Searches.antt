-- The search for a ray's nearest hit, piece by piece, in any order.
use Rattle.std.specs.Prelude.{ℕ, ◌≡◌, ◌≤◌, ◌<◌, ◌+◌, ◌^◌, ◌↔◌, ◌⊎◌, Bool, true, false, ◌&&◌, ◌||◌, Option, Some, None, length, nat_eq, nat_lt}
use Rattle.shapes.specs.declared.ray.Ray.{Ray}
use Rattle.shapes.specs.Rays.{IsInWorld, point_at}
use Rattle.csg_hits.specs.declared.asking.Found.{Found}
use Rattle.csg_hits.specs.declared.asking.Search.{Search}
use Rattle.csg_hits.specs.Pieces.{Pieces, any_strikes, is_piece_struck, owner}
use Rattle.csg_hits.specs.Surfaces.{leaf_on}

-- a strike comes before the best one, which isn't at a lower number: at a lower one itself, of an object with a lower number, or of the same object at a leaf with a lower number
abbrev pub is_before : Option Found → Found → Bool
is_before None found = true
is_before (Some best) found =
    (nat_lt found.strike.t best.strike.t || nat_lt found.object best.object) || (nat_eq found.object best.object && nat_lt found.strike.leaf best.strike.leaf)

-- a strike counts for nothing: the best one is at the same number, and neither of a later object nor of the same one at a later leaf
abbrev pub IsBeaten : Option Found → ℕ → ℕ → ℕ → Type 0
IsBeaten None t object leaf = ⊥
IsBeaten (Some best) t object leaf = (t ≡ best.strike.t) × (best.object ≤ object) × (object ≡ best.object → best.strike.leaf ≤ leaf)

-- all strikes of a piece from the search's first number on and below its end count for nothing
abbrev pub IsAsked : Pieces → Search → ℕ → Type 0
IsAsked s search piece =
    (t leaf : ℕ) → search.from ≤ t → t < search.path.end → is_piece_struck s search.path.ray search.shadow t piece leaf ≡ true → IsBeaten search.best t (owner s piece) leaf

-- a search with one more strike below its end, which is taken where it comes before the best one
pub record IsWith (search : Search) (found : Found) (new : Search) : Type 0 where
  pub ray : new.path.ray ≡ search.path.ray
  pub from : new.from ≡ search.from
  pub shadow : new.shadow ≡ search.shadow
  pub taken_best : is_before search.best found ≡ true → new.best ≡ Some found
  pub taken_end : is_before search.best found ≡ true → new.path.end ≡ found.strike.t + 1
  pub left_best : is_before search.best found ≡ false → new.best ≡ search.best
  pub left_end : is_before search.best found ≡ false → new.path.end ≡ search.path.end

-- what was found is a strike that the search looks for, of a piece of the object
pub record IsStrike (s : Pieces) (search : Search) (found : Found) : Type 0 where
  pub low : search.from ≤ found.strike.t
  pub high : found.strike.t < search.path.end
  pub struck : any_strikes (leaf_on s.leaves search.path.ray found.strike.t) search.shadow found.object found.strike.leaf s.pieces ≡ true

-- a search goes on: for the same, no farther; what was asked stays so, and the best strike is the old one or a new one
pub record IsFurther (s : Pieces) (old new : Search) : Type 0 where
  pub ray : new.path.ray ≡ old.path.ray
  pub from : new.from ≡ old.from
  pub shadow : new.shadow ≡ old.shadow
  pub end : new.path.end ≤ old.path.end
  pub asked : (piece : ℕ) → IsAsked s old piece → IsAsked s new piece
  pub none : new.best ≡ None → (old.best ≡ None) × (new.path.end ≡ old.path.end)
  pub found : (found : Found) → new.best ≡ Some found → (old.best ≡ Some found) ⊎ IsStrike s old found

-- where a search begins on a ray: at least at 64, and behind a number
pub record IsBegin (after from : ℕ) : Type 0 where
  pub near : 64 ≤ from
  pub behind : (t : ℕ) → from ≤ t → t < 2 ^ 31 → after < t
  pub all : (t : ℕ) → 64 ≤ t → after < t → t < 2 ^ 31 → from ≤ t

-- a search that begins: on the whole of a ray, with nothing found
pub record IsStart (r : Ray) (after : ℕ) (dark : Bool) (search : Search) : Type 0 where
  pub ray : search.path.ray ≡ r
  pub from : IsBegin after search.from
  pub shadow : search.shadow ≡ dark
  pub best : search.best ≡ None
  pub reach : (t : ℕ) → (t < search.path.end) ↔ IsInWorld (point_at r t)

-- a search has asked all pieces, since it began
pub record IsDone (s : Pieces) (ray : Ray) (after : ℕ) (shadow : Bool) (search : Search) : Type 0 where
  pub start : Search
  pub begun : IsStart ray after shadow start
  pub further : IsFurther s start search
  pub asked : (piece : ℕ) → piece < length s.pieces → IsAsked s search piece
