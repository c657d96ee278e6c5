-- Where the leaves of a scene stand in its shapes.
use Rattle.std.specs.Prelude.{ℕ, ◌+◌, Bool, true, false, not, ◌&&◌, List, [], ◌∷◌, ◌++◌, map, max}
use Rattle.std.specs.List.{list_all}
use Rattle.scene_model.specs.declared.shape.Leaf.{Leaf}
use Rattle.scene_model.specs.declared.shape.Op.{Op}
use Rattle.scene_model.specs.declared.shape.Shape.{Shape}
use Rattle.scene_model.specs.declared.shape.Shape.TheOpen.{Shape-F}
use Rattle.scene_model.specs.declared.shape.Shape.TheFolds.{fold-Shape}
use Rattle.scene_model.specs.declared.scene.Object.{Object}

-- exactly one of two
abbrev pub differ : Bool → Bool → Bool
differ true b = not b
differ false b = b

-- a leaf's number where it stands, whether going into the object is going out of the leaf there, and the object's number
pub record Place : Type 0 where
  pub leaf : ℕ
  pub negated : Bool
  pub object : ℕ

abbrev pub turned : Bool → Place → Place
turned inverse place = record { leaf = place.leaf; negated = differ place.negated inverse; object = place.object }

-- the places of a group's parts: those behind the first of a difference are turned
abbrev pub of_others : Op → List (List Place) → List Place
of_others op [] = []
of_others Op.Difference (part ∷ parts) = map (turned true) part ++ of_others Op.Difference parts
of_others op (part ∷ parts) = part ++ of_others op parts

abbrev pub of_parts : Op → List (List Place) → List Place
of_parts op [] = []
of_parts op (part ∷ parts) = part ++ of_others op parts

abbrev pub places_step : ℕ → Shape-F (List Place) → List Place
places_step object (Shape-F.Leaf n) = record { leaf = n; negated = false; object = object } ∷ []
places_step object (Shape-F.Group op parts inverse) = map (turned inverse) (of_parts op parts.items)

-- the places of a shape's leaves, in the order as written
abbrev pub places_in : ℕ → Shape → List Place
places_in object = fold-Shape (List Place) (places_step object)

abbrev pub places_of : ℕ → List Object → List Place
places_of number [] = []
places_of number (object ∷ objects) = places_in number object.shape ++ places_of (number + 1) objects

-- what the leaves say of their places: an inversion of its own turns a leaf too
abbrev pub told_of : ℕ → List Leaf → List Place
told_of number [] = []
told_of number (leaf ∷ leaves) =
    record { leaf = number; negated = differ leaf.negated leaf.inverse; object = leaf.object } ∷ told_of (number + 1) leaves

-- how deep the groups of a shape are
abbrev pub greatest : List ℕ → ℕ
greatest [] = 0
greatest (n ∷ ns) = max n (greatest ns)

abbrev pub depth_step : Shape-F ℕ → ℕ
depth_step (Shape-F.Leaf n) = 0
depth_step (Shape-F.Group op parts inverse) = greatest parts.items + 1

abbrev pub depth_of : Shape → ℕ
depth_of = fold-Shape ℕ depth_step

-- each group of a shape has a part
abbrev pub has_some : List Bool → Bool
has_some [] = false
has_some (part ∷ parts) = true

abbrev pub is_filled_step : Shape-F Bool → Bool
is_filled_step (Shape-F.Leaf n) = true
is_filled_step (Shape-F.Group op parts inverse) = has_some parts.items && list_all (λ b. b) parts.items

abbrev pub is_filled : Shape → Bool
is_filled = fold-Shape Bool is_filled_step
