-- What a shape is before a number of a ray and at it, and which of its leaves are struck between the two.
-- (Reference manual, constructive solid geometry)
use lib.Dec.{eqb}
use Rattle.std.specs.Prelude.{ℕ, ◌≡◌, Bool, true, false, ◌&&◌, ◌||◌, List, map}
use Rattle.std.specs.List.{list_any}
use Rattle.scene_model.specs.declared.shape.Op.{Op}
use Rattle.scene_model.specs.declared.shape.Shape.{Shape}
use Rattle.scene_model.specs.declared.shape.Shape.TheOpen.{Shape-F}
use Rattle.scene_model.specs.declared.shape.Shape.TheFolds.{fold-Shape}
pub use Rattle.leaf_boxes.specs.Holding.{differ, with_others, group_holds}

-- of a leaf: whether it holds before a number, whether it holds at it, and whether it is struck there
pub record Crossing : Type 0 where
  pub before : Bool
  pub now : Bool
  pub struck : Bool

-- of a shape: whether it holds before a number and at it, and which leaves it is struck at there
pub record Sides : Type 0 where
  pub before : Bool
  pub now : Bool
  pub strikes : ℕ → Bool

-- a shape that holds nowhere
abbrev pub nowhere : Sides
nowhere = record { before = false; now = false; strikes = λ n. false }

-- whether a group is struck where its parts are: a union always, a merge where it begins or ends to hold itself, the others where they hold before or now
abbrev pub keeps : Op → Bool → Bool → Bool
keeps Op.Union before now = true
keeps Op.Merge before now = differ before now
keeps Op.Intersection before now = before || now
keeps Op.Difference before now = before || now

-- the parts of a group, taken together
abbrev pub together : Op → List Sides → Sides
together op parts = record {
  before = group_holds op (map (λ part. part.before) parts);
  now = group_holds op (map (λ part. part.now) parts);
  strikes = λ n. list_any (λ part. part.strikes n) parts;
}

-- a group: the word `inverse` turns whether it holds, and leaves its strikes
abbrev pub as_group : Op → Bool → Sides → Sides
as_group op inverse parts = record {
  before = differ parts.before inverse;
  now = differ parts.now inverse;
  strikes = λ n. keeps op parts.before parts.now && parts.strikes n;
}

abbrev pub leaf_sides : ℕ → Crossing → Sides
leaf_sides n crossing = record { before = crossing.before; now = crossing.now; strikes = λ m. crossing.struck && eqb m n }

abbrev pub sides_step : (ℕ → Crossing) → Shape-F Sides → Sides
sides_step leaf (Shape-F.Leaf n) = leaf_sides n (leaf n)
sides_step leaf (Shape-F.Group op parts inverse) = as_group op inverse (together op parts.items)

-- a shape, by its leaves
abbrev pub sides : (ℕ → Crossing) → Shape → Sides
sides leaf = fold-Shape Sides (sides_step leaf)

-- two shapes that can't be told apart by where they hold and are struck
abbrev pub AreAlike : Shape → Shape → Type 0
AreAlike a b = (leaf : ℕ → Crossing) → sides leaf a ≡ sides leaf b
