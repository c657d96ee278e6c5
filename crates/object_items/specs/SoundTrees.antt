-- What is told of a tree: the places of its leaves, how deep its groups are, and whether each has a part. It is what is told of the shape.
use Rattle.std.specs.Prelude.{◌≡◌, ℕ, ◌+◌, Bool, true, false, ◌&&◌, List, [], ◌∷◌, map, refl}
use Rattle.std.specs.List.{list_all}
use Rattle.std.proofs.Common.{subst, sym, ap, ◌∙◌}
use Rattle.scene_model.specs.declared.shape.Op.{Op}
use Rattle.scene_model.specs.declared.shape.Shape.{Shape}
use Rattle.scene_model.specs.declared.shape.Shape.TheOpen.{Shape-F}
use Rattle.scene_model.specs.declared.shape.Shape.TheViews.{roll-Shape}
use Rattle.scene_model.specs.declared.shape.Shape.TheFolds.{fold-roll-Shape, ind-Shape, map-Shape}
use Rattle.scene_model.specs.Places.{Place, turned, of_parts, places_step, places_in, greatest, depth_step, depth_of, has_some, is_filled_step, is_filled}
use Rattle.object_items.specs.Trees.{Tree, Trees, trees_of, tree_step, tree_of}

pub record Told : Type 0 where
  pub places : List Place
  pub depth : ℕ
  pub filled : Bool

abbrev pub leaf_told : ℕ → ℕ → Told
leaf_told object n = record { places = record { leaf = n; negated = false; object = object } ∷ []; depth = 0; filled = true }

abbrev pub group_told : Op → Bool → List Told → Told
group_told op inverse parts = record {
  places = map (turned inverse) (of_parts op (map (λ told. told.places) parts));
  depth = greatest (map (λ told. told.depth) parts) + 1;
  filled = has_some (map (λ told. told.filled) parts) && list_all (λ b. b) (map (λ told. told.filled) parts);
}

abbrev mutual
  -- what is told of a tree in an object with this number
  pub told_of : ℕ → Tree → Told
  told_of object (Tree.leaf n) = leaf_told object n
  told_of object (Tree.group op parts inverse) = group_told op inverse (all_told object parts)

  pub all_told : ℕ → Trees → List Told
  all_told object Trees.none = []
  all_told object (Trees.further tree trees) = told_of object tree ∷ all_told object trees

pub told_list : (object : ℕ) (trees : List Tree) → all_told object (trees_of trees) ≡ map (told_of object) trees
told_list object [] = refl
told_list object (tree ∷ trees) = ap (λ l. told_of object tree ∷ l) (told_list object trees)

-- ---- the same of a shape

abbrev shape_told : ℕ → Shape → Told
shape_told object shape = record { places = places_in object shape; depth = depth_of shape; filled = is_filled shape }

abbrev IsTold : ℕ → Shape → Type 0
IsTold object shape = told_of object (tree_of shape) ≡ shape_told object shape

parts_told : (object : ℕ) (xs : List ((s : Shape) × IsTold object s)) → all_told object (trees_of (map tree_of (map (λ e. e.0) xs))) ≡ map (shape_told object) (map (λ e. e.0) xs)
parts_told object [] = refl
parts_told object (e ∷ es) = ap (λ t. t ∷ all_told object (trees_of (map tree_of (map (λ e. e.0) es)))) e.1 ∙ ap (λ l. shape_told object e.0 ∷ l) (parts_told object es)

all_places : (object : ℕ) (xs : List Shape) → map (λ told. told.places) (map (shape_told object) xs) ≡ map (places_in object) xs
all_places object [] = refl
all_places object (x ∷ xs) = ap (λ l. places_in object x ∷ l) (all_places object xs)

all_depths : (object : ℕ) (xs : List Shape) → map (λ told. told.depth) (map (shape_told object) xs) ≡ map depth_of xs
all_depths object [] = refl
all_depths object (x ∷ xs) = ap (λ l. depth_of x ∷ l) (all_depths object xs)

all_filled : (object : ℕ) (xs : List Shape) → map (λ told. told.filled) (map (shape_told object) xs) ≡ map is_filled xs
all_filled object [] = refl
all_filled object (x ∷ xs) = ap (λ l. is_filled x ∷ l) (all_filled object xs)

abbrev told_by : List Place → ℕ → Bool → Told
told_by places depth filled = record { places = places; depth = depth; filled = filled }

same_told : (a b : List Place) (m n : ℕ) (x y : Bool) → a ≡ b → m ≡ n → x ≡ y → told_by a m x ≡ told_by b n y
same_told a b m n x y e f g = rw (e, f, g) refl

layer_told : (object : ℕ) (y : Shape-F ((s : Shape) × IsTold object s)) → IsTold object (roll-Shape (map-Shape _ Shape (λ e. e.0) y))
layer_told object (Shape-F.Leaf n) =
    ap (told_of object) (fold-roll-Shape Tree tree_step (Shape-F.Leaf n))
    ∙ sym (same_told _ _ _ _ _ _ (fold-roll-Shape (List Place) (places_step object) (Shape-F.Leaf n)) (fold-roll-Shape ℕ depth_step (Shape-F.Leaf n)) (fold-roll-Shape Bool is_filled_step (Shape-F.Leaf n)))
layer_told object (Shape-F.Group op parts inverse) =
    let whole : Shape-F Shape = map-Shape _ Shape (λ e. e.0) (Shape-F.Group op parts inverse) in
    let shapes = map (λ (e : (s : Shape) × IsTold object s). e.0) parts.items in
    let tree : tree_of (roll-Shape whole) ≡ Tree.group op (trees_of (map tree_of shapes)) inverse = fold-roll-Shape Tree tree_step whole in
    let places : places_in object (roll-Shape whole) ≡ map (turned inverse) (of_parts op (map (places_in object) shapes)) = fold-roll-Shape (List Place) (places_step object) whole in
    let depth : depth_of (roll-Shape whole) ≡ greatest (map depth_of shapes) + 1 = fold-roll-Shape ℕ depth_step whole in
    let filled : is_filled (roll-Shape whole) ≡ (has_some (map is_filled shapes) && list_all (λ b. b) (map is_filled shapes)) = fold-roll-Shape Bool is_filled_step whole in
    ap (told_of object) tree ∙ ap (group_told op inverse) (parts_told object parts.items)
    ∙ same_told _ _ _ _ _ _
    (ap (λ l. map (turned inverse) (of_parts op l)) (all_places object shapes) ∙ sym places)
    (ap (λ l. greatest l + 1) (all_depths object shapes) ∙ sym depth)
    (ap (λ l. has_some l && list_all (λ b. b) l) (all_filled object shapes) ∙ sym filled)

-- what is told of a shape's tree is told of the shape
pub told_shape : (object : ℕ) (shape : Shape) → IsTold object shape
told_shape object = ind-Shape (IsTold object) (λ x y is. subst (λ z. IsTold object (roll-Shape z)) is (layer_told object y))
