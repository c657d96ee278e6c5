-- Where a shape is struck between two points, one of the two lies in its box.
use lib.Dec.{eqb}
use Rattle.std.proofs.Common.{ℕ, ◌≡◌, Bool, true, false, ◌&&◌, ◌||◌, not, ◌⊎◌, inl, inr, List, [], ◌∷◌, map, refl, ap, sym, subst, ◌∙◌, ⊎_elim}
use Rattle.std.specs.Prelude.{if◌then◌else◌}
use Rattle.std.specs.List.{list_any, list_all}
use Rattle.std.proofs.lemmas.Bool.{and_parts, false≢true, or_cases}
use Rattle.scene_model.specs.declared.shape.Op.{Op}
use Rattle.scene_model.specs.declared.shape.Shape.{Shape}
use Rattle.scene_model.specs.declared.shape.Shape.TheOpen.{Shape-F}
use Rattle.scene_model.specs.declared.shape.Shape.TheViews.{roll-Shape}
use Rattle.scene_model.specs.declared.shape.Shape.TheFolds.{fold-roll-Shape, ind-Shape, map-Shape}
use Rattle.shapes.specs.Rays.{Position, IsInWorld}
use Rattle.leaf_boxes.specs.declared.bounds.Box3.{Box3}
use Rattle.leaf_boxes.specs.BoxLaws.{in_first, in_second, in_both, in_world}
use Rattle.leaf_boxes.specs.Boxes.{IsInBox, world}
use Rattle.leaf_boxes.specs.Groups.{box_numbered, box_step, group_box, shape_box_of, with_box, with_boxes}
use Rattle.csg_hits.specs.Sides.{Crossing, Sides, as_group, differ, group_holds, keeps, leaf_sides, sides, sides_step, together}

-- the boxes of leaves from one point of the world to another
pub record AreBoxed (boxes : List Box3) (leaf : ℕ → Crossing) (p q : Position) : Type 0 where
  pub first : IsInWorld p
  pub second : IsInWorld q
  pub before : (n : ℕ) → (leaf n).before ≡ true → IsInBox (box_numbered boxes n) p
  pub now : (n : ℕ) → (leaf n).now ≡ true → IsInBox (box_numbered boxes n) q
  pub struck : (n : ℕ) → (leaf n).struck ≡ true → IsInBox (box_numbered boxes n) p ⊎ IsInBox (box_numbered boxes n) q

-- what a box holds of a shape
pub record IsAround (box : Box3) (p q : Position) (shape : Sides) : Type 0 where
  pub before : shape.before ≡ true → IsInBox box p
  pub now : shape.now ≡ true → IsInBox box q
  pub struck : (n : ℕ) → shape.strikes n ≡ true → IsInBox box p ⊎ IsInBox box q

-- ---- groups whose box is around those of all parts

-- what holds of one of two boxes holds of the one around both
record Widens (op : Op) (In : Box3 → Type 0) : Type 0 where
  first : (a b : Box3) → In a → In (with_box op a b)
  second : (a b : Box3) → In b → In (with_box op a b)

widened : (op : Op) (In : Box3 → Type 0) → Widens op In → (all : Box3) (bs : List Box3) → In all → In (with_boxes op all bs)
widened op In w all [] h = h
widened op In w all (b ∷ bs) h = widened op In w (with_box op all b) bs (w.first all b h)

-- parts with what is known of each
abbrev Part : (Shape → Type 0) → Type 0
Part Claim = (s : Shape) × Claim s

abbrev shapes_of : (Claim : Shape → Type 0) → List (Part Claim) → List Shape
shapes_of Claim parts = map (λ e. e.0) parts

other_in : (Claim : Shape → Type 0) (op : Op) (In : Box3 → Type 0) → Widens op In → (box : Shape → Box3) (test : Shape → Bool) → ((e : Part Claim) → test e.0 ≡ true → In (box e.0))
    → (all : Box3) (xs : List (Part Claim)) → list_any test (shapes_of Claim xs) ≡ true → In (with_boxes op all (map box (shapes_of Claim xs)))
other_in Claim op In w box test each all [] h = absurd (false≢true h)
other_in Claim op In w box test each all (e ∷ es) h = ⊎_elim
    (λ k. widened op In w (with_box op all (box e.0)) (map box (shapes_of Claim es)) (w.second all (box e.0) (each e k)))
    (λ k. other_in Claim op In w box test each (with_box op all (box e.0)) es k)
    (or_cases (test e.0) (list_any test (shapes_of Claim es)) h)

one_in : (Claim : Shape → Type 0) (op : Op) (In : Box3 → Type 0) → Widens op In → (box : Shape → Box3) (test : Shape → Bool) → ((e : Part Claim) → test e.0 ≡ true → In (box e.0))
    → (xs : List (Part Claim)) → list_any test (shapes_of Claim xs) ≡ true → In (group_box op (map box (shapes_of Claim xs)))
one_in Claim op In w box test each [] h = absurd (false≢true h)
one_in Claim op In w box test each (e ∷ es) h = ⊎_elim
    (λ k. widened op In w (box e.0) (map box (shapes_of Claim es)) (each e k))
    (λ k. other_in Claim op In w box test each (box e.0) es k)
    (or_cases (test e.0) (list_any test (shapes_of Claim es)) h)

-- ---- where a group holds

any_of : {A : Type 0} (f : A → Sides) (side : Sides → Bool) (xs : List A) → list_any (λ b. b) (map side (map f xs)) ≡ list_any (λ x. side (f x)) xs
any_of f side [] = refl
any_of f side (x ∷ xs) = ap (λ (b : Bool). side (f x) || b) (any_of f side xs)

any_strike : {A : Type 0} (f : A → Sides) (n : ℕ) (xs : List A) → list_any (λ part. part.strikes n) (map f xs) ≡ list_any (λ x. (f x).strikes n) xs
any_strike f n [] = refl
any_strike f n (x ∷ xs) = ap (λ (b : Bool). (f x).strikes n || b) (any_strike f n xs)

all_in : (Claim : Shape → Type 0) (p : Position) (box : Shape → Box3) (f : Shape → Sides) (side : Sides → Bool) → ((e : Part Claim) → side (f e.0) ≡ true → IsInBox (box e.0) p)
    → (all : Box3) (xs : List (Part Claim)) → IsInBox all p → list_all (λ b. b) (map side (map f (shapes_of Claim xs))) ≡ true → IsInBox (with_boxes Op.Intersection all (map box (shapes_of Claim xs))) p
all_in Claim p box f side each all [] h k = h
all_in Claim p box f side each all (e ∷ es) h k =
    let m = and_parts (side (f e.0)) (list_all (λ b. b) (map side (map f (shapes_of Claim es)))) k in
    all_in Claim p box f side each (with_box Op.Intersection all (box e.0)) es (in_both all (box e.0) p h (each e m.0)) m.1

cut_in : (p : Position) (all : Box3) (bs : List Box3) → IsInBox all p → IsInBox (with_boxes Op.Difference all bs) p
cut_in p all [] h = h
cut_in p all (b ∷ bs) h = cut_in p all bs h

-- a group that holds at a point has it in its box
group_in : (Claim : Shape → Type 0) (op : Op) (p : Position) (box : Shape → Box3) (f : Shape → Sides) (side : Sides → Bool) → ((e : Part Claim) → side (f e.0) ≡ true → IsInBox (box e.0) p)
    → (xs : List (Part Claim)) → group_holds op (map side (map f (shapes_of Claim xs))) ≡ true → IsInBox (group_box op (map box (shapes_of Claim xs))) p
group_in Claim op p box f side each [] h = absurd (false≢true h)
group_in Claim Op.Union p box f side each (e ∷ es) h =
    one_in Claim Op.Union (λ b. IsInBox b p) (record { first = λ a b. in_first a b p; second = λ a b. in_second a b p }) box (λ s. side (f s)) each (e ∷ es) (sym (any_of f side (shapes_of Claim (e ∷ es))) ∙ h)
group_in Claim Op.Merge p box f side each (e ∷ es) h =
    one_in Claim Op.Merge (λ b. IsInBox b p) (record { first = λ a b. in_first a b p; second = λ a b. in_second a b p }) box (λ s. side (f s)) each (e ∷ es) (sym (any_of f side (shapes_of Claim (e ∷ es))) ∙ h)
group_in Claim Op.Intersection p box f side each (e ∷ es) h =
    let m = and_parts (side (f e.0)) (list_all (λ b. b) (map side (map f (shapes_of Claim es)))) h in
    all_in Claim p box f side each (box e.0) es (each e m.0) m.1
group_in Claim Op.Difference p box f side each (e ∷ es) h =
    let m = and_parts (side (f e.0)) (not (list_any (λ b. b) (map side (map f (shapes_of Claim es))))) h in
    cut_in p (box e.0) (map box (shapes_of Claim es)) (each e m.0)

-- ---- where it is struck

abbrev Either : Position → Position → Box3 → Type 0
Either p q b = IsInBox b p ⊎ IsInBox b q

first_either : (p q : Position) (a b : Box3) → Either p q a → Either p q (with_box Op.Union a b)
first_either p q a b (inl h) = inl (in_first a b p h)
first_either p q a b (inr h) = inr (in_first a b q h)

second_either : (p q : Position) (a b : Box3) → Either p q b → Either p q (with_box Op.Union a b)
second_either p q a b (inl h) = inl (in_second a b p h)
second_either p q a b (inr h) = inr (in_second a b q h)

-- a shape by its sides and its box
abbrev Claim_of : (Shape → Box3) → (Shape → Sides) → Position → Position → Shape → Type 0
Claim_of box f p q s = IsAround (box s) p q (f s)

before_in : (box : Shape → Box3) (f : Shape → Sides) (op : Op) (p q : Position) (xs : List (Part (Claim_of box f p q)))
    → group_holds op (map (λ s. s.before) (map f (shapes_of (Claim_of box f p q) xs))) ≡ true → IsInBox (group_box op (map box (shapes_of (Claim_of box f p q) xs))) p
before_in box f op p q xs h = group_in (Claim_of box f p q) op p box f (λ s. s.before) (λ e k. e.1.before k) xs h

now_in : (box : Shape → Box3) (f : Shape → Sides) (op : Op) (p q : Position) (xs : List (Part (Claim_of box f p q)))
    → group_holds op (map (λ s. s.now) (map f (shapes_of (Claim_of box f p q) xs))) ≡ true → IsInBox (group_box op (map box (shapes_of (Claim_of box f p q) xs))) q
now_in box f op p q xs h = group_in (Claim_of box f p q) op q box f (λ s. s.now) (λ e k. e.1.now k) xs h

part_in : (box : Shape → Box3) (f : Shape → Sides) (op : Op) (p q : Position) → Widens op (Either p q) → (xs : List (Part (Claim_of box f p q))) (n : ℕ)
    → list_any (λ part. part.strikes n) (map f (shapes_of (Claim_of box f p q) xs)) ≡ true → Either p q (group_box op (map box (shapes_of (Claim_of box f p q) xs)))
part_in box f op p q w xs n h =
    one_in (Claim_of box f p q) op (Either p q) w box (λ s. (f s).strikes n) (λ e k. e.1.struck n k) xs (sym (any_strike f n (shapes_of (Claim_of box f p q) xs)) ∙ h)

either_in : (box : Shape → Box3) (f : Shape → Sides) (op : Op) (p q : Position) (xs : List (Part (Claim_of box f p q)))
    → ((together op (map f (shapes_of (Claim_of box f p q) xs))).before || (together op (map f (shapes_of (Claim_of box f p q) xs))).now) ≡ true → Either p q (group_box op (map box (shapes_of (Claim_of box f p q) xs)))
either_in box f op p q xs h =
    let all : Sides = together op (map f (shapes_of (Claim_of box f p q) xs)) in
    ⊎_elim (λ k. inl (before_in box f op p q xs k)) (λ k. inr (now_in box f op p q xs k)) (or_cases all.before all.now h)

-- a union's and a merge's strikes are those of parts, the others hold before or now
strike_in : (box : Shape → Box3) (f : Shape → Sides) (op : Op) (p q : Position) (xs : List (Part (Claim_of box f p q))) (n : ℕ)
    → (keeps op (together op (map f (shapes_of (Claim_of box f p q) xs))).before (together op (map f (shapes_of (Claim_of box f p q) xs))).now && list_any (λ part. part.strikes n) (map f (shapes_of (Claim_of box f p q) xs))) ≡ true
    → Either p q (group_box op (map box (shapes_of (Claim_of box f p q) xs)))
strike_in box f Op.Union p q xs n h = part_in box f Op.Union p q (record { first = first_either p q; second = second_either p q }) xs n h
strike_in box f Op.Merge p q xs n h =
    let all : Sides = together Op.Merge (map f (shapes_of (Claim_of box f p q) xs)) in
    part_in box f Op.Merge p q (record { first = first_either p q; second = second_either p q }) xs n (and_parts (differ all.before all.now) (all.strikes n) h).1
strike_in box f Op.Intersection p q xs n h =
    let all : Sides = together Op.Intersection (map f (shapes_of (Claim_of box f p q) xs)) in
    either_in box f Op.Intersection p q xs (and_parts (all.before || all.now) (all.strikes n) h).0
strike_in box f Op.Difference p q xs n h =
    let all : Sides = together Op.Difference (map f (shapes_of (Claim_of box f p q) xs)) in
    either_in box f Op.Difference p q xs (and_parts (all.before || all.now) (all.strikes n) h).0

-- ---- all shapes

plain : (holds : Bool) → differ holds false ≡ true → holds ≡ true
plain true e = refl
plain false e = e

group_around : (box : Shape → Box3) (f : Shape → Sides) (op : Op) (inverse : Bool) (p q : Position) → IsInWorld p → IsInWorld q → (xs : List (Part (Claim_of box f p q)))
    → IsAround (if inverse then world else group_box op (map box (shapes_of (Claim_of box f p q) xs))) p q (as_group op inverse (together op (map f (shapes_of (Claim_of box f p q) xs))))
group_around box f op true p q here there xs = record {
  before = λ k. in_world p here;
  now = λ k. in_world q there;
  struck = λ n k. inl (in_world p here);
}
group_around box f op false p q here there xs =
    let all : Sides = together op (map f (shapes_of (Claim_of box f p q) xs)) in
    record {
      before = λ k. before_in box f op p q xs (plain all.before k);
      now = λ k. now_in box f op p q xs (plain all.now k);
      struck = λ n k. strike_in box f op p q xs n k;
    }

leaf_around : (boxes : List Box3) (leaf : ℕ → Crossing) (p q : Position) → AreBoxed boxes leaf p q → (m : ℕ) → IsAround (box_numbered boxes m) p q (leaf_sides m (leaf m))
leaf_around boxes leaf p q h m = record {
  before = h.before m;
  now = h.now m;
  struck = λ n k. h.struck m (and_parts (leaf m).struck (eqb n m) k).0;
}

abbrev Claim : List Box3 → (ℕ → Crossing) → Position → Position → Shape → Type 0
Claim boxes leaf p q = Claim_of (shape_box_of boxes) (sides leaf) p q

carried : (boxes : List Box3) (leaf : ℕ → Crossing) (p q : Position) (shape : Shape) (s : Sides) (b : Box3) → sides leaf shape ≡ s → shape_box_of boxes shape ≡ b → IsAround b p q s → Claim boxes leaf p q shape
carried boxes leaf p q shape s b e f h =
    let P : Sides → Type 0 = λ v. IsAround (shape_box_of boxes shape) p q v in
    let Q : Box3 → Type 0 = λ v. IsAround v p q s in
    subst P (sym e) (subst Q (sym f) h)

layer_around : (boxes : List Box3) (leaf : ℕ → Crossing) (p q : Position) → AreBoxed boxes leaf p q → (y : Shape-F (Part (Claim boxes leaf p q))) → Claim boxes leaf p q (roll-Shape (map-Shape _ Shape (λ e. e.0) y))
layer_around boxes leaf p q h (Shape-F.Leaf m) =
    let whole : Shape-F Shape = map-Shape _ Shape (λ (e : Part (Claim boxes leaf p q)). e.0) (Shape-F.Leaf m) in
    carried boxes leaf p q (roll-Shape whole) (leaf_sides m (leaf m)) (box_numbered boxes m) (fold-roll-Shape Sides (sides_step leaf) whole) (fold-roll-Shape Box3 (box_step boxes) whole) (leaf_around boxes leaf p q h m)
layer_around boxes leaf p q h (Shape-F.Group op parts inverse) =
    let whole : Shape-F Shape = map-Shape _ Shape (λ (e : Part (Claim boxes leaf p q)). e.0) (Shape-F.Group op parts inverse) in
    let inner : List Shape = shapes_of (Claim boxes leaf p q) parts.items in
    carried boxes leaf p q (roll-Shape whole) (as_group op inverse (together op (map (sides leaf) inner))) (if inverse then world else group_box op (map (shape_box_of boxes) inner))
    (fold-roll-Shape Sides (sides_step leaf) whole) (fold-roll-Shape Box3 (box_step boxes) whole)
    (group_around (shape_box_of boxes) (sides leaf) op inverse p q h.first h.second parts.items)

pub around : (boxes : List Box3) (leaf : ℕ → Crossing) (p q : Position) → AreBoxed boxes leaf p q → (shape : Shape) → IsAround (shape_box_of boxes shape) p q (sides leaf shape)
around boxes leaf p q h = ind-Shape (Claim boxes leaf p q) (λ x y is. subst (λ z. Claim boxes leaf p q (roll-Shape z)) is (layer_around boxes leaf p q h y))
