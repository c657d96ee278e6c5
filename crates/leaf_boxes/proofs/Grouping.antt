-- A point at which a shape holds lies in its box, part by part.
use Rattle.std.proofs.Common.{ℕ, ◌+◌, ◌<◌, ◌≤◌, ◌≡◌, Bool, true, false, not, ◌&&◌, ◌||◌, List, [], ◌∷◌, ◌++◌, length, get_or, take, map, Vec, Global, refl, ap, sym, subst, ◌∙◌, arith}
use Rattle.std.specs.List.{list_any, list_all}
use Rattle.std.specs.Prelude.{if◌then◌else◌}
use Rattle.std.proofs.lemmas.Bool.{false≢true}
use Rattle.std.proofs.lemmas.List.{take_more, map-append, length-map, length-take, take_all}
use Rattle.scene_model.specs.declared.shape.Op.{Op}
use Rattle.scene_model.specs.declared.shape.Shape.{Shape}
use Rattle.scene_model.specs.declared.shape.Shape.TheOpen.{Shape-F}
use Rattle.scene_model.specs.declared.shape.Shape.TheViews.{Group}
use Rattle.scene_model.specs.declared.shape.Shape.TheFolds.{fold-roll-Shape}
use Rattle.scene_model.specs.declared.shape.Shape.TheVariants.{rolls-Group}
use Rattle.shapes.specs.Rays.{Position, IsInWorld}
use Rattle.leaf_boxes.specs.declared.bounds.Box3.{Box3}
use Rattle.leaf_boxes.specs.BoxLaws.{in_first, in_second, in_both}
use Rattle.leaf_boxes.specs.Boxes.{IsInBox, world}
use Rattle.leaf_boxes.specs.Groups.{with_box, with_boxes, group_box, box_step, shape_box_of, AreHeld}
use Rattle.leaf_boxes.specs.Holding.{differ, with_others, group_holds, holds_step, shape_holds}

-- ---- one part more

or_none : (a : Bool) → (a || false) ≡ a
or_none true = refl
or_none false = refl

and_all : (a : Bool) → (a && true) ≡ a
and_all true = refl
and_all false = refl

or_step : (a b c : Bool) → ((a || b) || c) ≡ (a || (b || c))
or_step true b c = refl
or_step false b c = refl

and_step : (a b c : Bool) → ((a && b) && c) ≡ (a && (b && c))
and_step true b c = refl
and_step false b c = refl

cut_step : (a b c : Bool) → ((a && not b) && not c) ≡ (a && not (b || c))
cut_step true true c = refl
cut_step true false c = refl
cut_step false b c = refl

any_push : (xs : List Bool) (y : Bool) → list_any (λ b. b) (xs ++ y ∷ []) ≡ (list_any (λ b. b) xs || y)
any_push [] y = or_none y
any_push (x ∷ xs) y = ap (λ (b : Bool). x || b) (any_push xs y) ∙ sym (or_step x (list_any (λ b. b) xs) y)

all_push : (xs : List Bool) (y : Bool) → list_all (λ b. b) (xs ++ y ∷ []) ≡ (list_all (λ b. b) xs && y)
all_push [] y = and_all y
all_push (x ∷ xs) y = ap (λ (b : Bool). x && b) (all_push xs y) ∙ sym (and_step x (list_all (λ b. b) xs) y)

-- a group of some parts, with one part more
abbrev joined : Op → Bool → Bool → Bool
joined Op.Union all part = all || part
joined Op.Merge all part = all || part
joined Op.Intersection all part = all && part
joined Op.Difference all part = all && not part

one_holds : (op : Op) (x : Bool) → with_others op x [] ≡ x
one_holds Op.Union x = or_none x
one_holds Op.Merge x = or_none x
one_holds Op.Intersection x = and_all x
one_holds Op.Difference x = and_all x

more_hold : (op : Op) (x : Bool) (xs : List Bool) (y : Bool) → with_others op x (xs ++ y ∷ []) ≡ joined op (with_others op x xs) y
more_hold Op.Union x xs y = ap (λ (b : Bool). x || b) (any_push xs y) ∙ sym (or_step x (list_any (λ b. b) xs) y)
more_hold Op.Merge x xs y = ap (λ (b : Bool). x || b) (any_push xs y) ∙ sym (or_step x (list_any (λ b. b) xs) y)
more_hold Op.Intersection x xs y = ap (λ (b : Bool). x && b) (all_push xs y) ∙ sym (and_step x (list_all (λ b. b) xs) y)
more_hold Op.Difference x xs y = ap (λ (b : Bool). x && not b) (any_push xs y) ∙ sym (cut_step x (list_any (λ b. b) xs) y)

holds_push : (op : Op) (xs : List Bool) (y : Bool) → 0 < length xs → group_holds op (xs ++ y ∷ []) ≡ joined op (group_holds op xs) y
holds_push op [] y h = absurd (omega arith)
holds_push op (x ∷ xs) y h = more_hold op x xs y

boxes_push : (op : Op) (all : Box3) (xs : List Box3) (y : Box3) → with_boxes op all (xs ++ y ∷ []) ≡ with_box op (with_boxes op all xs) y
boxes_push op all [] y = refl
boxes_push op all (x ∷ xs) y = boxes_push op (with_box op all x) xs y

box_push : (op : Op) (xs : List Box3) (y : Box3) → 0 < length xs → group_box op (xs ++ y ∷ []) ≡ with_box op (group_box op xs) y
box_push op [] y h = absurd (omega arith)
box_push op (x ∷ xs) y h = boxes_push op x xs y

and_first : (p q : Bool) → (p && q) ≡ true → p ≡ true
and_first true q e = refl
and_first false q e = e

and_second : (p q : Bool) → (p && q) ≡ true → q ≡ true
and_second true q e = e
and_second false q e = absurd (false≢true e)

joined_in : (op : Op) (a b : Box3) (p : Position) (x y : Bool) → (x ≡ true → IsInBox a p) → (y ≡ true → IsInBox b p) → joined op x y ≡ true → IsInBox (with_box op a b) p
joined_in Op.Union a b p true y h k e = in_first a b p (h refl)
joined_in Op.Union a b p false y h k e = in_second a b p (k e)
joined_in Op.Merge a b p true y h k e = in_first a b p (h refl)
joined_in Op.Merge a b p false y h k e = in_second a b p (k e)
joined_in Op.Intersection a b p x y h k e = in_both a b p (h (and_first x y e)) (k (and_second x y e))
joined_in Op.Difference a b p x y h k e = h (and_first x (not y) e)

-- ---- the parts up to one

-- a box holds each point at which something holds, by where the leaves do
abbrev pub Holds : List Box3 → ((ℕ → Bool) → Bool) → Box3 → Type 0
Holds boxes holds found = (leaf : ℕ → Bool) (p : Position) → IsInWorld p → AreHeld leaf boxes p → holds leaf ≡ true → IsInBox found p

pub record IsBoxOf (boxes : List Box3) (shape : Shape) (found : Box3) : Type 0 where
  pub value : found ≡ shape_box_of boxes shape
  pub inside : Holds boxes (λ leaf. shape_holds leaf shape) found

abbrev pub first_box : Op → List Box3 → List Shape → ℕ → Box3
first_box op boxes parts i = group_box op (map (shape_box_of boxes) (take i parts))

abbrev pub first_hold : Op → List Shape → ℕ → (ℕ → Bool) → Bool
first_hold op parts i leaf = group_holds op (map (shape_holds leaf) (take i parts))

pub record IsSoFar (op : Op) (boxes : List Box3) (parts : List Shape) (i : ℕ) (all : Box3) : Type 0 where
  pub value : all ≡ first_box op boxes parts i
  pub inside : Holds boxes (first_hold op parts i) all

one_box : (op : Op) (boxes : List Box3) (parts : List Shape) (x : Shape) → 0 < length parts → x ≡ get_or parts 0 x → first_box op boxes parts 1 ≡ shape_box_of boxes x
one_box op boxes [] x lt e = absurd (omega arith)
one_box op boxes (p ∷ ps) x lt e = ap (shape_box_of boxes) (sym e)

one_hold : (op : Op) (leaf : ℕ → Bool) (parts : List Shape) (x : Shape) → 0 < length parts → x ≡ get_or parts 0 x → first_hold op parts 1 leaf ≡ shape_holds leaf x
one_hold op leaf [] x lt e = absurd (omega arith)
one_hold op leaf (p ∷ ps) x lt e = one_holds op (shape_holds leaf p) ∙ ap (shape_holds leaf) (sym e)

pub begun : (op : Op) (boxes : List Box3) (parts : List Shape) (i : ℕ) (x : Shape) (found : Box3) → i ≡ 0 → i < length parts → x ≡ get_or parts i x
    → IsBoxOf boxes x found → IsSoFar op boxes parts (i + 1) found
begun op boxes parts i x found none lt e h =
    let P : ℕ → Type 0 = λ k. k < length parts → x ≡ get_or parts k x → IsSoFar op boxes parts (k + 1) found in
    subst P (sym none) (λ l f. record {
      value = h.value ∙ sym (one_box op boxes parts x l f);
      inside = λ leaf p within held holds. h.inside leaf p within held (sym (one_hold op leaf parts x l f) ∙ holds);
    }) lt e

mapped : {A : Type 0} (f : Shape → A) (parts : List Shape) (i : ℕ) (x : Shape) → i < length parts → map f (take (i + 1) parts) ≡ map f (take i parts) ++ (f (get_or parts i x) ∷ [])
mapped f parts i x lt = ap (map f) (take_more parts i x lt) ∙ map-append f (take i parts) (get_or parts i x ∷ [])

some_mapped : {A : Type 0} (f : Shape → A) (parts : List Shape) (i : ℕ) → 0 < i → i < length parts → 0 < length (map f (take i parts))
some_mapped f parts i positive lt = rw (length-map, length-take) (omega arith)

more_box : (op : Op) (boxes : List Box3) (parts : List Shape) (i : ℕ) (x : Shape) → 0 < i → i < length parts → x ≡ get_or parts i x
    → first_box op boxes parts (i + 1) ≡ with_box op (first_box op boxes parts i) (shape_box_of boxes x)
more_box op boxes parts i x positive lt e =
    let f : Shape → Box3 = shape_box_of boxes in
    ap (group_box op) (mapped f parts i x lt) ∙ box_push op (map f (take i parts)) (f (get_or parts i x)) (some_mapped f parts i positive lt)
    ∙ ap (λ (y : Shape). with_box op (first_box op boxes parts i) (f y)) (sym e)

more_holds : (op : Op) (leaf : ℕ → Bool) (parts : List Shape) (i : ℕ) (x : Shape) → 0 < i → i < length parts → x ≡ get_or parts i x
    → first_hold op parts (i + 1) leaf ≡ joined op (first_hold op parts i leaf) (shape_holds leaf x)
more_holds op leaf parts i x positive lt e =
    let f : Shape → Bool = shape_holds leaf in
    ap (group_holds op) (mapped f parts i x lt) ∙ holds_push op (map f (take i parts)) (f (get_or parts i x)) (some_mapped f parts i positive lt)
    ∙ ap (λ (y : Shape). joined op (first_hold op parts i leaf) (f y)) (sym e)

both_same : (op : Op) (a b c d r : Box3) → a ≡ c → b ≡ d → r ≡ with_box op a b → r ≡ with_box op c d
both_same op a b c d r e f g = g ∙ ap (λ (v : Box3). with_box op v b) e ∙ ap (with_box op c) f

pub joined_more : (op : Op) (boxes : List Box3) (parts : List Shape) (i : ℕ) (x : Shape) (all found result : Box3) → 0 < i → i < length parts → x ≡ get_or parts i x
    → IsSoFar op boxes parts i all → IsBoxOf boxes x found → result ≡ with_box op all found → IsSoFar op boxes parts (i + 1) result
joined_more op boxes parts i x all found result positive lt e h k is = record {
  value = both_same op all found (first_box op boxes parts i) (shape_box_of boxes x) result h.value k.value is ∙ sym (more_box op boxes parts i x positive lt e);
  inside = λ leaf p within held holds.
      let P : Box3 → Type 0 = λ b. IsInBox b p in
      subst P (sym is) (joined_in op all found p (first_hold op parts i leaf) (shape_holds leaf x) (h.inside leaf p within held) (k.inside leaf p within held)
      (sym (more_holds op leaf parts i x positive lt e) ∙ holds));
}

-- ---- whole groups

abbrev vec_of : Type 0
vec_of = Vec Shape Global

box_of_group : (boxes : List Box3) (op : Op) (parts : vec_of) (inverse : Bool)
    → shape_box_of boxes (Group op parts inverse) ≡ (if inverse then world else group_box op (map (shape_box_of boxes) parts.items))
box_of_group boxes op parts inverse =
    ap (shape_box_of boxes) (sym (rolls-Group op parts inverse)) ∙ fold-roll-Shape Box3 (box_step boxes) (Shape-F.Group op parts inverse)

group_holding : (leaf : ℕ → Bool) (op : Op) (parts : vec_of) (inverse : Bool)
    → shape_holds leaf (Group op parts inverse) ≡ differ (group_holds op (map (shape_holds leaf) parts.items)) inverse
group_holding leaf op parts inverse =
    ap (shape_holds leaf) (sym (rolls-Group op parts inverse)) ∙ fold-roll-Shape Bool (holds_step leaf) (Shape-F.Group op parts inverse)

plain : (holds : Bool) → differ holds false ≡ true → holds ≡ true
plain true e = refl
plain false e = e

pub grouped : (boxes : List Box3) (shape : Shape) (op : Op) (vec : vec_of) (parts : List Shape) (inverse : Bool) (i : ℕ) (all : Box3) → shape ≡ Group op vec inverse → parts ≡ vec.items
    → inverse ≡ false → length parts ≤ i → IsSoFar op boxes parts i all → IsBoxOf boxes shape all
grouped boxes shape op vec parts inverse i all is same straight whole h =
    let k : take i parts ≡ vec.items = take_all i parts whole ∙ same in
    record {
      value =
          h.value ∙ ap (λ (xs : List Shape). group_box op (map (shape_box_of boxes) xs)) k
          ∙ sym (ap (shape_box_of boxes) is ∙ box_of_group boxes op vec inverse ∙ ap (λ (b : Bool). if b then world else group_box op (map (shape_box_of boxes) vec.items)) straight);
      inside = λ leaf p within held holds.
          let e : shape_holds leaf shape ≡ differ (group_holds op (map (shape_holds leaf) vec.items)) false
          = ap (shape_holds leaf) is ∙ group_holding leaf op vec inverse ∙ ap (λ (b : Bool). differ (group_holds op (map (shape_holds leaf) vec.items)) b) straight in
          h.inside leaf p within held (ap (λ (xs : List Shape). group_holds op (map (shape_holds leaf) xs)) k ∙ plain _ (sym e ∙ holds));
    }
