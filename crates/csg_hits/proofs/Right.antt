-- Rows that say how leaves are, and shapes that are known by them.
use Rattle.std.proofs.Common.{zero, suc, ℕ, ◌+◌, ◌-◌, ◌<◌, ◌≤◌, ◌≡◌, ◌≢◌, Bool, false, Vec, Global, Some, None, Option, List, [], ◌∷◌, ◌++◌, length, get_or, set, take, map, slice_get, refl, ap, sym, ◌∙◌, subst, ⊎_elim, arith, get_or-set_same}
use Rattle.std.proofs.Math.ListN.{length-set}
use Rattle.std.proofs.lemmas.Bool.{cases_eq}
use Rattle.std.proofs.lemmas.Option.{slice_get_past, slice_get_read, slice_get-map}
use Rattle.std.specs.Option.{option_map}
use Rattle.scene_model.specs.declared.shape.Leaf.{Leaf}
use Rattle.scene_model.specs.declared.shape.Op.{Op}
use Rattle.scene_model.specs.declared.shape.Shape.{Shape, Leaf as ShapeLeaf}
use Rattle.scene_model.specs.declared.shape.Shape.TheViews.{Group}
use Rattle.shapes.specs.declared.ray.Ray.{Ray}
use Rattle.shapes.specs.Rays.{point_at}
use Rattle.csg_hits.specs.declared.outlook.Outlook.{Outlook}
use Rattle.csg_hits.specs.declared.ready.ReadyLeaf.{ReadyLeaf}
use Rattle.csg_hits.specs.declared.row.Row.{Row}
use Rattle.csg_hits.specs.Outlooks.{IsOutlook, Settles}
use Rattle.csg_hits.specs.Ready.{leaves_of}
use Rattle.csg_hits.specs.Rows.{IsFilled, IsRight, IsRowOf, leaf_in, row_crossing}
use Rattle.csg_hits.specs.Sides.{Sides, Crossing, sides, leaf_sides, together, as_group}
use Rattle.csg_hits.specs.Surfaces.{leaf_on, crossing_of}
use Rattle.csg_hits.proofs.Alone.{leaf_is}
use Rattle.csg_hits.proofs.Groups.{first_parts, all_parts, map_more, settled_at}
use Rattle.csg_hits.proofs.Looking.{outlook_below, fails_on}

pub at_leaf : (ready : List ReadyLeaf) (n : ℕ) (x : ReadyLeaf) → n < length ready → x ≡ get_or ready n x → slice_get (leaves_of ready) n ≡ Some x.leaf.value
at_leaf ready n x lt e =
    let at : slice_get ready n ≡ Some x = slice_get_read ready (length ready) n x refl lt e in
    let v : ReadyLeaf → Leaf = λ l. l.leaf.value in
    slice_get-map v ready n ∙ ap (λ (o : Option ReadyLeaf). option_map v o) at

pub past_leaf : (ready : List ReadyLeaf) (n : ℕ) → length ready ≤ n → slice_get (leaves_of ready) n ≡ None
past_leaf ready n past =
    let v : ReadyLeaf → Leaf = λ l. l.leaf.value in
    slice_get-map v ready n ∙ ap (λ (o : Option ReadyLeaf). option_map v o) (slice_get_past ready n past)

right_here : (leaves : List Leaf) (ray : Ray) (end : ℕ) (rows : List Row) (n : ℕ) (x : Leaf) (row : Row)
    → slice_get leaves n ≡ Some x → slice_get rows n ≡ Some row → IsRowOf x ray end row → IsRight leaves ray end rows n
right_here leaves ray end rows n x row e f h = λ t lt. rw (e, f) (h t lt)

pub right_past : (ready : List ReadyLeaf) (ray : Ray) (end : ℕ) (rows : List Row) (n : ℕ) → length rows ≡ length ready → length ready ≤ n → IsRight (leaves_of ready) ray end rows n
right_past ready ray end rows n same past = λ t lt.
    let e : slice_get (leaves_of ready) n ≡ None = past_leaf ready n past in
    let f : slice_get rows n ≡ None = slice_get_past rows n (omega arith) in rw (e, f) refl

slice_set_same : (rows : List Row) (n : ℕ) (row : Row) → n < length rows → slice_get (set rows n row) n ≡ Some row
slice_set_same rows n row lt = slice_get_read (set rows n row) (length rows) n row (sym (length-set rows n row)) lt (sym (get_or-set_same rows n row row lt))

slice_set_other : (rows : List Row) (n k : ℕ) (row : Row) → k ≢ n → slice_get (set rows n row) k ≡ slice_get rows k
slice_set_other [] n k row ne = refl
slice_set_other (x ∷ xs) zero zero row ne = absurd (ne refl)
slice_set_other (x ∷ xs) zero (suc k) row ne = refl
slice_set_other (x ∷ xs) (suc n) zero row ne = refl
slice_set_other (x ∷ xs) (suc n) (suc k) row ne = slice_set_other xs n k row (λ e. ne (ap (λ (m : ℕ). suc m) e))

-- the row of one leaf is written
pub written : (ready : List ReadyLeaf) (ray : Ray) (end : ℕ) (rows : List Row) (n : ℕ) (x : ReadyLeaf) (row : Row)
    → length rows ≡ length ready → n < length ready → x ≡ get_or ready n x → IsRowOf x.leaf.value ray end row → IsRight (leaves_of ready) ray end (set rows n row) n
written ready ray end rows n x row same lt e h =
    right_here (leaves_of ready) ray end (set rows n row) n x.leaf.value row (at_leaf ready n x lt e) (slice_set_same rows n row (omega arith)) h

pub kept : (ready : List ReadyLeaf) (ray : Ray) (end : ℕ) (rows : List Row) (n : ℕ) (x : ReadyLeaf) (row : Row)
    → length rows ≡ length ready → n < length ready → x ≡ get_or ready n x → IsRowOf x.leaf.value ray end row
    → (k : ℕ) → IsRight (leaves_of ready) ray end rows k → IsRight (leaves_of ready) ray end (set rows n row) k
kept ready ray end rows n x row same lt e h k r =
    let P : ℕ → Type 0 = λ m. IsRight (leaves_of ready) ray end (set rows n row) m in
    let here : k ≡ n → P k = λ q. subst P (sym q) (written ready ray end rows n x row same lt e h) in
    let there : k ≢ n → P k = λ ne t l. rw (slice_set_other rows n k row ne) (r t l) in
    ⊎_elim here there (cases_eq k n)

-- a leaf is known by its row
pub leaf_filled : (leaves : List Leaf) (ray : Ray) (t end : ℕ) (rows : List Row) (shape : Shape) (n : ℕ) → shape ≡ ShapeLeaf n → IsRight leaves ray end rows n → IsFilled leaves ray t end rows shape
leaf_filled leaves ray t end rows shape n is h = λ other keeps s l below.
    leaf_is (leaf_in other s) shape n is ∙ ap (λ (c : Crossing). leaf_sides n c) (keeps n h s below) ∙ sym (leaf_is (leaf_on leaves ray s) shape n is)

-- what a leaf's row tells is what the leaf is
pub row_is : (ready : List ReadyLeaf) (ray : Ray) (shape : Shape) (n end s : ℕ) (x : ReadyLeaf) (row : Row) → shape ≡ ShapeLeaf n → n < length ready → x ≡ get_or ready n x → IsRowOf x.leaf.value ray end row → s < end
    → sides (leaf_on (leaves_of ready) ray s) shape ≡ leaf_sides n (row_crossing row s)
row_is ready ray shape n end s x row is lt e h below =
    leaf_is (leaf_on (leaves_of ready) ray s) shape n is ∙ ap (λ (o : Option Leaf). leaf_sides n (crossing_of o (point_at ray (s - 1)) (point_at ray s))) (at_leaf ready n x lt e) ∙ ap (λ (c : Crossing). leaf_sides n c) (sym (h s below))

pub row_outlook : (ready : List ReadyLeaf) (ray : Ray) (shape : Shape) (n t end : ℕ) (x : ReadyLeaf) (row : Row) (o : Outlook) → t < end → shape ≡ ShapeLeaf n → n < length ready → x ≡ get_or ready n x → IsRowOf x.leaf.value ray end row
    → IsOutlook (λ s. leaf_sides n (row_crossing row s)) t end o → IsOutlook (λ s. sides (leaf_on (leaves_of ready) ray s) shape) t end o
row_outlook ready ray shape n t end x row o early is lt e h k = outlook_below _ _ t end o early (λ s below. row_is ready ray shape n end s x row is lt e h below) k

-- a leaf that isn't there
pub absent : (ready : List ReadyLeaf) (ray : Ray) (shape : Shape) (n s : ℕ) → shape ≡ ShapeLeaf n → length ready ≤ n → sides (leaf_on (leaves_of ready) ray s) shape ≡ leaf_sides n (record { before = false; now = false; struck = false })
absent ready ray shape n s is past = leaf_is (leaf_on (leaves_of ready) ray s) shape n is ∙ ap (λ (o : Option Leaf). leaf_sides n (crossing_of o (point_at ray (s - 1)) (point_at ray s))) (past_leaf ready n past)

-- ---- in a loop over the parts of a group

-- the first i parts are known by the rows
abbrev pub AreFilled : List Leaf → Ray → ℕ → ℕ → List Row → List Shape → ℕ → Type 0
AreFilled leaves ray t end rows parts i =
    (other : List Row) → ((n : ℕ) → IsRight leaves ray end rows n → IsRight leaves ray end other n)
    → (s : ℕ) → t < s → s < end → map (sides (leaf_in other s)) (take i parts) ≡ map (sides (leaf_on leaves ray s)) (take i parts)

pub more_filled : (leaves : List Leaf) (ray : Ray) (t end : ℕ) (old new : List Row) (parts : List Shape) (i : ℕ) (x : Shape) → i < length parts → x ≡ get_or parts i x
    → ((n : ℕ) → IsRight leaves ray end old n → IsRight leaves ray end new n) → AreFilled leaves ray t end old parts i → IsFilled leaves ray t end new x → AreFilled leaves ray t end new parts (i + 1)
more_filled leaves ray t end old new parts i x lt e keeps first one = λ other more s l below.
    map_more (sides (leaf_in other s)) parts i x lt e
    ∙ ap (λ (xs : List Sides). xs ++ (sides (leaf_in other s) x ∷ [])) (first other (λ n h. more n (keeps n h)) s l below)
    ∙ ap (λ (v : Sides). map (sides (leaf_on leaves ray s)) (take i parts) ++ (v ∷ [])) (one other more s l below)
    ∙ sym (map_more (sides (leaf_on leaves ray s)) parts i x lt e)

pub whole_filled : (leaves : List Leaf) (ray : Ray) (t end : ℕ) (rows : List Row) (shape : Shape) (op : Op) (vec : Vec Shape Global) (parts : List Shape) (inverse : Bool) (i : ℕ) → shape ≡ Group op vec inverse → parts ≡ vec.items
    → length parts ≤ i → AreFilled leaves ray t end rows parts i → IsFilled leaves ray t end rows shape
whole_filled leaves ray t end rows shape op vec parts inverse i is same all h = λ other more s l below.
    all_parts (leaf_in other) shape op vec parts inverse i s is same all
    ∙ ap (λ (xs : List Sides). as_group op inverse (together op xs)) (h other more s l below)
    ∙ sym (all_parts (leaf_on leaves ray) shape op vec parts inverse i s is same all)

-- a group that fails up to the end with its first parts is known by their rows
pub settled_filled : (leaves : List Leaf) (ray : Ray) (t end : ℕ) (rows : List Row) (shape : Shape) (op : Op) (vec : Vec Shape Global) (parts : List Shape) (inverse : Bool) (i : ℕ) (a : Outlook) → shape ≡ Group op vec inverse → parts ≡ vec.items
    → 0 < i → 0 < length parts → Settles op → IsOutlook (first_parts (leaf_on leaves ray) op parts i) t end a → a.holds ≡ false → end ≤ a.change → AreFilled leaves ray t end rows parts i → IsFilled leaves ray t end rows shape
settled_filled leaves ray t end rows shape op vec parts inverse i a is same positive some settles look e far h = λ other more s l below.
    let p = fails_on (first_parts (leaf_on leaves ray) op parts i) t end a look e far s l below in
    let q : first_parts (leaf_in other) op parts i s ≡ first_parts (leaf_on leaves ray) op parts i s = ap (together op) (h other more s l below) in
    settled_at (leaf_in other) shape op vec parts inverse i s is same positive some settles (ap (λ (v : Sides). v.before) q ∙ p.0) (ap (λ (v : Sides). v.now) q ∙ p.1)
    ∙ sym (settled_at (leaf_on leaves ray) shape op vec parts inverse i s is same positive some settles p.0 p.1)
