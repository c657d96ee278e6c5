-- Shapes, leaves and objects as they are copied.
use Rattle.std.proofs.Common.{ℕ, ◌+◌, ◌<◌, ◌≤◌, ◌≡◌, Bool, Vec, Global, List, [], ◌∷◌, ◌++◌, length, get_or, take, map, refl, ap, sym, ◌∙◌}
use Rattle.std.specs.List.{All}
use Rattle.std.proofs.lemmas.List.Elements.{All-append, All-cons, All-nil}
use Rattle.std.proofs.lemmas.List.{take_more, take_all, map-append}
use Rattle.scene_model.specs.declared.scene.Object.{Object}
use Rattle.scene_model.specs.declared.shape.Leaf.{Leaf}
use Rattle.scene_model.specs.declared.shape.Op.{Op}
use Rattle.scene_model.specs.declared.shape.Shape.{Shape}
use Rattle.scene_model.specs.declared.shape.Shape.TheViews.{Group}
use Rattle.csg_hits.specs.declared.ready.ReadyObject.{ReadyObject}
use Rattle.csg_hits.specs.Kept.{IsBoxed, objects_of}
use Rattle.csg_hits.specs.Sides.{AreAlike, Crossing, Sides, sides, as_group, together}
use Rattle.csg_hits.proofs.Groups.{group_is}

-- the first i parts are copied
abbrev pub AreCopies : List Shape → List Shape → ℕ → Type 0
AreCopies copies parts i = (leaf : ℕ → Crossing) → map (sides leaf) copies ≡ map (sides leaf) (take i parts)

mapped : {A : Type 0} (f : Shape → A) (copies parts : List Shape) (i : ℕ) (x copy : Shape) → i < length parts → x ≡ get_or parts i x → map f copies ≡ map f (take i parts) → f copy ≡ f x
    → map f (copies ++ copy ∷ []) ≡ map f (take (i + 1) parts)
mapped f copies parts i x copy lt e h same =
    map-append f copies (copy ∷ []) ∙ ap (λ xs. xs ++ (f copy ∷ [])) h ∙ ap (λ v. map f (take i parts) ++ (v ∷ [])) (same ∙ ap f e)
    ∙ sym (map-append f (take i parts) (get_or parts i x ∷ [])) ∙ ap (map f) (sym (take_more parts i x lt))

pub no_copies : (parts : List Shape) → AreCopies [] parts 0
no_copies parts = λ leaf. refl

pub one_copy_more : (copies : List Shape) (parts : List Shape) (i : ℕ) (x copy : Shape) → i < length parts → x ≡ get_or parts i x → AreCopies copies parts i → AreAlike copy x → AreCopies (copies ++ copy ∷ []) parts (i + 1)
one_copy_more copies parts i x copy lt e h alike = λ leaf. mapped (sides leaf) copies parts i x copy lt e (h leaf) (alike leaf)

pub group_copied : (shape : Shape) (op : Op) (vec copies : Vec Shape Global) (parts : List Shape) (inverse : Bool) (i : ℕ) → shape ≡ Group op vec inverse → parts ≡ vec.items → length parts ≤ i
    → AreCopies copies.items parts i → AreAlike (Group op copies inverse) shape
group_copied shape op vec copies parts inverse i is same all h = λ leaf.
    let k : take i parts ≡ vec.items = take_all i parts all ∙ same in
    group_is leaf op copies inverse
    ∙ ap (λ (xs : List Sides). as_group op inverse (together op xs)) (h leaf ∙ ap (map (sides leaf)) k)
    ∙ sym (group_is leaf op vec inverse)
    ∙ ap (sides leaf) (sym is)

-- a list that is made ready one by one
one_more : {A B : Type 0} (value : B → A) (ready : List B) (items : List A) (i : ℕ) (x : A) (one : B) → i < length items → x ≡ get_or items i x → map value ready ≡ take i items → value one ≡ x
    → map value (ready ++ one ∷ []) ≡ take (i + 1) items
one_more value ready items i x one lt e h k =
    map-append value ready (one ∷ []) ∙ ap (λ xs. xs ++ (value one ∷ [])) h ∙ ap (λ y. take i items ++ (y ∷ [])) (k ∙ e) ∙ sym (take_more items i x lt)

-- the first i objects are kept, with their boxes
abbrev pub AreKept : List Leaf → List Object → ℕ → List ReadyObject → Type 0
AreKept leaves objects i ready = (objects_of ready ≡ take i objects) × All (IsBoxed leaves) ready

pub one_kept_more : (leaves : List Leaf) (objects : List Object) (i : ℕ) (ready : List ReadyObject) (x : Object) (one : ReadyObject) → i < length objects → x ≡ get_or objects i x → AreKept leaves objects i ready
    → one.object.value ≡ x → IsBoxed leaves one → AreKept leaves objects (i + 1) (ready ++ one ∷ [])
one_kept_more leaves objects i ready x one lt e h is boxed =
    let v : ReadyObject → Object = λ o. o.object.value in
    (one_more v ready objects i x one lt e h.0 is, All-append (IsBoxed leaves) ready (one ∷ []) h.1 (All-cons (IsBoxed leaves) one [] boxed (All-nil (IsBoxed leaves))))
