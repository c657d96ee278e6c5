-- A union is struck where its parts are, and so a shape where one of its pieces is.
use lib.Dec.{eqb}
use Rattle.std.proofs.Common.{ℕ, ◌+◌, ◌<◌, ◌≤◌, ◌≡◌, Bool, true, false, ◌&&◌, ◌||◌, Vec, Global, List, [], ◌∷◌, ◌++◌, length, get_or, take, map, refl, ap, sym, ◌∙◌, subst}
use Rattle.std.specs.List.{list_any}
use Rattle.std.proofs.lemmas.List.{take_more, take_all}
use Rattle.scene_model.specs.declared.shape.Op.{Op}
use Rattle.scene_model.specs.declared.shape.Shape.{Shape}
use Rattle.scene_model.specs.declared.shape.Shape.TheViews.{Group}
use Rattle.csg_hits.specs.declared.piece.Piece.{Piece}
use Rattle.csg_hits.specs.Pieces.{AddsPieces, any_strikes, strikes_for}
use Rattle.csg_hits.specs.Sides.{AreAlike, Crossing, Sides, sides}
use Rattle.csg_hits.specs.Surfaces.{counts}
use Rattle.csg_hits.proofs.Groups.{any_push, group_is}

-- ---- the parts of a union

-- whether one of the first i parts is struck
abbrev pub part_strikes : (ℕ → Crossing) → List Shape → ℕ → ℕ → Bool
part_strikes leaf parts i n = list_any (λ p. (sides leaf p).strikes n) (take i parts)

more_struck : (leaf : ℕ → Crossing) (parts : List Shape) (i n : ℕ) (x : Shape) → i < length parts → x ≡ get_or parts i x → part_strikes leaf parts (i + 1) n ≡ (part_strikes leaf parts i n || (sides leaf x).strikes n)
more_struck leaf parts i n x lt e =
    let p : Shape → Bool = λ q. (sides leaf q).strikes n in
    ap (list_any p) (take_more parts i x lt) ∙ any_push p (take i parts) (get_or parts i x) ∙ ap (λ (q : Shape). list_any p (take i parts) || p q) (sym e)

any_map : (g : Shape → Sides) (n : ℕ) (xs : List Shape) → list_any (λ v. v.strikes n) (map g xs) ≡ list_any (λ p. (g p).strikes n) xs
any_map g n [] = refl
any_map g n (x ∷ xs) = ap (λ (b : Bool). (g x).strikes n || b) (any_map g n xs)

union_struck : (leaf : ℕ → Crossing) (shape : Shape) (op : Op) (vec : Vec Shape Global) (parts : List Shape) (inverse : Bool) (i n : ℕ) → shape ≡ Group op vec inverse → op ≡ Op.Union → parts ≡ vec.items → length parts ≤ i
    → (sides leaf shape).strikes n ≡ part_strikes leaf parts i n
union_struck leaf shape op vec parts inverse i n is union same all =
    let P : Op → Type 0 = λ o. shape ≡ Group o vec inverse in
    let k : shape ≡ Group Op.Union vec inverse = subst P union is in
    let whole : take i parts ≡ vec.items = take_all i parts all ∙ same in
    ap (λ (v : Sides). v.strikes n) (ap (sides leaf) k ∙ group_is leaf Op.Union vec inverse) ∙ any_map (sides leaf) n vec.items ∙ ap (λ (xs : List Shape). list_any (λ p. (sides leaf p).strikes n) xs) (sym whole)

-- ---- what is added to a list of pieces

pub added_one : (shape copy : Shape) (owner : ℕ) (no_shadow : Bool) (old new : List Piece) → new ≡ old ++ (record { object = owner; no_shadow = no_shadow; shape = copy } ∷ []) → AreAlike copy shape → AddsPieces shape owner no_shadow old new
added_one shape copy owner no_shadow old new e alike = λ leaf shadow object n.
    let piece : Piece = record { object = owner; no_shadow = no_shadow; shape = copy } in
    ap (any_strikes leaf shadow object n) e ∙ any_push (strikes_for leaf shadow object n) old piece
    ∙ ap (λ (v : Sides). any_strikes leaf shadow object n old || (eqb object owner && (counts shadow no_shadow && v.strikes n))) (alike leaf)

-- the pieces of the first i parts come to others
abbrev pub AddsParts : List Shape → ℕ → ℕ → Bool → List Piece → List Piece → Type 0
AddsParts parts i owner no_shadow old new =
    (leaf : ℕ → Crossing) (shadow : Bool) (object n : ℕ) → any_strikes leaf shadow object n new ≡ (any_strikes leaf shadow object n old || (eqb object owner && (counts shadow no_shadow && part_strikes leaf parts i n)))

nothing : (a e c : Bool) → a ≡ (a || (e && (c && false)))
nothing true e c = refl
nothing false true true = refl
nothing false true false = refl
nothing false false c = refl

regrouped : (a e c p x : Bool) → ((a || (e && (c && p))) || (e && (c && x))) ≡ (a || (e && (c && (p || x))))
regrouped true e c p x = refl
regrouped false true true p x = refl
regrouped false true false p x = refl
regrouped false false c p x = refl

pub added_none : (parts : List Shape) (owner : ℕ) (no_shadow : Bool) (old : List Piece) → AddsParts parts 0 owner no_shadow old old
added_none parts owner no_shadow old = λ leaf shadow object n. nothing (any_strikes leaf shadow object n old) (eqb object owner) (counts shadow no_shadow)

pub added_more : (parts : List Shape) (i owner : ℕ) (no_shadow : Bool) (old middle new : List Piece) (x : Shape) → i < length parts → x ≡ get_or parts i x → AddsParts parts i owner no_shadow old middle → AddsPieces x owner no_shadow middle new
    → AddsParts parts (i + 1) owner no_shadow old new
added_more parts i owner no_shadow old middle new x lt e first one = λ leaf shadow object n.
    let a = any_strikes leaf shadow object n old in
    let own = eqb object owner in
    let counted = counts shadow no_shadow in
    one leaf shadow object n
    ∙ ap (λ (b : Bool). b || (own && (counted && (sides leaf x).strikes n))) (first leaf shadow object n)
    ∙ regrouped a own counted (part_strikes leaf parts i n) ((sides leaf x).strikes n)
    ∙ ap (λ (b : Bool). a || (own && (counted && b))) (sym (more_struck leaf parts i n x lt e))

pub added_all : (shape : Shape) (op : Op) (vec : Vec Shape Global) (parts : List Shape) (inverse : Bool) (i owner : ℕ) (no_shadow : Bool) (old new : List Piece) → shape ≡ Group op vec inverse → op ≡ Op.Union → parts ≡ vec.items → length parts ≤ i
    → AddsParts parts i owner no_shadow old new → AddsPieces shape owner no_shadow old new
added_all shape op vec parts inverse i owner no_shadow old new is union same all h = λ leaf shadow object n.
    h leaf shadow object n
    ∙ ap (λ (b : Bool). any_strikes leaf shadow object n old || (eqb object owner && (counts shadow no_shadow && b))) (sym (union_struck leaf shape op vec parts inverse i n is union same all))
