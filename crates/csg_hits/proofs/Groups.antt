-- What a group is, part by part.
use Rattle.std.proofs.Common.{ℕ, ◌+◌, ◌<◌, ◌≤◌, ◌≡◌, Bool, true, false, not, ◌&&◌, ◌||◌, List, [], ◌∷◌, ◌++◌, length, get_or, take, drop, map, Vec, Global, refl, ap, sym, ◌∙◌, arith}
use Rattle.std.specs.List.{list_any, list_all}
use Rattle.std.proofs.Math.Path.{fun_ext}
use Rattle.std.proofs.lemmas.List.{take_more, map-append, length-map, length-take, take_all, append-nil, append_assoc, take-append-drop}
use Rattle.std.proofs.lemmas.Bool.{false≢true}
use Rattle.scene_model.specs.declared.shape.Op.{Op}
use Rattle.scene_model.specs.declared.shape.Shape.{Shape}
use Rattle.scene_model.specs.declared.shape.Shape.TheOpen.{Shape-F}
use Rattle.scene_model.specs.declared.shape.Shape.TheViews.{Group}
use Rattle.scene_model.specs.declared.shape.Shape.TheFolds.{fold-roll-Shape}
use Rattle.scene_model.specs.declared.shape.Shape.TheVariants.{rolls-Group}
use Rattle.csg_hits.specs.Outlooks.{joined, Settles}
use Rattle.csg_hits.specs.Sides.{Crossing, Sides, differ, keeps, with_others, group_holds, together, as_group, sides, sides_step}

or_none : (a : Bool) → (a || false) ≡ a
or_none true = refl
or_none false = refl

and_all : (a : Bool) → (a && true) ≡ a
and_all true = refl
and_all false = refl

or_step : (a b c : Bool) → ((a || b) || c) ≡ (a || (b || c))
or_step true b c = refl
or_step false b c = refl

and_step : (a b c : Bool) → ((a && b) && c) ≡ (a && (b && c))
and_step true b c = refl
and_step false b c = refl

cut_step : (a b c : Bool) → ((a && not b) && not c) ≡ (a && not (b || c))
cut_step true true c = refl
cut_step true false c = refl
cut_step false b c = refl

pub any_push : {A : Type 0} (f : A → Bool) (xs : List A) (y : A) → list_any f (xs ++ y ∷ []) ≡ (list_any f xs || f y)
any_push f [] y = or_none (f y)
any_push f (x ∷ xs) y = ap (λ (b : Bool). f x || b) (any_push f xs y) ∙ sym (or_step (f x) (list_any f xs) (f y))

all_push : (xs : List Bool) (y : Bool) → list_all (λ b. b) (xs ++ y ∷ []) ≡ (list_all (λ b. b) xs && y)
all_push [] y = and_all y
all_push (x ∷ xs) y = ap (λ (b : Bool). x && b) (all_push xs y) ∙ sym (and_step x (list_all (λ b. b) xs) y)

-- one part alone, and one part more
one_holds : (op : Op) (x : Bool) → with_others op x [] ≡ x
one_holds Op.Union x = or_none x
one_holds Op.Merge x = or_none x
one_holds Op.Intersection x = and_all x
one_holds Op.Difference x = and_all x

more_hold : (op : Op) (x : Bool) (xs : List Bool) (y : Bool) → with_others op x (xs ++ y ∷ []) ≡ joined op (with_others op x xs) y
more_hold Op.Union x xs y = ap (λ (b : Bool). x || b) (any_push (λ b. b) xs y) ∙ sym (or_step x (list_any (λ b. b) xs) y)
more_hold Op.Merge x xs y = ap (λ (b : Bool). x || b) (any_push (λ b. b) xs y) ∙ sym (or_step x (list_any (λ b. b) xs) y)
more_hold Op.Intersection x xs y = ap (λ (b : Bool). x && b) (all_push xs y) ∙ sym (and_step x (list_all (λ b. b) xs) y)
more_hold Op.Difference x xs y = ap (λ (b : Bool). x && not b) (any_push (λ b. b) xs y) ∙ sym (cut_step x (list_any (λ b. b) xs) y)

pub same_sides : (a b : Sides) → a.before ≡ b.before → a.now ≡ b.now → ((n : ℕ) → a.strikes n ≡ b.strikes n) → a ≡ b
same_sides a b p q r =
    let e : a ≡ record { before = b.before; now = a.now; strikes = a.strikes } = ap (λ (v : Bool). record { before = v; now = a.now; strikes = a.strikes }) p in
    let f : record { before = b.before; now = a.now; strikes = a.strikes } ≡ record { before = b.before; now = b.now; strikes = a.strikes } = ap (λ (v : Bool). record { before = b.before; now = v; strikes = a.strikes }) q in
    let g : record { before = b.before; now = b.now; strikes = a.strikes } ≡ b = ap (λ (s : ℕ → Bool). record { before = b.before; now = b.now; strikes = s }) (fun_ext r) in
    e ∙ f ∙ g

-- the parts up to one, and that one
abbrev pub with_part : Op → Sides → Sides → Sides
with_part op all part = record {
  before = joined op all.before part.before;
  now = joined op all.now part.now;
  strikes = λ n. all.strikes n || part.strikes n;
}

together_one : (op : Op) (x : Sides) → together op (x ∷ []) ≡ x
together_one op x = same_sides (together op (x ∷ [])) x (one_holds op x.before) (one_holds op x.now) (λ n. or_none (x.strikes n))

push_holds : (op : Op) (f : Sides → Bool) (x : Sides) (xs : List Sides) (y : Sides)
    → group_holds op (map f ((x ∷ xs) ++ y ∷ [])) ≡ joined op (group_holds op (map f (x ∷ xs))) (f y)
push_holds op f x xs y = ap (λ (bs : List Bool). with_others op (f x) bs) (map-append f xs (y ∷ [])) ∙ more_hold op (f x) (map f xs) (f y)

together_push : (op : Op) (xs : List Sides) (y : Sides) → 0 < length xs → together op (xs ++ y ∷ []) ≡ with_part op (together op xs) y
together_push op [] y h = absurd (omega arith)
together_push op (x ∷ xs) y h = same_sides (together op ((x ∷ xs) ++ y ∷ [])) (with_part op (together op (x ∷ xs)) y)
    (push_holds op (λ s. s.before) x xs y) (push_holds op (λ s. s.now) x xs y) (λ n. any_push (λ s. s.strikes n) (x ∷ xs) y)

-- how the leaves are at each number
abbrev pub Leaves : Type 0
Leaves = ℕ → ℕ → Crossing

-- the first i parts of a group
abbrev pub first_parts : Leaves → Op → List Shape → ℕ → ℕ → Sides
first_parts f op parts i s = together op (map (sides (f s)) (take i parts))

pub map_more : (g : Shape → Sides) (parts : List Shape) (i : ℕ) (x : Shape) → i < length parts → x ≡ get_or parts i x
    → map g (take (i + 1) parts) ≡ map g (take i parts) ++ (g x ∷ [])
map_more g parts i x lt e = ap (map g) (take_more parts i x lt) ∙ map-append g (take i parts) (get_or parts i x ∷ []) ∙ ap (λ (y : Shape). map g (take i parts) ++ (g y ∷ [])) (sym e)

pub more_parts : (f : Leaves) (op : Op) (parts : List Shape) (i s : ℕ) (x : Shape) → 0 < i → i < length parts → x ≡ get_or parts i x
    → first_parts f op parts (i + 1) s ≡ with_part op (first_parts f op parts i s) (sides (f s) x)
more_parts f op parts i s x positive lt e =
    let n : 0 < length (map (sides (f s)) (take i parts)) = rw (length-map, length-take) (omega arith) in
    ap (together op) (map_more (sides (f s)) parts i x lt e) ∙ together_push op (map (sides (f s)) (take i parts)) (sides (f s) x) n

pub one_part : (f : Leaves) (op : Op) (parts : List Shape) (s : ℕ) (x : Shape) → 0 < length parts → x ≡ get_or parts 0 x → first_parts f op parts 1 s ≡ sides (f s) x
one_part f op [] s x lt e = absurd (omega arith)
one_part f op (p ∷ ps) s x lt e = together_one op (sides (f s) p) ∙ ap (λ (y : Shape). sides (f s) y) (sym e)

pub group_is : (leaf : ℕ → Crossing) (op : Op) (parts : Vec Shape Global) (inverse : Bool) → sides leaf (Group op parts inverse) ≡ as_group op inverse (together op (map (sides leaf) parts.items))
group_is leaf op parts inverse = ap (sides leaf) (sym (rolls-Group op parts inverse)) ∙ fold-roll-Shape Sides (sides_step leaf) (Shape-F.Group op parts inverse)

-- a group is all its parts
pub all_parts : (f : Leaves) (shape : Shape) (op : Op) (vec : Vec Shape Global) (parts : List Shape) (inverse : Bool) (i s : ℕ) → shape ≡ Group op vec inverse → parts ≡ vec.items
    → length parts ≤ i → sides (f s) shape ≡ as_group op inverse (first_parts f op parts i s)
all_parts f shape op vec parts inverse i s is same all =
    let k : take i parts ≡ vec.items = take_all i parts all ∙ same in
    ap (sides (f s)) is ∙ group_is (f s) op vec inverse ∙ ap (λ (xs : List Shape). as_group op inverse (together op (map (sides (f s)) xs))) (sym k)

-- ---- groups that hold nowhere with their first parts

settled_step : (op : Op) → Settles op → (x : Bool) (xs ys : List Bool) → with_others op x xs ≡ false → with_others op x (xs ++ ys) ≡ false
settled_step op settles x xs [] e = ap (λ (bs : List Bool). with_others op x bs) (append-nil xs) ∙ e
settled_step op settles x xs (y ∷ ys) e =
    ap (λ (bs : List Bool). with_others op x bs) (sym (append_assoc xs (y ∷ []) ys))
    ∙ settled_step op settles x (xs ++ y ∷ []) ys (more_hold op x xs y ∙ ap (λ (b : Bool). joined op b y) e ∙ settles y)

settled_holds : (op : Op) → Settles op → (f : Sides → Bool) (xs ys : List Sides) → 0 < length xs → group_holds op (map f xs) ≡ false → group_holds op (map f (xs ++ ys)) ≡ false
settled_holds op settles f [] ys h e = absurd (omega arith)
settled_holds op settles f (x ∷ xs) ys h e = ap (λ (bs : List Bool). with_others op (f x) bs) (map-append f xs ys) ∙ settled_step op settles (f x) (map f xs) (map f ys) e

keeps_none : (op : Op) → Settles op → keeps op false false ≡ false
keeps_none Op.Union settles = absurd (false≢true (sym (settles true)))
keeps_none Op.Merge settles = refl
keeps_none Op.Intersection settles = refl
keeps_none Op.Difference settles = refl

-- a group whose parts, taken together, hold nowhere
abbrev pub settled : Bool → Sides
settled inverse = record { before = differ false inverse; now = differ false inverse; strikes = λ n. false }

settled_group : (op : Op) → Settles op → (inverse : Bool) (v : Sides) → v.before ≡ false → v.now ≡ false → as_group op inverse v ≡ settled inverse
settled_group op settles inverse v e f = same_sides (as_group op inverse v) (settled inverse)
    (ap (λ (b : Bool). differ b inverse) e) (ap (λ (b : Bool). differ b inverse) f)
    (λ n. ap (λ (b : Bool). b && v.strikes n) (ap (λ (b : Bool). keeps op b v.now) e ∙ ap (λ (b : Bool). keeps op false b) f ∙ keeps_none op settles))

-- a group and its first i parts
abbrev pub rest : Leaves → List Shape → ℕ → ℕ → List Sides
rest f parts i s = map (sides (f s)) (drop i parts)

split_at : (f : Leaves) (shape : Shape) (op : Op) (vec : Vec Shape Global) (parts : List Shape) (inverse : Bool) (i s : ℕ) → shape ≡ Group op vec inverse → parts ≡ vec.items
    → sides (f s) shape ≡ as_group op inverse (together op (map (sides (f s)) (take i parts) ++ rest f parts i s))
split_at f shape op vec parts inverse i s is same =
    let h : map (sides (f s)) vec.items ≡ map (sides (f s)) (take i parts) ++ rest f parts i s =
    ap (map (sides (f s))) (sym same ∙ sym (take-append-drop i parts)) ∙ map-append (sides (f s)) (take i parts) (drop i parts) in
    ap (sides (f s)) is ∙ group_is (f s) op vec inverse ∙ ap (λ (zs : List Sides). as_group op inverse (together op zs)) h

some_first : (f : Leaves) (parts : List Shape) (i s : ℕ) → 0 < i → 0 < length parts → 0 < length (map (sides (f s)) (take i parts))
some_first f parts i s positive some = rw (length-map, length-take) (omega arith)

-- a group that doesn't hold with its first i parts
pub settled_now : (f : Leaves) (shape : Shape) (op : Op) (vec : Vec Shape Global) (parts : List Shape) (inverse : Bool) (i s : ℕ) → shape ≡ Group op vec inverse → parts ≡ vec.items
    → 0 < i → 0 < length parts → Settles op → (first_parts f op parts i s).now ≡ false → (sides (f s) shape).now ≡ differ false inverse
settled_now f shape op vec parts inverse i s is same positive some settles g =
    ap (λ (v : Sides). v.now) (split_at f shape op vec parts inverse i s is same)
    ∙ ap (λ (b : Bool). differ b inverse) (settled_holds op settles (λ v. v.now) (map (sides (f s)) (take i parts)) (rest f parts i s) (some_first f parts i s positive some) g)

pub settled_at : (f : Leaves) (shape : Shape) (op : Op) (vec : Vec Shape Global) (parts : List Shape) (inverse : Bool) (i s : ℕ) → shape ≡ Group op vec inverse → parts ≡ vec.items
    → 0 < i → 0 < length parts → Settles op → (first_parts f op parts i s).before ≡ false → (first_parts f op parts i s).now ≡ false → sides (f s) shape ≡ settled inverse
settled_at f shape op vec parts inverse i s is same positive some settles e g =
    let xs = map (sides (f s)) (take i parts) in
    let ys = rest f parts i s in
    let n : 0 < length xs = some_first f parts i s positive some in
    split_at f shape op vec parts inverse i s is same
    ∙ settled_group op settles inverse (together op (xs ++ ys)) (settled_holds op settles (λ v. v.before) xs ys n e) (settled_holds op settles (λ v. v.now) xs ys n g)
