-- Places of leaves: what the leaves of an object say of them, part by part, and where an object is inverted.
use Rattle.std.specs.Prelude.{◌≡◌, ℕ, suc, ◌+◌, ◌≤◌, Bool, true, false, not, List, [], ◌∷◌, ◌++◌, map, take, drop, length, if◌then◌else◌, refl}
use Rattle.std.specs.List.{list_all}
use Rattle.std.proofs.Common.{sym, ap, ◌∙◌, arith}
use Rattle.std.proofs.Math.Nat.{max-le}
use Rattle.std.proofs.lemmas.List.{append_assoc, append-nil}
use Rattle.scene_model.specs.declared.shape.Op.{Op}
use Rattle.scene_model.specs.Places.{Place, differ, turned, of_others, of_parts, greatest}
use Rattle.object_items.specs.declared.tables.LeafDraft.{LeafDraft}
use Rattle.object_items.specs.Held.{from_on, turn_leaf, flip_leaf}
use Rattle.object_items.specs.Objects.{is_difference}
use Rattle.object_items.specs.Sound.{drafted_of}

-- ---- what leaves say of their places

pub drafted_append : (object n : ℕ) (xs ys : List LeafDraft) → drafted_of object n (xs ++ ys) ≡ drafted_of object n xs ++ drafted_of object (n + length xs) ys
drafted_append object n [] ys =
    let e : n ≡ n + 0 = omega arith in
    ap (λ m. drafted_of object m ys) e
drafted_append object n (x ∷ xs) ys =
    let e : n + 1 + length xs ≡ n + suc (length xs) = omega arith in
    let here : Place = record { leaf = n; negated = differ x.negated x.inverse; object = object } in
    ap (λ l. here ∷ l) (drafted_append object (n + 1) xs ys ∙ ap (λ m. drafted_of object (n + 1) xs ++ drafted_of object m ys) e)

-- a change that leaves the sides as they are
abbrev pub KeepsSides : (LeafDraft → LeafDraft) → Type 0
KeepsSides change = (leaf : LeafDraft) → differ (change leaf).negated (change leaf).inverse ≡ differ leaf.negated leaf.inverse

abbrev placed_at : ℕ → ℕ → Bool → Place
placed_at object n negated = record { leaf = n; negated = negated; object = object }

pub drafted_kept : (change : LeafDraft → LeafDraft) → KeepsSides change → (object n : ℕ) (xs : List LeafDraft) → drafted_of object n (map change xs) ≡ drafted_of object n xs
drafted_kept change keeps object n [] = refl
drafted_kept change keeps object n (x ∷ xs) =
    ap (λ b. placed_at object n b ∷ drafted_of object (n + 1) (map change xs)) (keeps x)
    ∙ ap (λ l. placed_at object n (differ x.negated x.inverse) ∷ l) (drafted_kept change keeps object (n + 1) xs)

turn_side : (a b : Bool) → differ (not a) b ≡ differ (differ a b) true
turn_side true true = refl
turn_side true false = refl
turn_side false true = refl
turn_side false false = refl

flip_side : (a b : Bool) → differ (not a) (not b) ≡ differ a b
flip_side true true = refl
flip_side true false = refl
flip_side false true = refl
flip_side false false = refl

pub drafted_turned : (object n : ℕ) (xs : List LeafDraft) → drafted_of object n (map turn_leaf xs) ≡ map (turned true) (drafted_of object n xs)
drafted_turned object n [] = refl
drafted_turned object n (x ∷ xs) =
    ap (λ b. placed_at object n b ∷ drafted_of object (n + 1) (map turn_leaf xs)) (turn_side x.negated x.inverse)
    ∙ ap (λ l. placed_at object n (differ (differ x.negated x.inverse) true) ∷ l) (drafted_turned object (n + 1) xs)

-- flipped and turned
pub both_keep : KeepsSides (λ leaf. turn_leaf (flip_leaf leaf))
both_keep leaf = flip_side leaf.negated leaf.inverse

-- ---- from a place on

take_front : {A : Type 0} (xs ys : List A) → take (length xs) (xs ++ ys) ≡ xs
take_front [] ys = refl
take_front (x ∷ xs) ys = ap (λ l. x ∷ l) (take_front xs ys)

drop_front : {A : Type 0} (xs ys : List A) → drop (length xs) (xs ++ ys) ≡ ys
drop_front [] ys = refl
drop_front (x ∷ xs) ys = drop_front xs ys

pub from_front : {A : Type 0} (change : A → A) (xs ys : List A) → from_on (length xs) change (xs ++ ys) ≡ xs ++ map change ys
from_front change xs ys = ap (λ l. l ++ map change (drop (length xs) (xs ++ ys))) (take_front xs ys) ∙ ap (λ l. xs ++ map change l) (drop_front xs ys)

pub map_twice : {A B C : Type 0} (f : B → C) (g : A → B) (xs : List A) → map f (map g xs) ≡ map (λ x. f (g x)) xs
map_twice f g [] = refl
map_twice f g (x ∷ xs) = ap (λ l. f (g x) ∷ l) (map_twice f g xs)

-- ---- places that are turned

turn_again : (a b : Bool) → differ (differ a b) true ≡ differ a (not b)
turn_again true true = refl
turn_again true false = refl
turn_again false true = refl
turn_again false false = refl

pub turned_again : (inverse : Bool) (places : List Place) → map (turned true) (map (turned inverse) places) ≡ map (turned (not inverse)) places
turned_again inverse [] = refl
turned_again inverse (p ∷ ps) =
    ap (λ b. placed_at p.object p.leaf b ∷ map (turned true) (map (turned inverse) ps)) (turn_again p.negated inverse)
    ∙ ap (λ l. placed_at p.object p.leaf (differ p.negated (not inverse)) ∷ l) (turned_again inverse ps)

stays : (a : Bool) → differ a false ≡ a
stays true = refl
stays false = refl

pub not_turned : (places : List Place) → map (turned false) places ≡ places
not_turned [] = refl
not_turned (p ∷ ps) = ap (λ b. placed_at p.object p.leaf b ∷ map (turned false) ps) (stays p.negated) ∙ ap (λ l. p ∷ l) (not_turned ps)

-- ---- parts

abbrev pub as_other : Op → List Place → List Place
as_other op places = if is_difference op then map (turned true) places else places

others_more : (op : Op) (parts : List (List Place)) (part : List Place) → of_others op (parts ++ part ∷ []) ≡ of_others op parts ++ as_other op part
others_more Op.Union [] part = append-nil part
others_more Op.Merge [] part = append-nil part
others_more Op.Intersection [] part = append-nil part
others_more Op.Difference [] part = append-nil (map (turned true) part)
others_more Op.Union (p ∷ ps) part = ap (λ l. p ++ l) (others_more Op.Union ps part) ∙ sym (append_assoc p (of_others Op.Union ps) part)
others_more Op.Merge (p ∷ ps) part = ap (λ l. p ++ l) (others_more Op.Merge ps part) ∙ sym (append_assoc p (of_others Op.Merge ps) part)
others_more Op.Intersection (p ∷ ps) part = ap (λ l. p ++ l) (others_more Op.Intersection ps part) ∙ sym (append_assoc p (of_others Op.Intersection ps) part)
others_more Op.Difference (p ∷ ps) part =
    ap (λ l. map (turned true) p ++ l) (others_more Op.Difference ps part) ∙ sym (append_assoc (map (turned true) p) (of_others Op.Difference ps) (map (turned true) part))

-- a part more, the first or a further one
pub first_part : (op : Op) (part : List Place) → of_parts op (part ∷ []) ≡ part
first_part Op.Union part = append-nil part
first_part Op.Merge part = append-nil part
first_part Op.Intersection part = append-nil part
first_part Op.Difference part = append-nil part

pub further_part : (op : Op) (p : List Place) (ps : List (List Place)) (part : List Place) → of_parts op ((p ∷ ps) ++ part ∷ []) ≡ of_parts op (p ∷ ps) ++ as_other op part
further_part op p ps part = ap (λ l. p ++ l) (others_more op ps part) ∙ sym (append_assoc p (of_others op ps) (as_other op part))

-- ---- depths, and parts that have parts

pub greatest_more : (ns : List ℕ) (n most : ℕ) → greatest ns ≤ most → n ≤ most → greatest (ns ++ n ∷ []) ≤ most
greatest_more [] n most h k = max-le k (omega arith)
greatest_more (m ∷ ns) n most h k =
    let first : m ≤ most = omega (arith, h) in
    let rest : greatest ns ≤ most = omega (arith, h) in
    max-le first (greatest_more ns n most rest k)

pub all_more : (bs : List Bool) (b : Bool) → list_all (λ x. x) bs ≡ true → b ≡ true → list_all (λ x. x) (bs ++ b ∷ []) ≡ true
all_more [] b h k = rw k refl
all_more (true ∷ bs) b h k = all_more bs b h k
all_more (false ∷ bs) b h k = absurd (cc)
