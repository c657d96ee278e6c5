-- What a surface shows of the lamps, one by one: what comes of those that are left comes of all.
use Rattle.std.proofs.Common.{ℕ, suc, Bool, true, false, int_lt, refl, ◌≤ℤ◌, ◌<ℤ◌, ◌+◌, ◌*◌, ◌<◌, ◌≤◌, ◌^◌, ◌≡◌, List, ◌∷◌, ℤ, ◌+ℤ◌, pos, length, get_or, drop, unsigned_abs, sym, ap, subst, ◌∙◌, add-one, arith}
use Rattle.std.proofs.Math.ListN.{drop_of_length-le}
use Rattle.std.proofs.Math.Nat.{mul-le-mul}
use Rattle.std.proofs.Math.Seq.{drop-cons}
use Rattle.std.proofs.lemmas.Int.{ints}
use lib.Signed.{le_z}
use Rattle.fix_math.specs.declared.fix.V3.{V3}
use Rattle.fix_math.specs.DirectionLaws.{sum_of_squares}
use Rattle.fix_math.specs.Directions.{unit_of}
use Rattle.fix_math.specs.Matrices.{IsVectorWithin, component}
use Rattle.fix_math.specs.RootLaws.{root_least, root_order}
use Rattle.fix_math.specs.Vectors.{dot_of, length_of, rounded_dot_of}
use Rattle.scene_model.specs.declared.light.Light.{Light}
use Rattle.scene_model.specs.declared.scene.Scene.{Scene}
use Rattle.scene_model.specs.Amounts.{AreAmounts, IsAmount}
use Rattle.csg_hits.specs.Surfaces.{Surfaces}
use Rattle.finish_shade.specs.declared.lit.Lit.{Lit}
use Rattle.finish_shade.specs.declared.met.Met.{Met}
use Rattle.finish_shade.specs.Arrivals.{Arrives, IsLit, arriving_light, direction_to, distance_to, ray_to, shone_upon, slant_of, way_to, with_lamp}
use Rattle.finish_shade.specs.Finishes.{plus}

-- with more lamps in the first place
abbrev pub Adds : Surfaces → Scene → V3 → Met → Light → Lit → Lit → Type 0
Adds s scene dir met lamp before after = (lamps : List Light) (all : Lit) → IsLit s scene dir met after lamps all → IsLit s scene dir met before (lamp ∷ lamps) all

abbrev pub LeftOf : Surfaces → Scene → V3 → Met → Lit → List Light → ℕ → Lit → Type 0
LeftOf s scene dir met start lamps i lit = (all : Lit) → IsLit s scene dir met lit (drop i lamps) all → IsLit s scene dir met start lamps all

pub one_lamp_more : (s : Surfaces) (scene : Scene) (dir : V3) (met : Met) (start : Lit) (lamps : List Light) (i : ℕ) (lamp : Light) (before after : Lit) → i < length lamps → lamp ≡ get_or lamps i lamp
    → LeftOf s scene dir met start lamps i before → Adds s scene dir met lamp before after → LeftOf s scene dir met start lamps (i + 1) after
one_lamp_more s scene dir met start lamps i lamp before after lt is left adds all h =
    let here : drop i lamps ≡ lamp ∷ drop (suc i) lamps = drop-cons lamps i lamp lt ∙ ap (λ y. y ∷ drop (suc i) lamps) (sym is) in
    let P : List Light → Type 0 = λ xs. IsLit s scene dir met before xs all in
    let Q : ℕ → Type 0 = λ k. IsLit s scene dir met after (drop k lamps) all in
    left all (subst P (sym here) (adds (drop (suc i) lamps) all (subst Q (add-one i) h)))

pub all_lamps : (s : Surfaces) (scene : Scene) (dir : V3) (met : Met) (start : Lit) (lamps : List Light) (i : ℕ) (lit : Lit) → length lamps ≤ i → LeftOf s scene dir met start lamps i lit → IsLit s scene dir met start lamps lit
all_lamps s scene dir met start lamps i lit past left =
    let P : List Light → Type 0 = λ xs. IsLit s scene dir met lit xs lit in left lit (subst P (sym (drop_of_length-le lamps past)) (IsLit.all lit))

-- ---- sizes

pub amount_weaker : (n m : ℕ) (z : ℤ) → n ≤ m → IsAmount n z → IsAmount m z
amount_weaker n m z le h = let high = h.high in record { low = h.low; high = omega arith }

pub amounts_weaker : (n m : ℕ) (c : List ℤ) → n ≤ m → AreAmounts n c → AreAmounts m c
amounts_weaker n m c le h = record { first = amount_weaker n m _ le h.first; second = amount_weaker n m _ le h.second; third = amount_weaker n m _ le h.third }

pub amount_sum : (n m : ℕ) (a b : ℤ) → IsAmount n a → IsAmount m b → IsAmount (n + m) (a +ℤ b)
amount_sum n m a b h k =
    let ah = h.high in let al = h.low in let bh = k.high in let bl = k.low in record { low = omega (arith, ints); high = omega (arith, ints) }

pub amounts_sum : (n m : ℕ) (a b : List ℤ) → AreAmounts n a → AreAmounts m b → AreAmounts (n + m) (plus a b)
amounts_sum n m a b h k = record {
  first = amount_sum n m (component a 0) (component b 0) h.first k.first;
  second = amount_sum n m (component a 1) (component b 1) h.second k.second;
  third = amount_sum n m (component a 2) (component b 2) h.third k.third;
}

-- a list that is another one
pub read_in : {A : Type 0} (xs list : List A) (n : ℕ) (x : A) → list ≡ xs → n < length list → x ≡ get_or list n x → (n < length xs) × (x ≡ get_or xs n x)
read_in {A} xs list n x same lt e = let P : List A → Type 0 = λ l. (n < length l) × (x ≡ get_or l n x) in subst P same (lt, e)

pub past_in : {A : Type 0} (xs list : List A) (n : ℕ) → list ≡ xs → length list ≤ n → length xs ≤ n
past_in {A} xs list n same past = let P : List A → Type 0 = λ l. length l ≤ n in subst P same past

-- ---- one lamp

pub low : (z : ℤ) → le_z z (pos 0) ≡ true → z ≤ℤ pos 0
low z h = omega (arith, ints)

pub high : (z : ℤ) → le_z z (pos 0) ≡ false → pos 0 <ℤ z
high z h = omega (arith, ints)

above : (z w : ℤ) → z ≡ w → pos 0 <ℤ z → int_lt (pos 0) w ≡ true
above z w e h = by_test (int_lt (pos 0) w) refl
  where
    by_test : (b : Bool) → int_lt (pos 0) w ≡ b → int_lt (pos 0) w ≡ true
    by_test true is = is
    by_test false is = absurd (let le : w ≤ℤ pos 0 = omega (arith, ints) in omega (arith, ints))

not_above : (z w : ℤ) → z ≡ w → z ≤ℤ pos 0 → int_lt (pos 0) w ≡ false
not_above z w e h = by_test (int_lt (pos 0) w) refl
  where
    by_test : (b : Bool) → int_lt (pos 0) w ≡ b → int_lt (pos 0) w ≡ false
    by_test false is = is
    by_test true is = absurd (let lt : pos 0 <ℤ w = omega (arith, ints) in omega (arith, ints))

pub adds_nothing : (s : Surfaces) (scene : Scene) (dir : V3) (met : Met) (lamp : Light) (lit : Lit) (way direction : V3) (slant : ℤ) → way ≡ way_to met.from lamp → direction ≡ unit_of way → slant ≡ rounded_dot_of met.normal direction → slant ≤ℤ pos 0
    → Adds s scene dir met lamp lit lit
adds_nothing s scene dir met lamp lit way direction slant w d e low lamps all h =
    IsLit.turned_away lit lamp lamps all (not_above slant (slant_of met lamp) (e ∙ ap (rounded_dot_of met.normal) (d ∙ ap unit_of w)) low) h

pub adds_light : (s : Surfaces) (scene : Scene) (dir : V3) (met : Met) (lamp : Light) (before after : Lit) (way direction : V3) (slant : ℤ) (distance : ℕ) (arriving light : List ℤ) → way ≡ way_to met.from lamp → direction ≡ unit_of way
    → slant ≡ rounded_dot_of met.normal direction → distance ≡ length_of way → pos 0 <ℤ slant → Arrives s scene lamp (record { origin = met.from; dir = direction }) distance arriving → light ≡ arriving_light lamp direction distance arriving
    → after ≡ shone_upon dir met direction slant light before → Adds s scene dir met lamp before after
adds_light s scene dir met lamp before after way direction slant distance arriving light w d e l high arrives is made lamps all h =
    let to : direction ≡ direction_to met.from lamp = d ∙ ap unit_of w in
    let far : distance ≡ distance_to met.from lamp = l ∙ ap length_of w in
    let slants : slant ≡ slant_of met lamp = e ∙ ap (rounded_dot_of met.normal) to in
    let P : V3 → Type 0 = λ v. Arrives s scene lamp (record { origin = met.from; dir = v }) distance arriving in
    let Q : ℕ → Type 0 = λ n. Arrives s scene lamp (ray_to met.from lamp) n arriving in
    let R : Lit → Type 0 = λ x. IsLit s scene dir met x lamps all in
    let same : after ≡ with_lamp dir met lamp arriving before =
    made ∙ (ap (λ (x : List ℤ). shone_upon dir met direction slant x before) (is ∙ (ap (λ (v : V3). arriving_light lamp v distance arriving) to ∙ ap (λ (n : ℕ). arriving_light lamp (direction_to met.from lamp) n arriving) far))
    ∙ (ap (λ (v : V3). shone_upon dir met v slant (arriving_light lamp (direction_to met.from lamp) (distance_to met.from lamp) arriving) before) to
    ∙ ap (λ (z : ℤ). shone_upon dir met (direction_to met.from lamp) z (arriving_light lamp (direction_to met.from lamp) (distance_to met.from lamp) arriving) before) slants)) in
    IsLit.shone before lamp lamps arriving all (above slant (slant_of met lamp) slants high) (subst Q far (subst P to arrives)) (subst R same h)

square_below : (x : ℕ) → x ≤ 2 ^ 37 → x * x ≤ 2 ^ 74
square_below x h = let k = mul-le-mul h h in omega arith

-- the distance to a lamp
pub lamp_near : (v : V3) → IsVectorWithin (2 ^ 37) v → length_of v < 2 ^ 40
lamp_near v h =
    let e = sum_of_squares v.x v.y v.z in
    let x = square_below (unsigned_abs v.x) h.first in
    let y = square_below (unsigned_abs v.y) h.second in
    let z = square_below (unsigned_abs v.z) h.third in
    let n : ℕ = unsigned_abs (dot_of v v) in
    let le : length_of v ≤ 2 ^ 38 = root_order (length_of v) (2 ^ 38) (omega (arith, root_least n)) in
    omega arith
